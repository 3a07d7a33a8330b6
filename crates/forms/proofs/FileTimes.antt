-- File times as a form: what a count is worth, what count is at an instant, and that it is read back.
use Rattle.std.proofs.Common.{◌≡◌, ℕ, ◌+◌, ◌-◌, ◌*◌, ◌/◌, ◌%◌, ◌^◌, ◌<◌, ◌≤◌, ◌==◌, false, List, [], length, Ok, Err, decimal, ◌⊎◌, refl}
use Rattle.std.proofs.Common.{sym, ◌∙◌, ap, subst, inl, inr, arith}
use Rattle.std.specs.Prelude.{ℤ, pos, negsuc, ◌-ℤ◌, ◌<ℤ◌, ◌≤ℤ◌, nat_lt, ◌≢◌}
use Rattle.std.proofs.lemmas.Bool.{ltb-true, lt-ltb, le-ltb}
use Rattle.std.proofs.lemmas.Bool.Decides.{nat_tests}
use Rattle.std.proofs.lemmas.Int.{ints}
use Rattle.nt_time.specs.declared.error.FileTimeRangeErrorKind.{FileTimeRangeErrorKind}
use Rattle.nt_time.specs.declared.error.FileTimeRangeErrorKind.TheVariants.{Negative, Overflow}
use Rattle.nt_time.specs.FileTime.{IsFileTime, unix_nanos}
use Rattle.nt_time.specs.Text.{IsTextOf, IsReadFrom}
use Rattle.nt_time.specs.declared.error.ParseFileTimeCause.{ParseFileTimeCause}
use Rattle.nt_time.specs.declared.error.ParseFileTimeCause.TheVariants.{Empty, InvalidDigit, Overflow as TooGreat}
use Rattle.nt_time.specs.UnixTime.{IsFromUnixNanos}
use Rattle.forms.specs.declared.cause.Cause.TheVariants.{Syntax, Range, Kind, Precision}
use Rattle.forms.specs.declared.form.Form.TheVariants.{FileTime}
use Rattle.forms.specs.declared.value.Value.{Value}
use Rattle.forms.specs.declared.value.Value.TheVariants.{Instant}
use Rattle.forms.specs.Answers.{Is, ReadsBy}
use Rattle.forms.specs.Values.{IsWithinBounds}
use Rattle.forms.specs.form.FileTime.{worth, ticks_after, held}
use Rattle.nt_time.specs.Text.{IsTextOf}
use Rattle.forms.specs.inside.Lawful.{Lawful}
use Rattle.forms.proofs.Fitting.{less, no_more}
use Rattle.forms.proofs.Lawful.{AreAscii, then_ok, else_ok, same_ok, one_image, IsHeldBack, lawful_by}

-- ---- reading

worth_within : (ticks : ℕ) → ticks < 2 ^ 64 → worth ticks ≡ Ok (Instant (unix_nanos ticks))
unfolding worth
worth_within ticks h = rw (lt-ltb ticks (2 ^ 64) h) refl

worth_beyond : (ticks : ℕ) → 2 ^ 64 ≤ ticks → worth ticks ≡ Err Range
unfolding worth
worth_beyond ticks h = rw (le-ltb ticks (2 ^ 64) h) refl

pub reads_ticks : (text : List ℕ) (ticks : ℕ) → IsTextOf text ticks → ticks < 2 ^ 64
    → ReadsBy IsTextOf (Is worth) text (Ok (Instant (unix_nanos ticks)))
reads_ticks text ticks spelled fits = inl (ticks, spelled, sym (worth_within ticks fits))

pub reads_beyond : (text : List ℕ) (cause : ParseFileTimeCause) → IsReadFrom text (Err cause) → cause ≡ TooGreat
    → ReadsBy IsTextOf (Is worth) text (Err Range)
reads_beyond text cause from is = let h = from.overflow.0 (ap Err is) in inl (h.0, h.1, sym (worth_beyond h.0 h.2))

empty_spells : (n : ℕ) → IsTextOf [] n → ⊥
empty_spells n (digits, numeral, value, inl e) = let some = numeral.0 in
    absurd (subst (λ (l : List ℕ). 0 < length l → ⊥) e (λ less. omega arith) some)
empty_spells n (digits, numeral, value, inr e) = cc

reads_none : (text : List ℕ) (cause : ParseFileTimeCause) → IsReadFrom text (Err cause)
    → (cause ≡ Empty) ⊎ (cause ≡ InvalidDigit) → (n : ℕ) → IsTextOf text n → ⊥
reads_none text cause from (inl is) n spelled = empty_spells n (subst (λ (l : List ℕ). IsTextOf l n) (from.empty.0 (ap Err is)) spelled)
reads_none text cause from (inr is) n spelled = (from.invalid.0 (ap Err is)).1 n spelled

-- what the reader of file times refuses
pub reads_syntax : (text : List ℕ) (cause : ParseFileTimeCause) → IsReadFrom text (Err cause)
    → (cause ≡ Empty) ⊎ (cause ≡ InvalidDigit) → ReadsBy IsTextOf (Is worth) text (Err Syntax)
reads_syntax text cause from is = inr (reads_none text cause from is, refl)

-- ---- the count at an instant

at_tick : (nanos ticks : ℕ) → nanos ≡ 100 * ticks → ticks < 2 ^ 64 → ticks_after (pos nanos) ≡ Ok ticks
unfolding ticks_after
at_tick nanos ticks e fits =
    let last : nat_lt (100 * (2 ^ 64 - 1)) nanos ≡ false = le-ltb _ _ (omega arith) in
    let rest : nanos % 100 ≡ 0 = omega arith in
    let ticks_are : nanos / 100 ≡ ticks = omega arith in
    rw (last, rest, ticks_are) refl

between_ticks : (nanos : ℕ) → nanos ≤ 100 * (2 ^ 64 - 1) → (nanos % 100 ≡ 0 → ⊥)
    → ticks_after (pos nanos) ≡ Err Precision
unfolding ticks_after
between_ticks nanos fits some =
    let last : nat_lt (100 * (2 ^ 64 - 1)) nanos ≡ false = le-ltb _ _ fits in
    let rest : (nanos % 100 == 0) ≡ false = grind (arith, nat_tests) in
    rw (last, rest) refl

after_last : (nanos : ℕ) → 100 * (2 ^ 64 - 1) < nanos → ticks_after (pos nanos) ≡ Err Range
unfolding ticks_after
after_last nanos h = rw (lt-ltb _ _ h) refl

before_first : (z : ℤ) → z <ℤ pos 0 → ticks_after z ≡ Err Range
unfolding ticks_after
before_first (pos n) h = absurd (omega (arith, ints))
before_first (negsuc n) h = refl

beyond_last : (z : ℤ) → pos (100 * (2 ^ 64 - 1)) <ℤ z → ticks_after z ≡ Err Range
beyond_last (pos n) h = after_last n (omega (arith, ints))
beyond_last (negsuc n) h = absurd (omega (arith, ints))

-- the instant of a count
pub exact_tick : (nanos : ℤ) (ticks : ℕ) → unix_nanos ticks ≡ nanos → ticks < 2 ^ 64
    → ticks_after (nanos -ℤ unix_nanos 0) ≡ Ok ticks
exact_tick nanos ticks e fits =
    let z : nanos -ℤ unix_nanos 0 ≡ pos (100 * ticks) = omega (arith, ints) in
    ap ticks_after z ∙ at_tick (100 * ticks) ticks refl fits

not_whole : (z : ℤ) (ticks : ℕ) → pos (100 * ticks) ≤ℤ z → z <ℤ pos (100 * (ticks + 1)) → z ≢ pos (100 * ticks)
    → z ≤ℤ pos (100 * (2 ^ 64 - 1)) → ticks_after z ≡ Err Precision
not_whole (pos n) ticks least most not last = between_ticks n (omega (arith, ints)) (λ whole. not (omega (arith, ints)))
not_whole (negsuc n) ticks least most not last = absurd (omega (arith, ints))

-- an instant between two counts
pub between : (nanos : ℤ) (ticks : ℕ) → IsFromUnixNanos nanos (Ok ticks) → unix_nanos ticks ≢ nanos
    → ticks_after (nanos -ℤ unix_nanos 0) ≡ Err Precision
between nanos ticks from not =
    let floor = from.ok in
    let next : nanos <ℤ unix_nanos (ticks + 1) = less (unix_nanos (ticks + 1)) nanos
    (λ h. let more = floor.1 (ticks + 1) h in omega arith) in
    let last : nanos ≤ℤ unix_nanos (2 ^ 64 - 1) = no_more (unix_nanos (2 ^ 64 - 1)) nanos (λ h. let e = from.overflow.1 h in cc) in
    let least : pos (100 * ticks) ≤ℤ (nanos -ℤ unix_nanos 0) = let l = floor.0 in omega (arith, ints) in
    not_whole (nanos -ℤ unix_nanos 0) ticks least (omega (arith, ints)) (λ e. not (omega (arith, ints))) (omega (arith, ints))

-- the count that an instant is given has 64 bits
pub count_fits : (nanos : ℤ) (ticks : ℕ) → IsFromUnixNanos nanos (Ok ticks) → unix_nanos ticks ≡ nanos → ticks < 2 ^ 64
count_fits nanos ticks from e =
    let last : nanos ≤ℤ unix_nanos (2 ^ 64 - 1) = no_more (unix_nanos (2 ^ 64 - 1)) nanos (λ h. let e = from.overflow.1 h in cc) in
    omega (arith, ints)

-- 10_330_176_681_277_348_905 is the inverse of 25 modulo 2^64
pub divided : (ticks : ℕ) → ticks < 2 ^ 64 → (100 * ticks / 4) % 2 ^ 64 * 10_330_176_681_277_348_905 % 2 ^ 64 ≡ ticks
divided ticks fits = omega arith

-- an instant before the first count or after the last
pub beyond : (nanos : ℤ) (error : FileTimeRangeErrorKind) → IsFromUnixNanos nanos (Err error)
    → ticks_after (nanos -ℤ unix_nanos 0) ≡ Err Range
beyond nanos Negative from = let h = from.negative.0 refl in before_first (nanos -ℤ unix_nanos 0) (omega (arith, ints))
beyond nanos Overflow from = let h = from.overflow.0 refl in beyond_last (nanos -ℤ unix_nanos 0) (omega (arith, ints))

-- ---- the laws

within : (text : List ℕ) (ticks : ℕ) (value : Value) → IsTextOf text ticks → worth ticks ≡ Ok value → IsWithinBounds value
unfolding worth
within text ticks value spelled h =
    let parts = then_ok (nat_lt ticks (2 ^ 64)) (Ok (Instant (unix_nanos ticks))) value Range h in
    let fits = ltb-true ticks (2 ^ 64) parts.0 in
    subst IsWithinBounds (same_ok (Instant (unix_nanos ticks)) value parts.1) (omega (arith, ints), omega (arith, ints))

ticks_held : (z : ℤ) (ticks : ℕ) → ticks_after z ≡ Ok ticks → (z ≡ pos (100 * ticks)) × (ticks < 2 ^ 64)
unfolding ticks_after
ticks_held (negsuc n) ticks h = absurd (let e : Err Range ≡ Ok ticks = h in cc)
ticks_held (pos n) ticks h =
    let first = else_ok (nat_lt (100 * (2 ^ 64 - 1)) n) _ ticks Range h in
    let second = then_ok (n % 100 == 0) (Ok (n / 100)) ticks Precision first.1 in
    let rest : n % 100 ≡ 0 = let e = second.0 in grind (arith, nat_tests) in
    let ticks_are = same_ok (n / 100) ticks second.1 in
    let whole : n ≡ 100 * ticks = omega arith in
    let last : n ≤ 100 * (2 ^ 64 - 1) = let e = first.0 in grind (arith, nat_tests) in
    (ap pos whole, omega arith)

held_back : ((ticks : ℕ) → IsFileTime ticks → IsTextOf (decimal ticks) ticks) → (value : Value) (ticks : ℕ)
    → IsWithinBounds value → held value ≡ Ok ticks → IsHeldBack IsTextOf (Is worth) (Is held) (decimal ticks) value ticks
held_back digits (Instant nanos) ticks w h =
    let count = ticks_held (nanos -ℤ unix_nanos 0) ticks h in
    let same : unix_nanos ticks ≡ nanos = let e = count.0 in omega (arith, ints) in
    record {
      meaning = ticks;
      back = Instant nanos;
      spelled = digits ticks count.1;
      valued = sym (worth_within ticks count.1 ∙ ap (λ (z : ℤ). Ok (Instant z)) same);
      same = refl;
      again = sym h;
    }
held_back digits _ ticks w h = absurd (let e : Err Kind ≡ Ok ticks = h in cc)

pub file_times : ((text : List ℕ) (m n : ℕ) → IsTextOf text m → IsTextOf text n → m ≡ n)
    → ((ticks : ℕ) → IsFileTime ticks → IsTextOf (decimal ticks) ticks) → AreAscii IsTextOf → Lawful FileTime
file_times one digits ascii =
    lawful_by FileTime IsTextOf (Is worth) (Is held) decimal (record {
      reads = λ text a h. h;
      read = λ text a h. h;
      writes = λ value a h. h;
      written = λ value a h. h;
    })
    (record {
      one = one;
      one_worth = one_image worth;
      one_held = one_image held;
      ascii = ascii;
      within = λ text ticks value spelled h. within text ticks value spelled (sym h);
      back =
          λ value ticks w h. held_back digits value ticks w (sym h);
    })
