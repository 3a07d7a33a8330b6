-- Short durations as a form: what a length is worth, which lengths are held, and that they are read back.
use Rattle.std.proofs.Common.{◌≡◌, ℕ, ◌*◌, ◌%◌, ◌^◌, ◌<◌, ◌≤◌, Bool, true, false, List, Ok, Err, refl, sym, ◌∙◌, ap}
use Rattle.std.proofs.Common.{subst, inl, inr, arith}
use Rattle.std.specs.Prelude.{ℤ, pos, negsuc, ◌<ℤ◌, nat_le, nat_lt, ◌↔◌}
use Rattle.std.specs.Ordering.{int_eq}
use Rattle.std.proofs.lemmas.Bool.{and_from, and_parts, false_from_ne_true, leb-true, le-leb, ltb-true, lt-ltb, le-ltb}
use Rattle.std.proofs.lemmas.Bool.Decides.{nat_tests}
use Rattle.std.proofs.lemmas.Int.{ints}
use Rattle.fancy_duration.specs.Breakdown.{breakdown, count_of}
use Rattle.fancy_duration.specs.Parts.{weight_of}
use Rattle.fancy_duration.specs.Collisions.{MonthsStandAlone}
use Rattle.fancy_duration.specs.Meanings.{Denotes, IsTooBig}
use Rattle.fancy_duration.specs.Strict.{IsStrict}
use Rattle.fancy_duration.specs.Sums.{SumsTo}
use Rattle.fancy_duration.specs.Times.{nanos_of, times_of}
use Rattle.fancy_duration.specs.Written.{length_text}
use Rattle.fancy_duration.specs.declared.part.DurationPart.TheVariants.{Years, Months, Minutes}
use Rattle.forms.specs.declared.cause.Cause.TheVariants.{Syntax, Range, Kind, Ambiguous}
use Rattle.forms.specs.declared.form.Form.TheVariants.{Fancy}
use Rattle.forms.specs.declared.value.Value.{Value}
use Rattle.forms.specs.declared.value.Value.TheVariants.{Triple, Length}
use Rattle.forms.specs.Answers.{Is, ReadsBy}
use Rattle.forms.specs.Values.{IsWithinBounds, Same, nanos_of as triple_nanos}
use Rattle.fancy_duration.specs.Spelled.{SpellsLength}
use Rattle.forms.specs.form.Fancy.{worth, has_months_alone, length_of, held}
use Rattle.forms.specs.inside.FancyParts.{length_of_triple}
use Rattle.forms.specs.inside.Lawful.{Lawful}
use Rattle.forms.proofs.Lawful.{AreAscii, then_ok, else_ok, same_ok, one_image, IsHeldBack, lawful_by}

-- ---- reading

-- what the law of the crate below says of strict texts
abbrev pub AreSums : Type 0
AreSums = (text : List ℕ) (nanos : ℕ) → SpellsLength text nanos ↔ IsStrict text × SumsTo text nanos

pub reads_none : AreSums → (text : List ℕ) → (IsStrict text → ⊥) → ReadsBy SpellsLength (Is worth) text (Err Syntax)
reads_none sums text none = inr ((λ nanos spelled. none ((sums text nanos).0 spelled).0), refl)

worth_within : (nanos : ℕ) → nanos < 2 ^ 64 * 1_000_000_000 → worth nanos ≡ Ok (Length nanos)
unfolding worth
worth_within nanos h = rw (lt-ltb nanos (2 ^ 64 * 1_000_000_000) h) refl

worth_beyond : (nanos : ℕ) → 2 ^ 64 * 1_000_000_000 ≤ nanos → worth nanos ≡ Err Range
unfolding worth
worth_beyond nanos h = rw (le-ltb nanos (2 ^ 64 * 1_000_000_000) h) refl

pub reads_length : AreSums → (text : List ℕ) (times : ℕ × ℕ) → IsStrict text → Denotes text times → (given : ℕ)
    → given ≡ nanos_of times → ReadsBy SpellsLength (Is worth) text (Ok (Length given))
reads_length sums text times strict h given e =
    let seconds = h.seconds in
    let rest = h.nanoseconds in
    let fits : nanos_of times < 2 ^ 64 * 1_000_000_000 = omega arith in
    inl (
      nanos_of times,
      (sums text (nanos_of times)).1 (strict, h.sums),
      ap (λ (n : ℕ). Ok (Length n)) e
          ∙ sym (worth_within (nanos_of times) fits),
    )

pub reads_too_big : AreSums → (text : List ℕ) → IsStrict text → IsTooBig text → ReadsBy SpellsLength (Is worth) text (Err Range)
reads_too_big sums text strict h =
    let beyond = h.beyond in
    let fits : 2 ^ 64 * 1_000_000_000 ≤ h.nanos = omega arith in
    inl (h.nanos, (sums text h.nanos).1 (strict, h.sums), sym (worth_beyond h.nanos fits))

-- ---- the length of a value

pub months_alone : (nanos : ℕ) → has_months_alone nanos ≡ true → MonthsStandAlone nanos
unfolding has_months_alone breakdown count_of
months_alone nanos h =
    let parts = and_parts (nat_le (weight_of Months) (nanos % weight_of Years))
    (nat_lt (nanos % weight_of Years % weight_of Months) (weight_of Minutes)) h in
    let some : weight_of Months ≤ nanos % weight_of Years = leb-true _ _ parts.0 in
    let short : nanos % weight_of Years % weight_of Months < weight_of Minutes = ltb-true _ _ parts.1 in
    record {
      months = omega (arith, some);
      weeks = omega (arith, short);
      days = omega (arith, short);
      hours = omega (arith, short);
      minutes = omega (arith, short);
    }

pub alone_tested : (nanos : ℕ) → MonthsStandAlone nanos → has_months_alone nanos ≡ true
unfolding has_months_alone breakdown count_of
alone_tested nanos h =
    and_from _ _ (le-leb (weight_of Months) (nanos % weight_of Years) (omega (arith, h.months)))
    (lt-ltb (nanos % weight_of Years % weight_of Months) (weight_of Minutes) (omega (arith, h.weeks, h.days, h.hours, h.minutes)))

pub negative : (z : ℤ) → z <ℤ pos 0 → length_of z ≡ Err Range
unfolding length_of
negative (pos n) h = absurd (omega (arith, ints))
negative (negsuc n) h = refl

pub too_long : (nanos : ℕ) → 2 ^ 64 * 1_000_000_000 ≤ nanos → length_of (pos nanos) ≡ Err Range
unfolding length_of
too_long nanos h = rw (le-ltb nanos (2 ^ 64 * 1_000_000_000) h) refl

pub read_back : (nanos : ℕ) → nanos < 2 ^ 64 * 1_000_000_000 → (MonthsStandAlone nanos → ⊥)
    → length_of (pos nanos) ≡ Ok nanos
unfolding length_of
read_back nanos fits isnt = rw (
  lt-ltb nanos (2 ^ 64 * 1_000_000_000) fits,
  false_from_ne_true (has_months_alone nanos) (λ h. isnt (months_alone nanos h)),
) refl

alone_from : (nanos : ℕ) (test : Bool) → has_months_alone nanos ≡ test → ((MonthsStandAlone nanos → ⊥) → ⊥)
    → has_months_alone nanos ≡ true
alone_from nanos true e h = e
alone_from nanos false e h = absurd (h (λ alone. let both : true ≡ false = sym (alone_tested nanos alone) ∙ e in cc))

pub ambiguous : (nanos : ℕ) → nanos < 2 ^ 64 * 1_000_000_000 → ((MonthsStandAlone nanos → ⊥) → ⊥)
    → length_of (pos nanos) ≡ Err Ambiguous
unfolding length_of
ambiguous nanos fits h = rw (lt-ltb nanos (2 ^ 64 * 1_000_000_000) fits, alone_from nanos (has_months_alone nanos) refl h) refl

-- ---- the laws

within : (text : List ℕ) (nanos : ℕ) (value : Value) → SpellsLength text nanos → worth nanos ≡ Ok value → IsWithinBounds value
unfolding worth
within text nanos value spelled h =
    let parts = then_ok (nat_lt nanos (2 ^ 64 * 1_000_000_000)) (Ok (Length nanos)) value Range h in
    subst IsWithinBounds (same_ok (Length nanos) value parts.1) (ltb-true nanos (2 ^ 64 * 1_000_000_000) parts.0)

-- what is held of a length
pub record IsHeldLength (z : ℤ) (nanos : ℕ) : Type 0 where
  pub is : z ≡ pos nanos
  pub fits : nanos < 2 ^ 64 * 1_000_000_000
  pub clear : MonthsStandAlone nanos → ⊥

length_held : (z : ℤ) (nanos : ℕ) → length_of z ≡ Ok nanos → IsHeldLength z nanos
unfolding length_of
length_held (negsuc n) nanos h = absurd (let e : Err Range ≡ Ok nanos = h in cc)
length_held (pos n) nanos h =
    let first = then_ok (nat_lt n (2 ^ 64 * 1_000_000_000)) _ nanos Range h in
    let second = else_ok (has_months_alone n) (Ok n) nanos Ambiguous first.1 in
    let same = same_ok n nanos second.1 in
    record {
      is = ap pos same;
      fits = subst (λ (k : ℕ). k < 2 ^ 64 * 1_000_000_000) same (ltb-true n (2 ^ 64 * 1_000_000_000) first.0);
      clear = λ alone. let both : true ≡ false = sym (alone_tested n (subst MonthsStandAlone (sym same) alone)) ∙ second.0 in cc;
    }

-- what the laws of the crate below say of written texts
abbrev pub AreStrict : Type 0
AreStrict = (nanos : ℕ) → nanos < 2 ^ 64 * 1_000_000_000 → IsStrict (length_text nanos)

abbrev pub AreReadBack : Type 0
AreReadBack = (times : ℕ × ℕ) → times.0 < 2 ^ 64 → times.1 < 1_000_000_000 → Denotes (length_text (nanos_of times)) times
    ↔ (MonthsStandAlone (nanos_of times) → ⊥)

sums_back : AreReadBack → (nanos : ℕ) → nanos < 2 ^ 64 * 1_000_000_000 → (MonthsStandAlone nanos → ⊥)
    → SumsTo (length_text nanos) nanos
sums_back back nanos fits clear =
    let same : nanos_of (times_of nanos) ≡ nanos = omega arith in
    let denoted = (back (times_of nanos) (omega arith) (omega arith)).1 (λ alone. clear (subst MonthsStandAlone same alone)) in
    subst (λ (n : ℕ). SumsTo (length_text n) n) same denoted.sums

held_by : AreSums → AreStrict → AreReadBack → (value : Value) (z : ℤ) (nanos : ℕ) → length_of z ≡ Ok nanos
    → Same value (Length nanos) → IsHeldBack SpellsLength (Is worth) (Is held) (length_text nanos) value nanos
held_by sums strict back value z nanos h same =
    let found = length_held z nanos h in
    record {
      meaning = nanos;
      back = Length nanos;
      spelled = (sums (length_text nanos) nanos).1 (strict nanos found.fits, sums_back back nanos found.fits found.clear);
      valued = sym (worth_within nanos found.fits);
      same = same;
      again = sym (ap length_of (sym found.is) ∙ h);
    }

is_int : (a b : ℤ) → int_eq a b ≡ true → a ≡ b
is_int a b h = grind (arith, nat_tests)

pub without_months : (months days micros : ℤ) → months ≡ pos 0
    → length_of_triple months days micros ≡ length_of (triple_nanos days micros)
without_months months days micros none = rw none refl

pub with_months : (months days micros : ℤ) → (months ≡ pos 0 → ⊥) → length_of_triple months days micros ≡ Err Kind
with_months months days micros some = rw (false_from_ne_true (int_eq months (pos 0)) (λ h. some (is_int months (pos 0) h))) refl

triple_held : (months days micros : ℤ) (nanos : ℕ) → length_of_triple months days micros ≡ Ok nanos
    → (months ≡ pos 0) × (length_of (triple_nanos days micros) ≡ Ok nanos)
triple_held months days micros nanos h =
    let first = then_ok (int_eq months (pos 0)) (length_of (triple_nanos days micros)) nanos Kind h in
    (is_int months (pos 0) first.0, first.1)

held_back : AreSums → AreStrict → AreReadBack → (value : Value) (nanos : ℕ) → IsWithinBounds value → held value ≡ Ok nanos
    → IsHeldBack SpellsLength (Is worth) (Is held) (length_text nanos) value nanos
held_back sums strict back (Length n) nanos w h =
    let found = length_held (pos n) nanos h in
    let same : n ≡ nanos = let e = found.is in omega (arith, ints) in
    held_by sums strict back (Length n) (pos n) nanos h (ap Length same)
held_back sums strict back (Triple months days micros) nanos w h =
    let parts = triple_held months days micros nanos h in
    let found = length_held (triple_nanos days micros) nanos parts.1 in
    held_by sums strict back (Triple months days micros) (triple_nanos days micros) nanos parts.1 (parts.0, found.is)
held_back sums strict back _ nanos w h = absurd (let e : Err Kind ≡ Ok nanos = h in cc)

pub short_durations : ((text : List ℕ) (a b : ℕ) → SumsTo text a → SumsTo text b → a ≡ b) → AreSums → AreStrict → AreReadBack
    → AreAscii SpellsLength → Lawful Fancy
short_durations one sums strict back ascii =
    lawful_by Fancy SpellsLength (Is worth) (Is held) length_text
    (record { reads = λ text a h. h; read = λ text a h. h; writes = λ value a h. h; written = λ value a h. h })
    (record {
      one = λ text a b h k. one text a b ((sums text a).0 h).1 ((sums text b).0 k).1;
      one_worth = one_image worth;
      one_held = one_image held;
      ascii = ascii;
      within = λ text nanos value spelled h. within text nanos value spelled (sym h);
      back = λ value nanos w h. held_back sums strict back value nanos w (sym h);
    })
