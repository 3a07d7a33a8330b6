-- Durations of ISO 8601 as a form: the triple of a duration, the duration of a value, and that it is read back.
use Rattle.std.proofs.Common.{◌≡◌, ◌⊎◌, ℕ, ◌+◌, ◌*◌, ◌/◌, ◌%◌, ◌^◌, ◌<◌, ◌≤◌, ◌==◌, ◌&&◌, Bool, true, false, List, codes, Ok, Err, refl}
use Rattle.std.proofs.Common.{sym, ◌∙◌, ap, subst, inl, inr, arith}
use Rattle.std.specs.Prelude.{pos, negsuc, ◌+ℤ◌, ◌*ℤ◌, nat_lt}
use Rattle.std.proofs.lemmas.Bool.{and_parts, false_from_ne_true, ltb-true, lt-ltb, le-ltb}
use Rattle.std.proofs.lemmas.Bool.Decides.{nat_tests}
use Rattle.std.proofs.lemmas.Int.{ints}
use Rattle.iso8601.specs.Durations.{IsCount, IsCounted, IsDated, IsDuration}
use Rattle.iso8601.specs.Fields.{IsOrZero}
use Rattle.iso8601.specs.Ranges.{IsDurationInRange}
use Rattle.iso8601.specs.WrittenDurations.{duration_text}
use Rattle.iso8601.specs.declared.types.Duration.{Duration}
use Rattle.iso8601.specs.declared.types.Duration.TheVariants.{Weeks}
use Rattle.forms.specs.declared.cause.Cause.TheVariants.{Range, Kind, Precision}
use Rattle.forms.specs.declared.form.Form.TheVariants.{IsoDuration}
use Rattle.forms.specs.declared.value.Value.{Value}
use Rattle.forms.specs.declared.value.Value.TheVariants.{Triple, Length}
use Rattle.forms.specs.Answers.{Is}
use Rattle.forms.specs.Values.{IsWithinBounds, Same}
use Rattle.forms.specs.form.IsoDuration.{triple_of, worth, duration_of, counts_of, held_length, held}
use Rattle.forms.specs.inside.IsoParts.{micros_of}
use Rattle.forms.specs.inside.Lawful.{Lawful}
use Rattle.forms.proofs.Lawful.{AreAscii, then_ok, same_ok, one_image, IsHeldBack, lawful_by}

-- ---- reading

pub triple_fits : (months days micros : ℕ) → micros < 2 ^ 63
    → triple_of months days micros ≡ Ok (Triple (pos months) (pos days) (pos micros))
unfolding triple_of
triple_fits months days micros h = rw (lt-ltb micros (2 ^ 63) h) refl

pub triple_too_long : (months days micros : ℕ) → 2 ^ 63 ≤ micros → triple_of months days micros ≡ Err Range
unfolding triple_of
triple_too_long months days micros h = rw (le-ltb micros (2 ^ 63) h) refl

triple_within : (months days micros : ℕ) → months < 2 ^ 63 → days < 2 ^ 63 → (value : Value)
    → triple_of months days micros ≡ Ok value → IsWithinBounds value
unfolding triple_of
triple_within months days micros m d value h =
    let parts = then_ok (nat_lt micros (2 ^ 63)) (Ok (Triple (pos months) (pos days) (pos micros))) value Range h in
    let fits = ltb-true micros (2 ^ 63) parts.0 in
    subst IsWithinBounds (same_ok (Triple (pos months) (pos days) (pos micros)) value parts.1)
    (record { sfits = m }, (record { sfits = d }, record { sfits = fits }))

-- ---- what a text spells has counts of 32 bits

count_small : (unit text : List ℕ) (n : ℕ) → IsOrZero (IsCount unit) text n → n < 2 ^ 32
count_small unit text n (inl h) = let zero = h.1 in omega arith
count_small unit text n (inr h) = h.number.fits

-- what stands behind the `P`
abbrev pub IsBody : List ℕ → Duration → Type 0
IsBody body duration =
    ((week : ℕ) × IsCount (codes "W") body week × (duration ≡ Weeks week)) ⊎ (IsCounted body duration ⊎ IsDated body duration)

body_small : (body : List ℕ) (d : Duration) → IsBody body d → (value : Value) → worth d ≡ Ok value
    → IsWithinBounds value
body_small body d (inl h) value w =
    let small = h.1.number.fits in
    let P : Duration → Type 0 = λ x. worth x ≡ Ok value → IsWithinBounds value in
    subst P (sym h.2) (λ k. triple_within 0 (7 * h.0) 0 (omega arith) (omega arith) value k) w
body_small body d (inr (inl h)) value w =
    let year = count_small _ h.year_text h.year h.years in
    let month = count_small _ h.month_text h.month h.months in
    let day = count_small _ h.day_text h.day h.days in
    let P : Duration → Type 0 = λ x. worth x ≡ Ok value → IsWithinBounds value in
    subst P (sym h.value) (λ k. triple_within (12 * h.year + h.month) h.day _ (omega arith) (omega arith) value k) w
body_small body d (inr (inr h)) value w =
    let year = h.years.most in
    let month = h.months.field.most in
    let day = h.days.field.most in
    let P : Duration → Type 0 = λ x. worth x ≡ Ok value → IsWithinBounds value in
    subst P (sym h.value) (λ k. triple_within (12 * h.year + h.month) h.day _ (omega arith) (omega arith) value k) w

-- ---- writing

all_three : (a b c : Bool) → (a && (b && c)) ≡ true → (a ≡ true) × ((b ≡ true) × (c ≡ true))
all_three a b c h = let one = and_parts a (b && c) h in (one.0, and_parts b c one.1)

pub counts_fit : (months days micros : ℕ) → months / 12 < 2 ^ 32 → days < 2 ^ 32 → micros / 3_600_000_000 < 2 ^ 32
    → micros % 1000 ≡ 0 → counts_of months days micros ≡ Ok (duration_of months days (micros / 1000))
unfolding counts_of
counts_fit months days micros y d h whole = rw (
  lt-ltb (months / 12) (2 ^ 32) y,
  lt-ltb days (2 ^ 32) d,
  lt-ltb (micros / 3_600_000_000) (2 ^ 32) h,
  whole,
) refl

pub counts_part : (months days micros : ℕ) → months / 12 < 2 ^ 32 → days < 2 ^ 32 → micros / 3_600_000_000 < 2 ^ 32
    → (micros % 1000 ≡ 0 → ⊥) → counts_of months days micros ≡ Err Precision
unfolding counts_of
counts_part months days micros y d h isnt =
    let rest : (micros % 1000 == 0) ≡ false = grind (arith, nat_tests) in
    rw (lt-ltb (months / 12) (2 ^ 32) y, lt-ltb days (2 ^ 32) d, lt-ltb (micros / 3_600_000_000) (2 ^ 32) h, rest) refl

-- one of the counts is too great
pub counts_beyond : (months days micros : ℕ)
    → (months / 12 < 2 ^ 32 → days < 2 ^ 32 → micros / 3_600_000_000 < 2 ^ 32 → ⊥)
    → counts_of months days micros ≡ Err Range
unfolding counts_of
counts_beyond months days micros isnt =
    let test = false_from_ne_true (nat_lt (months / 12) (2 ^ 32) && (nat_lt days (2 ^ 32) && nat_lt (micros / 3_600_000_000) (2 ^ 32)))
    (λ h. let all = all_three (nat_lt (months / 12) (2 ^ 32)) (nat_lt days (2 ^ 32)) (nat_lt (micros / 3_600_000_000) (2 ^ 32)) h in
    isnt (ltb-true (months / 12) (2 ^ 32) all.0) (ltb-true days (2 ^ 32) all.1.0) (ltb-true (micros / 3_600_000_000) (2 ^ 32) all.1.1)) in
    rw test refl

pub length_fits : (nanos : ℕ) → nanos / 86_400_000_000_000 < 2 ^ 32 → nanos % 1_000_000 ≡ 0
    → held_length nanos ≡ Ok (duration_of 0 (nanos / 86_400_000_000_000) (nanos % 86_400_000_000_000 / 1_000_000))
unfolding held_length
length_fits nanos d whole = rw (lt-ltb (nanos / 86_400_000_000_000) (2 ^ 32) d, whole) refl

pub length_part : (nanos : ℕ) → nanos / 86_400_000_000_000 < 2 ^ 32 → (nanos % 1_000_000 ≡ 0 → ⊥)
    → held_length nanos ≡ Err Precision
unfolding held_length
length_part nanos d isnt = let rest : (nanos % 1_000_000 == 0) ≡ false = grind (arith, nat_tests) in
    rw (lt-ltb (nanos / 86_400_000_000_000) (2 ^ 32) d, rest) refl

pub length_beyond : (nanos : ℕ) → 2 ^ 32 ≤ nanos / 86_400_000_000_000 → held_length nanos ≡ Err Range
unfolding held_length
length_beyond nanos h = rw (le-ltb (nanos / 86_400_000_000_000) (2 ^ 32) h) refl

-- ---- the laws

-- what is held of counts
pub record AreHeld (months days micros : ℕ) (d : Duration) : Type 0 where
  pub years : months / 12 < 2 ^ 32
  pub days_fit : days < 2 ^ 32
  pub hours : micros / 3_600_000_000 < 2 ^ 32
  pub whole : micros % 1000 ≡ 0
  pub is : duration_of months days (micros / 1000) ≡ d

counts_held : (months days micros : ℕ) (d : Duration) → counts_of months days micros ≡ Ok d
    → AreHeld months days micros d
unfolding counts_of
counts_held months days micros d h =
    let first = then_ok (nat_lt (months / 12) (2 ^ 32) && (nat_lt days (2 ^ 32) && nat_lt (micros / 3_600_000_000) (2 ^ 32))) _ d Range h in
    let second = then_ok (micros % 1000 == 0) (Ok (duration_of months days (micros / 1000))) d Precision first.1 in
    let all = all_three (nat_lt (months / 12) (2 ^ 32)) (nat_lt days (2 ^ 32)) (nat_lt (micros / 3_600_000_000) (2 ^ 32)) first.0 in
    record {
      years = ltb-true (months / 12) (2 ^ 32) all.0;
      days_fit = ltb-true days (2 ^ 32) all.1.0;
      hours = ltb-true (micros / 3_600_000_000) (2 ^ 32) all.1.1;
      whole = let e = second.0 in grind (arith, nat_tests);
      is = same_ok (duration_of months days (micros / 1000)) d second.1;
    }

parts_back : (m : ℕ) → micros_of (m / 3_600_000) (m / 60_000 % 60) (m / 1000 % 60) (m % 1000) ≡ m * 1000
parts_back m = omega arith

in_range : (months days millis : ℕ) → months / 12 < 2 ^ 32 → days < 2 ^ 32 → millis / 3_600_000 < 2 ^ 32
    → IsDurationInRange (duration_of months days millis)
in_range months days millis y d h = (y, omega arith, d, h, omega arith, omega arith, omega arith)

-- what a duration of counts is worth
counted_worth : (months days millis : ℕ) → millis * 1000 < 2 ^ 63
    → worth (duration_of months days millis) ≡ Ok (Triple (pos months) (pos days) (pos (millis * 1000)))
counted_worth months days millis h =
    let m : 12 * (months / 12) + months % 12 ≡ months = omega arith in
    let same : micros_of (millis / 3_600_000) (millis / 60_000 % 60) (millis / 1000 % 60) (millis % 1000)
    ≡ millis * 1000 = parts_back millis in
    rw (m, same) (triple_fits months days (millis * 1000) h)

abbrev pub AreSpelled : Type 0
AreSpelled = (d : Duration) → IsDurationInRange d → IsDuration (duration_text d) d

abbrev pub IsBack : Value → Duration → Type 0
IsBack value d = IsHeldBack IsDuration (Is worth) (Is held) (duration_text d) value d

back_of : AreSpelled → (value : Value) (months days micros : ℕ) (d : Duration) → micros < 2 ^ 63
    → AreHeld months days micros d → Same value (Triple (pos months) (pos days) (pos micros)) → IsBack value d
back_of spelled value months days micros d fits h same =
    let hours = h.hours in
    let millis_hours : micros / 1000 / 3_600_000 < 2 ^ 32 = omega arith in
    let whole = h.whole in
    let back : micros / 1000 * 1000 ≡ micros = omega arith in
    let made : Duration = duration_of months days (micros / 1000) in
    let valued : worth made ≡ Ok (Triple (pos months) (pos days) (pos micros)) = counted_worth months days (micros / 1000) (omega arith)
    ∙ ap (λ (n : ℕ). Ok (Triple (pos months) (pos days) (pos n))) back in
    let again : held (Triple (pos months) (pos days) (pos micros))
    ≡ Ok made = counts_fit months days micros h.years h.days_fit h.hours h.whole in
    let whole_back : IsBack value made = record {
      meaning = made;
      back = Triple (pos months) (pos days) (pos micros);
      spelled = spelled made (in_range months days (micros / 1000) h.years h.days_fit millis_hours);
      valued = sym valued;
      same = same;
      again = sym again;
    } in
    subst (IsBack value) h.is whole_back

length_held : (nanos : ℕ) (d : Duration) → held_length nanos ≡ Ok d
    → (nanos / 86_400_000_000_000 < 2 ^ 32) × ((nanos % 1_000_000 ≡ 0)
    × (duration_of 0 (nanos / 86_400_000_000_000) (nanos % 86_400_000_000_000 / 1_000_000) ≡ d))
unfolding held_length
length_held nanos d h =
    let first = then_ok (nat_lt (nanos / 86_400_000_000_000) (2 ^ 32)) _ d Range h in
    let second = then_ok (nanos % 1_000_000 == 0) (Ok (duration_of 0 (nanos / 86_400_000_000_000) (nanos % 86_400_000_000_000 / 1_000_000)))
    d Precision first.1 in
    let whole : nanos % 1_000_000 ≡ 0 = let e = second.0 in grind (arith, nat_tests) in (
      ltb-true (nanos / 86_400_000_000_000) (2 ^ 32) first.0,
      (
        whole,
        same_ok (duration_of 0 (nanos / 86_400_000_000_000) (nanos % 86_400_000_000_000 / 1_000_000)) d second.1,
      ),
    )

thousandth : (n : ℕ) → n * 1000 / 1000 ≡ n
thousandth n = omega arith

length_parts : (nanos : ℕ) → nanos % 1_000_000 ≡ 0
    → (pos (nanos / 86_400_000_000_000) *ℤ pos 86_400_000_000 +ℤ pos (nanos % 86_400_000_000_000 / 1_000_000 * 1000)) *ℤ pos 1000
    ≡ pos nanos
length_parts nanos whole = omega (arith, ints)

held_back : AreSpelled → (value : Value) (d : Duration) → IsWithinBounds value → held value ≡ Ok d → IsBack value d
held_back spelled (Triple (pos months) (pos days) (pos micros)) d w h =
    back_of spelled (Triple (pos months) (pos days) (pos micros)) months days micros d w.1.1.sfits (counts_held months days micros d h) refl
held_back spelled (Triple (pos months) (pos days) (negsuc micros)) d w h = absurd (let e : Err Range ≡ Ok d = h in cc)
held_back spelled (Triple (pos months) (negsuc days) micros) d w h = absurd (let e : Err Range ≡ Ok d = h in cc)
held_back spelled (Triple (negsuc months) days micros) d w h = absurd (let e : Err Range ≡ Ok d = h in cc)
held_back spelled (Length nanos) d w h =
    let found = length_held nanos d h in
    let fits = found.0 in
    let whole = found.1.0 in
    let micros : ℕ = nanos % 86_400_000_000_000 / 1_000_000 * 1000 in
    let parts : AreHeld 0 (nanos / 86_400_000_000_000) micros d = record {
      years = omega arith;
      days_fit = fits;
      hours = omega arith;
      whole = omega arith;
      is = ap (duration_of 0 (nanos / 86_400_000_000_000)) (thousandth (nanos % 86_400_000_000_000 / 1_000_000)) ∙ found.1.1;
    } in
    let same : Same (Length nanos) (Triple (pos 0) (pos (nanos / 86_400_000_000_000)) (pos micros)) = (refl, length_parts nanos whole) in
    back_of spelled (Length nanos) 0 (nanos / 86_400_000_000_000) micros d (omega arith) parts same
held_back spelled _ d w h = absurd (let e : Err Kind ≡ Ok d = h in cc)

pub iso_durations : ((text : List ℕ) (a b : Duration) → IsDuration text a → IsDuration text b → a ≡ b) → AreSpelled
    → AreAscii IsDuration → Lawful IsoDuration
iso_durations one spelled ascii =
    lawful_by IsoDuration IsDuration (Is worth) (Is held) duration_text
    (record { reads = λ text a h. h; read = λ text a h. h; writes = λ value a h. h; written = λ value a h. h })
    (record {
      one = one;
      one_worth = one_image worth;
      one_held = one_image held;
      ascii = ascii;
      within = λ text d value spells h. body_small spells.0 d spells.1 value (sym h);
      back = λ value d w h. held_back spelled value d w (sym h);
    })
