-- The sums over the six counts of a text, and when they fit.
use Rattle.std.proofs.Common.{◌≡◌, ℕ, zero, suc, ◌+◌, ◌*◌, ◌^◌, ◌≤◌, ◌&&◌, Bool, true, false, List, [], ◌∷◌, refl, ◌∙◌, ap, subst, arith}
use Rattle.std.specs.Prelude.{ℤ, pos, ◌+ℤ◌}
use Rattle.std.specs.List.{list_all}
use Rattle.std.proofs.lemmas.Bool.{and_parts, false_from_ne_true}
use Rattle.std.proofs.lemmas.Bool.Decides.{nat_tests}
use Rattle.std.proofs.lemmas.Int.{ints}
use Rattle.scan_core.specs.Count.{Count, count_of}
use Rattle.scan_core.specs.Digits.{AreDigits, number_of}
use Rattle.scan_core.specs.Shares.{fits_type, has_share, is_within, rounded, share, signed}
use Rattle.scan_core.specs.Sums.{fits, part_fits, total}
use Rattle.scan_core.specs.declared.share.Unit.TheVariants.{Year, Month, Day, Hour, Minute, Second}
use Rattle.scan_core.specs.declared.share.Part.{Part}
use Rattle.scan_core.specs.declared.share.Part.TheVariants.{Months, Days, Micros}
use Rattle.scan_core.proofs.RoundingFacts.{rounded-nil}
use Rattle.scan_core.proofs.ShareFacts.{each_part_fits}
use Rattle.pg_interval_2.specs.declared.interval.Interval.{Interval}
use Rattle.xsd_duration.specs.Durations.{Spelling, IsSpelling, counts_of}
use Rattle.xsd_duration.specs.declared.reading.Numbers.{Numbers}
use Rattle.xsd_duration.specs.inside.Numbers.{clock_micros, interval_of, numbers_of, sums_within}
use Rattle.xsd_duration.proofs.NumberFacts.{cut_is}

-- the sums of all shares
abbrev pub sums_of : List Count → Interval
sums_of counts = record {
  months = total Months counts;
  days = total Days counts;
  microseconds = total Micros counts;
}

-- ---- what fits

-- each count has a share, and digits alone in its fraction
abbrev pub HaveShares : List Count → Type 0
HaveShares [] = Unit {0}
HaveShares (c ∷ cs) = (has_share c ≡ true) × AreDigits c.fraction × HaveShares cs

shares_fit : (part : Part) (counts : List Count) → HaveShares counts → list_all (λ c. fits_type part (share part c)) counts ≡ true
shares_fit part [] h = refl
shares_fit part (c ∷ cs) h = rw (each_part_fits part c h.1 h.0, shares_fit part cs h.2) refl

pub all_fit : (counts : List Count) → HaveShares counts → fits_type Months (total Months counts) ≡ true
    → fits_type Days (total Days counts) ≡ true → fits_type Micros (total Micros counts) ≡ true → fits counts ≡ true
all_fit counts h months days micros =
    rw (shares_fit Months counts h, shares_fit Days counts h, shares_fit Micros counts h, months, days, micros) refl

-- where all fit, so do the sums
pub sums_fit : (counts : List Count) → fits counts ≡ true
    → (fits_type Months (total Months counts) ≡ true) × (fits_type Days (total Days counts) ≡ true)
    × (fits_type Micros (total Micros counts) ≡ true)
sums_fit counts h =
    let first = and_parts (part_fits Months counts) (part_fits Days counts && part_fits Micros counts) h in
    let second = and_parts (part_fits Days counts) (part_fits Micros counts) first.1 in (
      (and_parts (list_all (λ c. fits_type Months (share Months c)) counts) _ first.0).1,
      (and_parts (list_all (λ c. fits_type Days (share Days c)) counts) _ second.0).1,
      (and_parts (list_all (λ c. fits_type Micros (share Micros c)) counts) _ second.1).1,
    )

pub six_shares : (s : Spelling) → IsSpelling s → has_share (count_of s.negative s.years [] Year) ≡ true
    → has_share (count_of s.negative s.months [] Month) ≡ true → has_share (count_of s.negative s.days [] Day) ≡ true
    → has_share (count_of s.negative s.hours [] Hour) ≡ true → has_share (count_of s.negative s.minutes [] Minute) ≡ true
    → has_share (count_of s.negative s.seconds s.fraction Second) ≡ true → HaveShares (counts_of s)
six_shares s is a b c d e f = (a, tt, (b, tt, (c, tt, (d, tt, (e, tt, (f, is.fraction, tt))))))

-- ---- numbers of one sign

six_signed : (n : Bool) (a b c d e f : ℕ)
    → signed n a +ℤ (signed n b +ℤ (signed n c +ℤ (signed n d +ℤ (signed n e +ℤ (signed n f +ℤ pos 0)))))
    ≡ signed n (a + (b + (c + (d + (e + f)))))
six_signed true a b c d e f = omega (arith, ints)
six_signed false a b c d e f = omega (arith, ints)

pub months_are : (s : Spelling) (m : ℕ) → 12 * number_of s.years + number_of s.months ≡ m
    → total Months (counts_of s) ≡ signed s.negative m
months_are s m e =
    six_signed s.negative (12 * number_of s.years + rounded 12 []) (number_of s.months) 0 0 0 0
    ∙ ap (signed s.negative) (let none = rounded-nil 12 in omega (arith, e, none))

pub days_are : (s : Spelling) (d : ℕ) → number_of s.days ≡ d → total Days (counts_of s) ≡ signed s.negative d
days_are s d e =
    six_signed s.negative 0 (rounded 30 []) (number_of s.days) 0 0 0
    ∙ ap (signed s.negative) (let none = rounded-nil 30 in omega (arith, e, none))

pub micros_are : (s : Spelling) (u : ℕ)
    → number_of s.hours * 3_600_000_000 +
    (number_of s.minutes * 60_000_000 + (number_of s.seconds * 1_000_000 + rounded 1_000_000 s.fraction)) ≡ u
    → total Micros (counts_of s) ≡ signed s.negative u
micros_are s u e =
    six_signed s.negative 0 0 (rounded 24 [] * 3_600_000_000) (number_of s.hours * 3_600_000_000 + rounded 60 [] * 60_000_000)
    (number_of s.minutes * 60_000_000 + rounded 60 [] * 1_000_000) (number_of s.seconds * 1_000_000 + rounded 1_000_000 s.fraction)
    ∙ ap (signed s.negative) (let day = rounded-nil 24 in let sixty = rounded-nil 60 in omega (arith, e, day, sixty))

-- ---- magnitudes of one sign within a type

within_le_32 : (n : Bool) (a b : ℕ) → a ≤ b → is_within 32 (signed n b) ≡ true → is_within 32 (signed n a) ≡ true
within_le_32 false a b h w = grind (arith, nat_tests)
within_le_32 true zero b h w = refl
within_le_32 true (suc a) zero h w = absurd (omega (arith, h))
within_le_32 true (suc a) (suc b) h w = grind (arith, nat_tests)

within_le_64 : (n : Bool) (a b : ℕ) → a ≤ b → is_within 64 (signed n b) ≡ true → is_within 64 (signed n a) ≡ true
within_le_64 false a b h w = grind (arith, nat_tests)
within_le_64 true zero b h w = refl
within_le_64 true (suc a) zero h w = absurd (omega (arith, h))
within_le_64 true (suc a) (suc b) h w = grind (arith, nat_tests)

within_most_32 : (n : Bool) (a : ℕ) → is_within 32 (signed n a) ≡ true → a ≤ 2 ^ 31
within_most_32 false a w = grind (arith, nat_tests)
within_most_32 true zero w = omega arith
within_most_32 true (suc a) w = grind (arith, nat_tests)

within_most_64 : (n : Bool) (a : ℕ) → is_within 64 (signed n a) ≡ true → a ≤ 2 ^ 63
within_most_64 false a w = grind (arith, nat_tests)
within_most_64 true zero w = omega arith
within_most_64 true (suc a) w = grind (arith, nat_tests)

-- ---- the numbers of a spelling

-- the magnitudes of the sums
abbrev months_of : Spelling → ℕ
months_of s = 12 * number_of s.years + number_of s.months

abbrev micros_of : Spelling → ℕ
micros_of s =
    number_of s.hours * 3_600_000_000
    + (number_of s.minutes * 60_000_000 + (number_of s.seconds * 1_000_000 + rounded 1_000_000 s.fraction))

-- numbers whose sums are within their types are cut nowhere
record AreExact (s : Spelling) : Type 0 where
  pub months : (numbers_of s).years * 12 + (numbers_of s).months ≡ months_of s
  pub days : (numbers_of s).days ≡ number_of s.days
  pub micros : clock_micros (numbers_of s) ≡ micros_of s

exact : (s : Spelling) → (numbers_of s).years * 12 + (numbers_of s).months ≤ 2 ^ 31 → (numbers_of s).days ≤ 2 ^ 31
    → clock_micros (numbers_of s) ≤ 2 ^ 63 → AreExact s
exact s m d u =
    let years = (cut_is s.years).same (omega (arith, m)) in
    let months = (cut_is s.months).same (omega (arith, m)) in
    let hours = (cut_is s.hours).same (omega (arith, u)) in
    let minutes = (cut_is s.minutes).same (omega (arith, u)) in
    let seconds = (cut_is s.seconds).same (omega (arith, u)) in
    record {
      months = omega (arith, years, months);
      days = (cut_is s.days).same (omega (arith, d));
      micros = omega (arith, hours, minutes, seconds);
    }

-- each share is within its type where the sums are
shares_within : (s : Spelling) → IsSpelling s → is_within 32 (signed s.negative (months_of s)) ≡ true
    → is_within 32 (signed s.negative (number_of s.days)) ≡ true → is_within 64 (signed s.negative (micros_of s)) ≡ true
    → HaveShares (counts_of s)
shares_within s is m d u =
    let twelve = rounded-nil 12 in
    let sixty = rounded-nil 60 in
    six_shares s is
    (within_le_32 s.negative (12 * number_of s.years + rounded 12 []) (months_of s) (omega (arith, twelve)) m)
    (within_le_32 s.negative (number_of s.months) (months_of s) (omega arith) m)
    d
    (within_le_64 s.negative (number_of s.hours * 3_600_000_000 + rounded 60 [] * 60_000_000) (micros_of s) (omega (arith, sixty)) u)
    (within_le_64 s.negative (number_of s.minutes * 60_000_000 + rounded 60 [] * 1_000_000) (micros_of s) (omega (arith, sixty)) u)
    (within_le_64 s.negative (number_of s.seconds * 1_000_000 + rounded 1_000_000 s.fraction) (micros_of s) (omega arith) u)

-- the parts of the test of all sums
within_parts : (n : Numbers) → sums_within n ≡ true → (is_within 32 (interval_of n).months ≡ true)
    × (is_within 32 (interval_of n).days ≡ true) × (is_within 64 (interval_of n).microseconds ≡ true)
within_parts n h =
    let first = and_parts (is_within 32 (interval_of n).months) _ h in
    let second = and_parts (is_within 32 (interval_of n).days) _ first.1 in
    (first.0, second.0, second.1)

numbers_exact : (s : Spelling) → sums_within (numbers_of s) ≡ true → AreExact s
numbers_exact s h =
    let parts = within_parts (numbers_of s) h in
    exact s (within_most_32 s.negative _ parts.0) (within_most_32 s.negative _ parts.1) (within_most_64 s.negative _ parts.2)

-- where the sums of the numbers are within their types, they are those of the counts
pub numbers_sums : (s : Spelling) → sums_within (numbers_of s) ≡ true → interval_of (numbers_of s) ≡ sums_of (counts_of s)
numbers_sums s h =
    let e = numbers_exact s h in
    rw (
      e.months,
      e.days,
      e.micros,
      months_are s (months_of s) refl,
      days_are s (number_of s.days) refl,
      micros_are s (micros_of s) refl,
    ) refl

pub numbers_fit : (s : Spelling) → IsSpelling s → sums_within (numbers_of s) ≡ true → fits (counts_of s) ≡ true
numbers_fit s is h =
    let e = numbers_exact s h in
    let parts = within_parts (numbers_of s) h in
    let m : is_within 32 (signed s.negative (months_of s)) ≡ true =
    subst (λ (k : ℕ). is_within 32 (signed s.negative k) ≡ true) e.months parts.0 in
    let d : is_within 32 (signed s.negative (number_of s.days)) ≡ true =
    subst (λ (k : ℕ). is_within 32 (signed s.negative k) ≡ true) e.days parts.1 in
    let u : is_within 64 (signed s.negative (micros_of s)) ≡ true =
    subst (λ (k : ℕ). is_within 64 (signed s.negative k) ≡ true) e.micros parts.2 in
    all_fit (counts_of s) (shares_within s is m d u) (rw (months_are s (months_of s) refl) m)
    (rw (days_are s (number_of s.days) refl) d) (rw (micros_are s (micros_of s) refl) u)

-- where the sums of the counts fit, those of the numbers, which are no greater, are within their types
fit_within : (s : Spelling) → fits (counts_of s) ≡ true → sums_within (numbers_of s) ≡ true
fit_within s h =
    let fit = sums_fit (counts_of s) h in
    let m : is_within 32 (signed s.negative (months_of s)) ≡ true =
    subst (λ (z : ℤ). is_within 32 z ≡ true) (months_are s (months_of s) refl) fit.0 in
    let d : is_within 32 (signed s.negative (number_of s.days)) ≡ true =
    subst (λ (z : ℤ). is_within 32 z ≡ true) (days_are s (number_of s.days) refl) fit.1 in
    let u : is_within 64 (signed s.negative (micros_of s)) ≡ true =
    subst (λ (z : ℤ). is_within 64 z ≡ true) (micros_are s (micros_of s) refl) fit.2 in
    let years = (cut_is s.years).most in
    let months = (cut_is s.months).most in
    let hours = (cut_is s.hours).most in
    let minutes = (cut_is s.minutes).most in
    let seconds = (cut_is s.seconds).most in
    rw (
      within_le_32 s.negative ((numbers_of s).years * 12 + (numbers_of s).months) (months_of s) (omega (arith, years, months)) m,
      within_le_32 s.negative (numbers_of s).days (number_of s.days) (cut_is s.days).most d,
      within_le_64 s.negative (clock_micros (numbers_of s)) (micros_of s) (omega (arith, hours, minutes, seconds)) u,
    ) refl

pub numbers_misfit : (s : Spelling) → (sums_within (numbers_of s) ≡ true → ⊥) → fits (counts_of s) ≡ false
numbers_misfit s isnt = false_from_ne_true (fits (counts_of s)) (λ h. isnt (fit_within s h))
