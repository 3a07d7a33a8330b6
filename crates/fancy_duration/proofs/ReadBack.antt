-- What the written text of a length is read as.
use Rattle.std.proofs.Common.{◌≡◌, ◌↔◌, ℕ, ◌+◌, ◌*◌, ◌/◌, ◌%◌, ◌^◌, ◌<◌, ◌≤◌, Bool, true, false, ◌&&◌, ◌||◌, nat_lt, List, [], ◌∷◌, drop}
use Rattle.std.proofs.Common.{codes, refl, sym, ◌∙◌, ap, subst, ⊎_elim, inl, inr, arith}
use Rattle.std.specs.Prelude.{◌⊎◌}
use Rattle.std.proofs.Math.Bool.{and-true}
use Rattle.std.proofs.Math.Nat.{div-le_self, mod-le}
use Rattle.std.proofs.lemmas.Bool.{and_parts, and_from, or_parts, and_right, ltb-true, ltb-false, lt-ltb, cases_lt}
use Rattle.fancy_duration.specs.declared.part.DurationPart.{DurationPart}
use Rattle.fancy_duration.specs.declared.part.DurationPart.TheVariants.{Years, Months, Weeks, Days, Hours, Minutes, Seconds, Milliseconds}
use Rattle.fancy_duration.specs.declared.part.DurationPart.TheVariants.{Microseconds, Nanoseconds}
use Rattle.fancy_duration.specs.Parts.{all_parts, weight_of, unit_of}
use Rattle.fancy_duration.specs.Times.{nanos_of}
use Rattle.fancy_duration.specs.Sums.{is_long, long_follows, weight_in, total, SumsTo}
use Rattle.fancy_duration.specs.Meanings.{Denotes}
use Rattle.fancy_duration.specs.Breakdown.{PartCount, breakdown, counts_of, nanos_in, count_of}
use Rattle.fancy_duration.specs.Written.{length_text}
use Rattle.fancy_duration.specs.inside.Writing.{counts_fit}
use Rattle.fancy_duration.specs.inside.Reading.{items_of}
use Rattle.fancy_duration.specs.Collisions.{MonthsStandAlone}
use Rattle.fancy_duration.proofs.Breakdowns.{nanos_in-counts_of}
use Rattle.fancy_duration.proofs.ItemLists.{items_unique}
use Rattle.fancy_duration.proofs.Totals.{sum_unique, sum_exists}
use Rattle.fancy_duration.proofs.Texts.{items_in, written_items, total-cons, long-cons}

-- a part's count alone
abbrev pub of : DurationPart → ℕ → PartCount
of part count = record { part = part; count = count }

-- the counts from weeks and from seconds on
abbrev pub below_minutes : ℕ → ℕ → ℕ → ℕ → List PartCount
below_minutes s ms us ns = of Seconds s ∷ of Milliseconds ms ∷ of Microseconds us ∷ of Nanoseconds ns ∷ []

abbrev pub below_months : ℕ → ℕ → ℕ → ℕ → ℕ → ℕ → ℕ → ℕ → List PartCount
below_months w d h mi s ms us ns = of Weeks w ∷ of Days d ∷ of Hours h ∷ of Minutes mi ∷ below_minutes s ms us ns

long-short : (c : PartCount) (counts : List PartCount) → is_long (unit_of c.part) ≡ false
    → long_follows (items_in (c ∷ counts)) ≡ long_follows (items_in counts)
long-short c counts e =
    let short : (nat_lt 0 c.count && is_long (unit_of c.part)) ≡ false = and_right (nat_lt 0 c.count) (is_long (unit_of c.part)) e in
    long-cons c counts ∙ ap (λ b. b || long_follows (items_in counts)) short

long-long : (c : PartCount) (counts : List PartCount) → is_long (unit_of c.part) ≡ true
    → long_follows (items_in (c ∷ counts)) ≡ (nat_lt 0 c.count || long_follows (items_in counts))
long-long c counts e =
    long-cons c counts ∙ ap (λ b. (nat_lt 0 c.count && b) || long_follows (items_in counts)) e
    ∙ ap (λ b. b || long_follows (items_in counts)) (and-true (nat_lt 0 c.count))

-- no part below minutes is long
none_long : (s ms us ns : ℕ) → long_follows (items_in (below_minutes s ms us ns)) ≡ false
none_long s ms us ns =
    long-short (of Seconds s) (of Milliseconds ms ∷ of Microseconds us ∷ of Nanoseconds ns ∷ []) refl
    ∙ long-short (of Milliseconds ms) (of Microseconds us ∷ of Nanoseconds ns ∷ []) refl
    ∙ long-short (of Microseconds us) (of Nanoseconds ns ∷ []) refl
    ∙ long-short (of Nanoseconds ns) [] refl

-- months are read as such exactly where a part from weeks to minutes is above 0
abbrev some_long : ℕ → ℕ → ℕ → ℕ → Bool
some_long w d h mi = nat_lt 0 w || (nat_lt 0 d || (nat_lt 0 h || (nat_lt 0 mi || false)))

long_below_months : (w d h mi s ms us ns : ℕ)
    → long_follows (items_in (below_months w d h mi s ms us ns)) ≡ some_long w d h mi
long_below_months w d h mi s ms us ns =
    long-long (of Weeks w) (of Days d ∷ of Hours h ∷ of Minutes mi ∷ below_minutes s ms us ns) refl
    ∙ ap (λ b. nat_lt 0 w || b) (long-long (of Days d) (of Hours h ∷ of Minutes mi ∷ below_minutes s ms us ns) refl)
    ∙ ap (λ b. nat_lt 0 w || (nat_lt 0 d || b)) (long-long (of Hours h) (of Minutes mi ∷ below_minutes s ms us ns) refl)
    ∙ ap (λ b. nat_lt 0 w || (nat_lt 0 d || (nat_lt 0 h || b))) (long-long (of Minutes mi) (below_minutes s ms us ns) refl)
    ∙ ap (λ b. nat_lt 0 w || (nat_lt 0 d || (nat_lt 0 h || (nat_lt 0 mi || b)))) (none_long s ms us ns)

-- a count of a part whose unit has one weight
weighs : (part : DurationPart) (count weight : ℕ) (counts : List PartCount) → count < 2 ^ 64
    → ((b : Bool) → weight_in (unit_of part) b ≡ weight)
    → total (items_in (of part count ∷ counts)) ≡ count * weight + total (items_in counts)
weighs part count weight counts fits e =
    total-cons (of part count) counts fits ∙ ap (λ w. count * w + total (items_in counts)) (e (long_follows (items_in counts)))

total_below_minutes : (s ms us ns : ℕ) → s < 2 ^ 64 → ms < 2 ^ 64 → us < 2 ^ 64 → ns < 2 ^ 64
    → total (items_in (below_minutes s ms us ns)) ≡ s * 1_000_000_000 + (ms * 1_000_000 + (us * 1_000 + (ns * 1 + 0)))
total_below_minutes s ms us ns fs fms fus fns =
    weighs Seconds s 1_000_000_000 (of Milliseconds ms ∷ of Microseconds us ∷ of Nanoseconds ns ∷ []) fs (λ b. refl)
    ∙ ap (λ n. s * 1_000_000_000 + n) (weighs Milliseconds ms 1_000_000 (of Microseconds us ∷ of Nanoseconds ns ∷ []) fms (λ b. refl)
    ∙ ap (λ n. ms * 1_000_000 + n) (weighs Microseconds us 1_000 (of Nanoseconds ns ∷ []) fus (λ b. refl)
    ∙ ap (λ n. us * 1_000 + n) (weighs Nanoseconds ns 1 [] fns (λ b. refl))))

total_minutes : (mi s ms us ns : ℕ) → mi < 2 ^ 64
    → total (items_in (of Minutes mi ∷ below_minutes s ms us ns)) ≡ mi * weight_of Minutes + total (items_in (below_minutes s ms us ns))
total_minutes mi s ms us ns fits =
    total-cons (of Minutes mi) (below_minutes s ms us ns) fits
    ∙ ap (λ b. mi * weight_in (codes "m") b + total (items_in (below_minutes s ms us ns))) (none_long s ms us ns)

total_below_months : (w d h mi s ms us ns : ℕ) → w < 2 ^ 64 → d < 2 ^ 64 → h < 2 ^ 64 → mi < 2 ^ 64
    → s < 2 ^ 64 → ms < 2 ^ 64 → us < 2 ^ 64 → ns < 2 ^ 64
    → total (items_in (below_months w d h mi s ms us ns)) ≡ nanos_in (below_months w d h mi s ms us ns)
total_below_months w d h mi s ms us ns fw fd fh fmi fs fms fus fns =
    weighs Weeks w (weight_of Weeks) (of Days d ∷ of Hours h ∷ of Minutes mi ∷ below_minutes s ms us ns) fw (λ b. refl)
    ∙ ap (λ n. w * weight_of Weeks + n) (weighs Days d (weight_of Days) (of Hours h ∷ of Minutes mi ∷ below_minutes s ms us ns) fd
    (λ b. refl)
    ∙ ap (λ n. d * weight_of Days + n) (weighs Hours h (weight_of Hours) (of Minutes mi ∷ below_minutes s ms us ns) fh (λ b. refl)
    ∙ ap (λ n. h * weight_of Hours + n) (total_minutes mi s ms us ns fmi
    ∙ ap (λ n. mi * weight_of Minutes + n) (total_below_minutes s ms us ns fs fms fus fns))))

total_with_months : (mo : ℕ) (counts : List PartCount) (b : Bool) → mo < 2 ^ 64
    → long_follows (items_in counts) ≡ b
    → total (items_in (of Months mo ∷ counts)) ≡ mo * weight_in (codes "m") b + total (items_in counts)
total_with_months mo counts b fits e =
    total-cons (of Months mo) counts fits ∙ ap (λ b. mo * weight_in (codes "m") b + total (items_in counts)) e

-- the sum of all ten counts, by what months are read as
abbrev pub ten : ℕ → ℕ → ℕ → ℕ → ℕ → ℕ → ℕ → ℕ → ℕ → ℕ → List PartCount
ten y mo w d h mi s ms us ns = of Years y ∷ of Months mo ∷ below_months w d h mi s ms us ns

total_ten : (y mo w d h mi s ms us ns : ℕ) (b : Bool) → y < 2 ^ 64 → mo < 2 ^ 64
    → some_long w d h mi ≡ b
    → total (items_in (below_months w d h mi s ms us ns)) ≡ nanos_in (below_months w d h mi s ms us ns)
    → total (items_in (ten y mo w d h mi s ms us ns)) ≡ y * weight_of Years
    + (mo * weight_in (codes "m") b + nanos_in (below_months w d h mi s ms us ns))
total_ten y mo w d h mi s ms us ns b fy fmo e below =
    weighs Years y (weight_of Years) (of Months mo ∷ below_months w d h mi s ms us ns) fy (λ b. refl)
    ∙ ap (λ n. y * weight_of Years + n) (total_with_months mo (below_months w d h mi s ms us ns) b fmo
    (long_below_months w d h mi s ms us ns ∙ e)
    ∙ ap (λ n. mo * weight_in (codes "m") b + n) below)

-- the ten counts of a length
pub breakdown_ten : (n : ℕ)
    → breakdown n ≡ ten (count_of Years n) (count_of Months n) (count_of Weeks n) (count_of Days n) (count_of Hours n) (count_of Minutes n)
    (count_of Seconds n) (count_of Milliseconds n) (count_of Microseconds n) (count_of Nanoseconds n)
unfolding breakdown count_of
breakdown_ten n = refl

pub breakdown_sum : (n : ℕ) → nanos_in (breakdown n) ≡ n
unfolding breakdown
breakdown_sum n = omega (arith, nanos_in-counts_of all_parts n)

fits_ten : (y mo w d h mi s ms us ns : ℕ) → counts_fit (ten y mo w d h mi s ms us ns) ≡ true
    → (y < 2 ^ 64) × (mo < 2 ^ 64) × (total (items_in (below_months w d h mi s ms us ns)) ≡ nanos_in (below_months w d h mi s ms us ns))
fits_ten y mo w d h mi s ms us ns e =
    let py = and_parts (nat_lt y (2 ^ 64)) _ e in
    let pmo = and_parts (nat_lt mo (2 ^ 64)) _ py.1 in
    let pw = and_parts (nat_lt w (2 ^ 64)) _ pmo.1 in
    let pd = and_parts (nat_lt d (2 ^ 64)) _ pw.1 in
    let ph = and_parts (nat_lt h (2 ^ 64)) _ pd.1 in
    let pmi = and_parts (nat_lt mi (2 ^ 64)) _ ph.1 in
    let ps = and_parts (nat_lt s (2 ^ 64)) _ pmi.1 in
    let pms = and_parts (nat_lt ms (2 ^ 64)) _ ps.1 in
    let pus = and_parts (nat_lt us (2 ^ 64)) _ pms.1 in
    let pns = and_parts (nat_lt ns (2 ^ 64)) _ pus.1 in (
      ltb-true y (2 ^ 64) py.0,
      ltb-true mo (2 ^ 64) pmo.0,
      total_below_months w d h mi s ms us ns (ltb-true w (2 ^ 64) pw.0) (ltb-true d (2 ^ 64) pd.0) (ltb-true h (2 ^ 64) ph.0)
          (ltb-true mi (2 ^ 64) pmi.0) (ltb-true s (2 ^ 64) ps.0) (ltb-true ms (2 ^ 64) pms.0) (ltb-true us (2 ^ 64) pus.0)
          (ltb-true ns (2 ^ 64) pns.0),
    )

fits_below : (parts : List DurationPart) (left : ℕ) → left < 2 ^ 64 → counts_fit (counts_of parts left) ≡ true
fits_below [] left h = refl
fits_below (part ∷ parts) left h =
    and_from (nat_lt (left / weight_of part) (2 ^ 64)) _ (lt-ltb (left / weight_of part) (2 ^ 64)
    (omega (arith, div-le_self left (weight_of part))))
    (fits_below parts (left % weight_of part) (omega (arith, mod-le left (weight_of part))))

pub breakdown_fits : (n : ℕ) → n < 2 ^ 64 * 1_000_000_000 → counts_fit (breakdown n) ≡ true
unfolding breakdown
breakdown_fits n h =
    and_from (nat_lt (n / weight_of Years) (2 ^ 64)) _ (lt-ltb (n / weight_of Years) (2 ^ 64) (omega arith))
    (fits_below (drop 1 all_parts) (n % weight_of Years) (omega arith))

-- the sum of what is written of a length: by how much it falls short where no long part follows the months
record Reads (n : ℕ) : Type 0 where
  long : some_long (count_of Weeks n) (count_of Days n) (count_of Hours n) (count_of Minutes n) ≡ true
      → total (items_of (length_text n)) ≡ n
  short : some_long (count_of Weeks n) (count_of Days n) (count_of Hours n) (count_of Minutes n) ≡ false
      → total (items_of (length_text n)) + count_of Months n * weight_of Months ≡ n + count_of Months n * weight_of Minutes

reads : (n : ℕ) → n < 2 ^ 64 * 1_000_000_000 → Reads n
reads n h =
    let fits : counts_fit (breakdown n) ≡ true = breakdown_fits n h in
    let ten_fit = fits_ten y mo w d ho mi s ms us ns (ap counts_fit (sym (breakdown_ten n)) ∙ fits) in
    let items = ap total (items_unique (items_in (breakdown n)) (length_text n) (written_items n fits))
    ∙ ap (λ counts. total (items_in counts)) (breakdown_ten n) in
    let sum : nanos_in (ten y mo w d ho mi s ms us ns) ≡ n = ap nanos_in (sym (breakdown_ten n)) ∙ breakdown_sum n in
    record {
      long = λ e. omega (arith, items, sum, total_ten y mo w d ho mi s ms us ns true ten_fit.0 ten_fit.1 e ten_fit.2);
      short = λ e. omega (arith, items, sum, total_ten y mo w d ho mi s ms us ns false ten_fit.0 ten_fit.1 e ten_fit.2);
    }
  where
    y : ℕ
    y = count_of Years n

    mo : ℕ
    mo = count_of Months n

    w : ℕ
    w = count_of Weeks n

    d : ℕ
    d = count_of Days n

    ho : ℕ
    ho = count_of Hours n

    mi : ℕ
    mi = count_of Minutes n

    s : ℕ
    s = count_of Seconds n

    ms : ℕ
    ms = count_of Milliseconds n

    us : ℕ
    us = count_of Microseconds n

    ns : ℕ
    ns = count_of Nanoseconds n

none_longer : (w d h mi : ℕ) → w ≡ 0 → d ≡ 0 → h ≡ 0 → mi ≡ 0 → some_long w d h mi ≡ false
none_longer w d h mi ew ed eh emi = rw (ew, ed, eh, emi)

longer_none : (w d h mi : ℕ) → some_long w d h mi ≡ false → (w ≡ 0) × (d ≡ 0) × (h ≡ 0) × (mi ≡ 0)
longer_none w d h mi e =
    let pw = or_parts (nat_lt 0 w) (nat_lt 0 d || (nat_lt 0 h || (nat_lt 0 mi || false))) e in
    let pd = or_parts (nat_lt 0 d) (nat_lt 0 h || (nat_lt 0 mi || false)) pw.1 in
    let ph = or_parts (nat_lt 0 h) (nat_lt 0 mi || false) pd.1 in
    let pmi = or_parts (nat_lt 0 mi) false ph.1 in (
      omega (arith, ltb-false 0 w pw.0),
      omega (arith, ltb-false 0 d pd.0),
      omega (arith, ltb-false 0 h ph.0),
      omega (arith, ltb-false 0 mi pmi.0),
    )

-- where months stand alone, they are read as minutes
pub read_alone : (n : ℕ) → n < 2 ^ 64 * 1_000_000_000 → MonthsStandAlone n
    → total (items_of (length_text n)) + count_of Months n * weight_of Months ≡ n + count_of Months n * weight_of Minutes
read_alone n h alone = (reads n h).short (none_longer _ _ _ _ alone.weeks alone.days alone.hours alone.minutes)

-- and else the text is read as it was written
pub read_whole : (n : ℕ) → n < 2 ^ 64 * 1_000_000_000
    → (total (items_of (length_text n)) ≡ n) ⊎ MonthsStandAlone n
read_whole n h =
    let w = count_of Weeks n in
    let d = count_of Days n in
    let ho = count_of Hours n in
    let mi = count_of Minutes n in
    elim (some_long w d ho mi) as (λ t. some_long w d ho mi ≡ t → (total (items_of (length_text n)) ≡ n) ⊎ MonthsStandAlone n) [
      | true ↦ λ e. inl ((reads n h).long e)
      | false ↦ λ e. by_months (longer_none w d ho mi e) ((reads n h).short e)
    ] refl
  where
    by_months : ((count_of Weeks n ≡ 0) × (count_of Days n ≡ 0) × (count_of Hours n ≡ 0) × (count_of Minutes n ≡ 0))
        → total (items_of (length_text n)) + count_of Months n * weight_of Months ≡ n + count_of Months n * weight_of Minutes
        → (total (items_of (length_text n)) ≡ n) ⊎ MonthsStandAlone n
    by_months none sum =
        ⊎_elim
        (λ (some : 0 < count_of Months n). inr (record { months = some; weeks = none.0; days = none.1; hours = none.2; minutes = none.3 }))
        (λ (zero_months : count_of Months n ≤ 0). inl (omega (arith, sum, zero_months)))
        (cases_lt 0 (count_of Months n))

pub read_back : (times : ℕ × ℕ) → times.0 < 2 ^ 64 → times.1 < 1_000_000_000
    → Denotes (length_text (nanos_of times)) times ↔ (¬ (MonthsStandAlone (nanos_of times)))
read_back times fits below = (apart, whole)
  where
    bound : nanos_of times < 2 ^ 64 * 1_000_000_000
    bound = omega arith

    apart : Denotes (length_text (nanos_of times)) times → MonthsStandAlone (nanos_of times) → ⊥
    apart denoted alone =
        let same : nanos_of times ≡ total (items_of (length_text (nanos_of times))) = sum_unique (length_text (nanos_of times))
        (nanos_of times) denoted.sums in
        absurd (omega (arith, same, read_alone (nanos_of times) bound alone, alone.months))

    whole : ¬ (MonthsStandAlone (nanos_of times)) → Denotes (length_text (nanos_of times)) times
    whole apart =
        let P : ℕ → Type 0 = SumsTo (length_text (nanos_of times)) in
        ⊎_elim
        (λ (same : total (items_of (length_text (nanos_of times))) ≡ nanos_of times).
        record { sums = subst P same (sum_exists (length_text (nanos_of times))); seconds = fits; nanoseconds = below })
        (λ (alone : MonthsStandAlone (nanos_of times)). absurd (apart alone))
        (read_whole (nanos_of times) bound)
