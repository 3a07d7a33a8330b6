-- Sums of intervals, one more at a time.
use Rattle.std.proofs.Common.{◌≡◌, ◌&&◌, ℕ, Bool, true, false, true≢false, cond, Option, Some, None, subst, ◌+◌, ◌<◌, ◌≤◌, List, []}
use Rattle.std.proofs.Common.{length, drop, get_or, map, ℤ, pos, ◌+ℤ◌, refl, sym, ◌∙◌, ap, arith}
use Rattle.std.proofs.lemmas.Int.{ints}
use Rattle.std.proofs.lemmas.List.{drop_more, drop_all}
use Rattle.pg_interval_2.specs.Sums.{plus}
use Rattle.pg_interval_2.specs.declared.interval.Interval.{Interval}
use Rattle.std.specs.Prelude.{◌↔◌, IsTrue}
use Rattle.std.specs.Option.{is_some, IfSome}
use Rattle.scan_core.specs.Shares.{fits_type}
use Rattle.scan_core.specs.declared.share.Part.TheVariants.{Months, Days, Micros}
use Rattle.interval_column.specs.Columns.{sum_by_part, fits_types, total_of}

-- what was added, and what is left of the list
pub record AreSummed {T : Type 0} (f : T → Interval) (xs : List T) (months days micros : ℤ) (i : ℕ) : Type 0 where
  pub months_are : months +ℤ (sum_by_part (map f (drop i xs))).months ≡ (sum_by_part (map f xs)).months
  pub days_are : days +ℤ (sum_by_part (map f (drop i xs))).days ≡ (sum_by_part (map f xs)).days
  pub micros_are : micros +ℤ (sum_by_part (map f (drop i xs))).microseconds ≡ (sum_by_part (map f xs)).microseconds

plus_more : (all sum left first rest more : ℤ) → sum +ℤ left ≡ all → left ≡ first +ℤ rest → more ≡ sum +ℤ first → more +ℤ rest ≡ all
plus_more all sum left first rest more a b c = omega (arith, ints, a, b, c)

pub summed_more : {T : Type 0} (f : T → Interval) (xs : List T) (months days micros : ℤ) (i : ℕ) (item : T) (t : Interval) (m n u : ℤ)
    → AreSummed f xs months days micros i → i < length xs → item ≡ get_or xs i item → t ≡ f item
    → m ≡ months +ℤ t.months → n ≡ days +ℤ t.days → u ≡ micros +ℤ t.microseconds → AreSummed f xs m n u (i + 1)
summed_more f xs months days micros i item t m n u s inside at is a b c =
    let next = ap (λ (l : List _). sum_by_part (map f l)) (drop_more xs i item inside)
    ∙ ap (λ (v : Interval). plus v (sum_by_part (map f (drop (i + 1) xs)))) (ap f (sym at) ∙ sym is) in
    record {
      months_are = plus_more _ _ _ _ _ _ s.months_are (ap (λ (t : Interval). t.months) next) a;
      days_are = plus_more _ _ _ _ _ _ s.days_are (ap (λ (t : Interval). t.days) next) b;
      micros_are = plus_more _ _ _ _ _ _ s.micros_are (ap (λ (t : Interval). t.microseconds) next) c;
    }

none_left : {T : Type 0} (xs : List T) (i : ℕ) → length xs ≤ i → drop i xs ≡ []
none_left xs i h = drop_all i xs h

nothing_more : (all sum left : ℤ) → sum +ℤ left ≡ all → left ≡ pos 0 → sum ≡ all
nothing_more all sum left a b = omega (arith, ints, a, b)

pub all_summed : {T : Type 0} (f : T → Interval) (xs : List T) (months days micros : ℤ) (i : ℕ) → AreSummed f xs months days micros i
    → length xs ≤ i
    → (months ≡ (sum_by_part (map f xs)).months) × (days ≡ (sum_by_part (map f xs)).days) × (micros ≡ (sum_by_part (map f xs)).microseconds)
all_summed f xs months days micros i s end =
    let none = ap (λ (l : List _). sum_by_part (map f l)) (none_left xs i end) in (
      nothing_more _ _ _ s.months_are (ap (λ (t : Interval). t.months) none),
      nothing_more _ _ _ s.days_are (ap (λ (t : Interval). t.days) none),
      nothing_more _ _ _ s.micros_are (ap (λ (t : Interval). t.microseconds) none),
    )

pub none_summed : {T : Type 0} (f : T → Interval) (xs : List T) → AreSummed f xs (pos 0) (pos 0) (pos 0) 0
none_summed f xs = record { months_are = omega (arith, ints); days_are = omega (arith, ints); micros_are = omega (arith, ints) }

-- ---- the sum, where it fits

abbrev Fit : Interval → Type 0
Fit t = IsTrue (fits_type Months t.months) × IsTrue (fits_type Days t.days) × IsTrue (fits_type Micros t.microseconds)

three : (a b c : Bool) → IsTrue a × IsTrue b × IsTrue c → (a && (b && c)) ≡ true
three true true true h = refl
three true true false h = h.2
three true false c h = h.1
three false b c h = h.0

back : (a b c : Bool) → (a && (b && c)) ≡ true → IsTrue a × IsTrue b × IsTrue c
back true true true h = (refl, refl, refl)
back true true false h = absurd (true≢false (sym h))
back true false c h = absurd (true≢false (sym h))
back false b c h = absurd (true≢false (sym h))

same_interval : (t u : Interval) → t.months ≡ u.months → t.days ≡ u.days → t.microseconds ≡ u.microseconds → t ≡ u
same_interval t u m d s i = record { months = m i; days = d i; microseconds = s i }

fit_as : (t u : Interval) → t ≡ u → Fit t → Fit u
fit_as t u same h = subst Fit same h

cond_true : {T : Type 0} (b : Bool) (x y : T) → b ≡ true → x ≡ cond b x y
cond_true true x y h = refl
cond_true false x y h = absurd (true≢false (sym h))

cond_false : {T : Type 0} (b : Bool) (x y : T) → (b ≡ true → ⊥) → y ≡ cond b x y
cond_false true x y h = absurd (h refl)
cond_false false x y h = refl

-- sums by part that fit are the total
pub total_is : (intervals : List Interval) (sums t : Interval) → sums ≡ sum_by_part intervals → t ≡ sums → Fit sums
    → Some t ≡ total_of intervals
unfolding total_of
total_is intervals sums t same is fit =
    let all : Interval = sum_by_part intervals in
    let fits : fits_types all ≡ true = three _ _ _ (fit_as sums all same fit) in
    ap Some (is ∙ same) ∙ cond_true (fits_types all) (Some all) None fits

-- where they don't there is none
pub no_total : (intervals : List Interval) (sums : Interval) → sums ≡ sum_by_part intervals → (Fit sums → ⊥) → None ≡ total_of intervals
unfolding total_of
no_total intervals sums same out =
    let all : Interval = sum_by_part intervals in
    cond_false (fits_types all) (Some all) None (λ h. out (fit_as all sums (sym same) (back _ _ _ h)))

pub sums_are : (intervals : List Interval) (months days micros : ℤ) → months ≡ (sum_by_part intervals).months
    → days ≡ (sum_by_part intervals).days → micros ≡ (sum_by_part intervals).microseconds
    → ◌≡◌ {A = Interval} (record { months = months; days = days; microseconds = micros }) (sum_by_part intervals)
sums_are intervals months days micros m d u = same_interval (record { months = months; days = days; microseconds = micros })
    (sum_by_part intervals) m d u

abbrev AreParts : Interval → Interval → Type 0
AreParts t sums = (t.months ≡ sums.months) × (t.days ≡ sums.days) × (t.microseconds ≡ sums.microseconds)

-- what is some exactly where the sums fit, and then has them, is the total
pub total_by : (r : Option Interval) (intervals : List Interval) (sums : Interval) → sums ≡ sum_by_part intervals
    → (is_some r ≡ true ↔ Fit sums) → IfSome r (λ t. AreParts t sums) → r ≡ total_of intervals
total_by None intervals sums same some value = no_total intervals sums same (λ fit. true≢false (sym (some.1 fit)))
total_by (Some t) intervals sums same some value = total_is intervals sums t same (same_interval t sums value.0 value.1 value.2)
    (some.0 refl)
