-- The instants that a series lists are those of its definition.
use Rattle.std.proofs.Common.{◌≡◌, ℕ, zero, suc, ◌+◌, ◌-◌, ◌<◌, ◌≤◌, ◌^◌, List, [], ◌∷◌, length, ℤ, Option, Some, None, refl, sym, ap, ap₂}
use Rattle.std.proofs.Common.{subst, true≢false, ◌∙◌, arith}
use Rattle.std.specs.Option.{is_some}
use Rattle.std.specs.Prelude.{IsSome, IfSome, ◌↔◌}
use Rattle.jiff_core.specs.DateTime.{civil_nanos, IsCivilNanos}
use Rattle.jiff_core.specs.declared.civil.datetime.DateTime.{DateTime as CivilDateTime}
use Rattle.pg_interval_2.specs.declared.interval.Interval.{Interval}
use Rattle.recurrence.specs.Instants.{IsAt}
use Rattle.recurrence.specs.Series.{AreAt, Ends, IsSeries}
use Rattle.recurrence.specs.inside.Steps.{AreCalendarDates, at_start, onto, instants_from, stop_at, stop_from, or_later, RestsAfterStop}
use Rattle.recurrence.proofs.Starts.{at_is, one_answer}

none_is_no_some : (x : ℤ) → None ≡ Some x → ⊥
none_is_no_some x h = true≢false (sym (ap is_some h))

abbrev value_in : ℤ → Option ℤ → ℤ
value_in other None = other
value_in other (Some x) = x

in_some : {x y : ℤ} → Some x ≡ Some y → x ≡ y
in_some {x} h = ap (value_in x) h

-- ---- one step

pub none_left : (start : Option CivilDateTime) (step : Interval) (k n : ℕ) → n ≡ 0 → (instants_from start step k n ≡ [])
    × (stop_from start step k n ≡ None)
unfolding instants_from stop_from
none_left start step k n h = rw h (refl, refl)

pub step_some : (start : Option CivilDateTime) (step : Interval) (k n : ℕ) (x : ℤ) → 0 < n → at_start start step k ≡ Some x
    → (instants_from start step k n ≡ x ∷ instants_from start step (k + 1) (n - 1))
    × (stop_from start step k n ≡ stop_from start step (k + 1) (n - 1))
unfolding instants_from stop_from
step_some start step k zero x some h = absurd (omega arith)
step_some start step k (suc n) x some h = let e : suc n - 1 ≡ n = omega arith in rw (e, h) (refl, refl)

pub step_none : (start : Option CivilDateTime) (step : Interval) (k n : ℕ) → 0 < n → at_start start step k ≡ None
    → (instants_from start step k n ≡ []) × (stop_from start step k n ≡ Some k)
unfolding instants_from stop_from
step_none start step k zero some h = absurd (omega arith)
step_none start step k (suc n) some h = rw h (refl, refl)

pub not_stopped : (next left : ℕ) (stopped : Option ℕ) → RestsAfterStop next left stopped → 0 < left → (stopped ≡ None)
    × (next + left ≤ 2 ^ 32)
not_stopped next left None rests some = (refl, rests)
not_stopped next left (Some k) rests some = absurd (omega arith)

pub nothing_later : (stopped : Option ℕ) → or_later stopped None ≡ stopped
nothing_later None = refl
nothing_later (Some k) = refl

-- ---- all steps

-- how the instants from k on end, of which there are n at most
abbrev EndsFrom : ℤ → Interval → ℕ → ℕ → ℕ → Option ℕ → Type 0
EndsFrom start step k n count None = count ≡ n
EndsFrom start step k n count (Some j) = (k + count ≡ j) × (count < n) × IsAt start step j None

one_more : (start : ℤ) (step : Interval) (k n : ℕ) (answer : Option ℤ) (more : List ℤ) (later : Option ℕ) → IsAt start step k answer
    → AreAt start step (k + 1) more → EndsFrom start step (k + 1) n (length more) later → AreAt start step k (onto answer more)
    × EndsFrom start step k (suc n) (length (onto answer more)) (stop_at answer k later)
one_more start step k n None more later is each ends = (tt, (omega arith, omega arith, is))
one_more start step k n (Some x) more None is each ends = ((is, each), omega arith)
one_more start step k n (Some x) more (Some j) is each ends = ((is, each), (omega (arith, ends.0), omega (arith, ends.1), ends.2))

all_steps : (start : ℤ) (step : Interval) (found : Option CivilDateTime) → ((k : ℕ) → IsAt start step k (at_start found step k)) → (k n : ℕ)
    → AreAt start step k (instants_from found step k n) × EndsFrom start step k n (length (instants_from found step k n))
    (stop_from found step k n)
unfolding instants_from stop_from
all_steps start step found is k zero = (tt, refl)
all_steps start step found is k (suc n) =
    let later = all_steps start step found is (k + 1) n in
    one_more start step k n (at_start found step k) (instants_from found step (k + 1) n) (stop_from found step (k + 1) n)
    (is k) later.0 later.1

ends_as : (start : ℤ) (step : Interval) (last count : ℕ) (stop : Option ℕ) → EndsFrom start step 0 (last + 1) count stop
    → Ends start step last count stop
ends_as start step last count None ends = ends
ends_as start step last count (Some j) ends = (omega (arith, ends.0), omega (arith, ends.0, ends.1), ends.2)

pub series_is : AreCalendarDates → (start : ℤ) (step : Interval) (found : Option CivilDateTime) (last : ℕ)
    → (IsSome found ↔ IsCivilNanos start) → IfSome found (λ c. civil_nanos c ≡ start)
    → IsSeries start step last (instants_from found step 0 (last + 1)) (stop_from found step 0 (last + 1))
series_is laws start step found last some value =
    let all = all_steps start step found (λ k. at_is laws start step k found some value) 0 (last + 1) in
    record { each = all.0; ends = ends_as start step last _ _ all.1 }

-- ---- there is one series

none_more : (start : ℤ) (step : Interval) (k n : ℕ) (x : ℤ) (more : List ℤ) (a b : Option ℕ) → AreCalendarDates
    → AreAt start step k (x ∷ more) → EndsFrom start step k n 0 a → EndsFrom start step k n (length (x ∷ more)) b → ⊥
none_more start step k n x more None None laws each h g = absurd (omega (arith, h, g))
none_more start step k n x more None (Some j) laws each h g = absurd (omega (arith, h, g.1))
none_more start step k n x more (Some i) b laws each h g =
    let here : i ≡ k = omega (arith, h.0) in
    none_is_no_some x (one_answer laws start step k None (Some x) (subst (λ (i : ℕ). IsAt start step i None) here h.2) each.0)

both_none : (start : ℤ) (step : Interval) (k n : ℕ) (a b : Option ℕ) → EndsFrom start step k n 0 a → EndsFrom start step k n 0 b → a ≡ b
both_none start step k n None None h g = refl
both_none start step k n None (Some j) h g = absurd (omega (arith, h, g.1))
both_none start step k n (Some i) None h g = absurd (omega (arith, h.1, g))
both_none start step k n (Some i) (Some j) h g = ap (λ (m : ℕ). Some m) (sym h.0 ∙ g.0)

tail_ends : (start : ℤ) (step : Interval) (k n count : ℕ) (a : Option ℕ) → EndsFrom start step k (suc n) (suc count) a
    → EndsFrom start step (k + 1) n count a
tail_ends start step k n count None h = omega (arith, h)
tail_ends start step k n count (Some j) h = (omega (arith, h.0), omega (arith, h.1), h.2)

some_end : (start : ℤ) (step : Interval) (k count : ℕ) (a : Option ℕ) → EndsFrom start step k zero (suc count) a → ⊥
some_end start step k count None h = absurd (omega (arith, h))
some_end start step k count (Some j) h = absurd (omega (arith, h.1))

one_list : AreCalendarDates → (start : ℤ) (step : Interval) (k n : ℕ) (xs ys : List ℤ) (a b : Option ℕ) → AreAt start step k xs
    → AreAt start step k ys → EndsFrom start step k n (length xs) a → EndsFrom start step k n (length ys) b → (xs ≡ ys) × (a ≡ b)
one_list laws start step k n [] [] a b p q h g = (refl, both_none start step k n a b h g)
one_list laws start step k n [] (y ∷ ys) a b p q h g = absurd (none_more start step k n y ys a b laws q h g)
one_list laws start step k n (x ∷ xs) [] a b p q h g = absurd (none_more start step k n x xs b a laws p g h)
one_list laws start step k zero (x ∷ xs) (y ∷ ys) a b p q h g = absurd (some_end start step k (length xs) a h)
one_list laws start step k (suc n) (x ∷ xs) (y ∷ ys) a b p q h g =
    let head = in_some (one_answer laws start step k (Some x) (Some y) p.0 q.0) in
    let tail = one_list laws start step (k + 1) n xs ys a b p.1 q.1 (tail_ends start step k n (length xs) a h)
    (tail_ends start step k n (length ys) b g) in
    (ap₂ (λ (z : ℤ) (zs : List ℤ). z ∷ zs) head tail.0, tail.1)

ends_from : (start : ℤ) (step : Interval) (last count : ℕ) (stop : Option ℕ) → Ends start step last count stop
    → EndsFrom start step 0 (last + 1) count stop
ends_from start step last count None ends = ends
ends_from start step last count (Some j) ends = (omega (arith, ends.0), omega (arith, ends.0, ends.1), ends.2)

pub one_series : AreCalendarDates → (start : ℤ) (step : Interval) (last : ℕ) (xs ys : List ℤ) (a b : Option ℕ)
    → IsSeries start step last xs a → IsSeries start step last ys b → (xs ≡ ys) × (a ≡ b)
one_series laws start step last xs ys a b h g = one_list laws start step 0 (last + 1) xs ys a b h.each g.each
    (ends_from start step last (length xs) a h.ends) (ends_from start step last (length ys) b g.ends)
