-- Intervals have one order.
use Rattle.std.proofs.Common.{◌≡◌, ℕ, suc, ◌<◌, ◌≤◌, cond, false, true≢false, List, [], ◌∷◌, length, get_or, sum_by}
use Rattle.std.proofs.Common.{Ordering, is_lt, Less, Equal, Greater, IsSorted, refl, sym, ◌∙◌, ap, arith}
use Rattle.std.specs.Ordering.{is_eq, ordering_reverse}
use Rattle.std.proofs.lemmas.List.Sums.{sum_by-cons}
use Rattle.std.proofs.lemmas.List.Sorted.{sorted_far, ranks_by, sum_by-IsPermutation}
use Rattle.pg_interval_2.specs.declared.interval.Interval.{Interval}
use Rattle.interval_column.specs.Order.{order_of}
use Rattle.interval_column.specs.Columns.{IsColumn}
use Rattle.interval_column.proofs.Total.{order_total, tie_is_equal, same_ties}

-- 1 for an interval that ties with another
abbrev tie : Interval → Interval → ℕ
tie t u = cond (is_eq (order_of t u)) 1 0

-- no interval of the list is before the first
abbrev IsFirst : Interval → List Interval → Type 0
IsFirst t [] = Unit {0}
IsFirst t (u ∷ more) = (is_lt (order_of u t) ≡ false) × IsFirst t more

abbrev InOrder : List Interval → Type 0
InOrder [] = Unit {0}
InOrder (t ∷ more) = IsFirst t more × InOrder more

first_of : (t : Interval) (more : List Interval) → ((k : ℕ) → k < length more → is_lt (order_of (get_or more k t) t) ≡ false)
    → IsFirst t more
first_of t [] h = tt
first_of t (u ∷ more) h = (h 0 (omega arith), first_of t more (λ k low. h (suc k) (omega (arith, low))))

in_order : (xs : List Interval) → ((i j : ℕ) (d : Interval) → i ≤ j → j < length xs
    → is_lt (order_of (get_or xs j d) (get_or xs i d)) ≡ false) → InOrder xs
in_order [] h = tt
in_order (t ∷ more) h = (
  first_of t more (λ k low. h 0 (suc k) t (omega arith) (omega (arith, low))),
  in_order more (λ i j d up low. h (suc i) (suc j) d (omega (arith, up)) (omega (arith, low))),
)

sorted_in_order : (xs : List Interval) → IsSorted order_of xs → InOrder xs
sorted_in_order xs up = in_order xs (sorted_far _ (ranks_by order_total (λ (t : Interval). t)) xs up)

-- an interval that is before the first of a list in order isn't in the list
apart : (t u : Interval) → order_of t u ≡ Less → (w : Interval) → is_lt (order_of w u) ≡ false → tie t w ≡ 0
apart t u less w not = apart_by t u w (order_of t w) refl less not
  where
    apart_by : (t u w : Interval) (o : Ordering) → order_of t w ≡ o → order_of t u ≡ Less → is_lt (order_of w u) ≡ false → tie t w ≡ 0
    apart_by t u w Less same less not = ap (λ (o : Ordering). cond (is_eq o) 1 0) same
    apart_by t u w Greater same less not = ap (λ (o : Ordering). cond (is_eq o) 1 0) same
    apart_by t u w Equal same less not =
        absurd (true≢false (sym (ap is_lt (sym (order_total.congr t w u same) ∙ less)) ∙ not))

not_in : (t u : Interval) (more : List Interval) → order_of t u ≡ Less → IsFirst u more → sum_by (tie t) more ≡ 0
not_in t u [] less h = refl
not_in t u (w ∷ more) less h =
    let all = sum_by-cons (tie t) w more in
    let first = apart t u less w h.0 in
    let rest = not_in t u more less h.1 in
    omega (arith, all, first, rest)

own : (t : Interval) → tie t t ≡ 1
own t = ap (λ (o : Ordering). cond (is_eq o) 1 0) (same_ties t)

standing : (t : Interval) (more : List Interval) → 1 ≤ sum_by (tie t) (t ∷ more)
standing t more = let all = sum_by-cons (tie t) t more in let one = own t in omega (arith, all, one)

-- the first of a list in order is not behind the first of another with the same intervals
not_before : (t u : Interval) (xs ys : List Interval) → InOrder (u ∷ ys) → sum_by (tie t) (t ∷ xs) ≡ sum_by (tie t) (u ∷ ys)
    → order_of t u ≡ Less → ⊥
not_before t u xs ys up same less =
    let some = standing t xs in
    let all = sum_by-cons (tie t) u ys in
    let first : tie t u ≡ 0 = ap (λ (o : Ordering). cond (is_eq o) 1 0) less in
    let rest = not_in t u ys less up.0 in
    omega (arith, some, all, first, rest, same)

same_first : (t u : Interval) (o : Ordering) → order_of t u ≡ o → (order_of t u ≡ Less → ⊥) → (order_of u t ≡ Less → ⊥) → t ≡ u
same_first t u Less is a b = absurd (a is)
same_first t u Equal is a b = tie_is_equal t u is
same_first t u Greater is a b = absurd (b (order_total.antisymm u t ∙ ap ordering_reverse is))

one_list : (xs ys : List Interval) → InOrder xs → InOrder ys → ((t : Interval) → sum_by (tie t) xs ≡ sum_by (tie t) ys) → xs ≡ ys
one_list [] [] up up' same = refl
one_list [] (u ∷ ys) up up' same = let some = standing u ys in let all = same u in absurd (omega (arith, some, all))
one_list (t ∷ xs) [] up up' same = let some = standing t xs in let all = same t in absurd (omega (arith, some, all))
one_list (t ∷ xs) (u ∷ ys) up up' same =
    let first = same_first t u (order_of t u) refl (not_before t u xs ys up' (same t)) (not_before u t ys xs up (sym (same u))) in
    let rest = one_list xs ys up.1 up'.1
    (λ w.
    let a = sum_by-cons (tie w) t xs in
    let b = sum_by-cons (tie w) u ys in
    let c = same w in
    let d = ap (tie w) first in
    omega (arith, a, b, c, d)) in
    cc

pub one_column : (denoted a b : List Interval) → IsColumn denoted a → IsColumn denoted b → a ≡ b
one_column denoted a b h k =
    one_list a b (sorted_in_order a h.order) (sorted_in_order b k.order)
    (λ t. sum_by-IsPermutation (tie t) denoted a h.each ∙ sym (sum_by-IsPermutation (tie t) denoted b k.each))
