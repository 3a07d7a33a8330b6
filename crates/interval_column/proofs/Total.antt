-- The order of intervals is total, and only equal intervals tie.
use Rattle.std.proofs.Common.{◌≡◌, ℤ, refl, sym, ap, true≢false, arith}
use Rattle.std.specs.Cmp.{IsTotalOrder, then_total, on_total, int_cmp_total}
use Rattle.std.specs.Ordering.{int_cmp, ordering_then, is_lt, is_eq}
use Rattle.std.proofs.lemmas.Int.{ints}
use Rattle.std.specs.declared.cmp.Ordering.{Ordering}
use Rattle.std.specs.declared.cmp.Ordering.TheVariants.{Less, Equal, Greater}
use Rattle.pg_interval_2.specs.declared.interval.Interval.{Interval}
use Rattle.interval_column.specs.Order.{key_of, order_of}

pub order_total : IsTotalOrder order_of
order_total =
    then_total (then_total (then_total (on_total key_of int_cmp_total) (on_total (λ (t : Interval). t.months) int_cmp_total))
    (on_total (λ (t : Interval). t.days) int_cmp_total))
    (on_total (λ (t : Interval). t.microseconds) int_cmp_total)

-- two orders tie together where each ties
both_tie : (a b : Ordering) → ordering_then a b ≡ Equal → (a ≡ Equal) × (b ≡ Equal)
both_tie Less b h = absurd (true≢false (ap is_lt h))
both_tie Equal b h = (refl, h)
both_tie Greater b h = absurd (true≢false (ap is_eq (sym h)))

int_tie : (x y : ℤ) → int_cmp x y ≡ Equal → x ≡ y
int_tie x y h = grind (arith, ints, h)

same_interval : (a b : Interval) → a.months ≡ b.months → a.days ≡ b.days → a.microseconds ≡ b.microseconds → a ≡ b
same_interval a b m d s i = record { months = m i; days = d i; microseconds = s i }

pub tie_is_equal : (a b : Interval) → order_of a b ≡ Equal → a ≡ b
tie_is_equal a b h =
    let micros = both_tie _ _ h in
    let days = both_tie _ _ micros.0 in
    let months = both_tie _ _ days.0 in
    same_interval a b (int_tie _ _ months.1) (int_tie _ _ days.1) (int_tie _ _ micros.1)

pub same_ties : (a : Interval) → order_of a a ≡ Equal
same_ties a = grind (arith, ints)
