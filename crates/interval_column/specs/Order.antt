-- The order of intervals, after PostgreSQL's (its manual, section 9.9, and `interval_cmp_value` of its source): a month counts 30 days
-- and a day 24 hours. PostgreSQL takes intervals that are as long as each other for equal; here they go by their parts, so that only
-- equal intervals tie.
use Rattle.std.specs.Prelude.{ℤ, pos, ◌+ℤ◌, ◌*ℤ◌}
use Rattle.std.specs.Ordering.{int_cmp, ordering_then}
use Rattle.std.specs.declared.cmp.Ordering.{Ordering}
use Rattle.pg_interval_2.specs.declared.interval.Interval.{Interval}

-- microseconds, with 30 days a month and 24 hours a day
abbrev pub key_of : Interval → ℤ
key_of t = ((pos 30 *ℤ t.months) +ℤ t.days) *ℤ pos 86_400_000_000 +ℤ t.microseconds

-- by the key, then by months, days and microseconds
abbrev pub order_of : Interval → Interval → Ordering
order_of a b =
    ordering_then
    (ordering_then
    (ordering_then (int_cmp (key_of a) (key_of b)) (int_cmp a.months b.months))
    (int_cmp a.days b.days))
    (int_cmp a.microseconds b.microseconds)
