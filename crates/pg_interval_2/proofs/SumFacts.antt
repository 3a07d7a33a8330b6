-- Sums of intervals: their order doesn't matter, and a difference undoes them.
use Rattle.std.proofs.Common.{◌≡◌, ℤ, ◌+ℤ◌, ◌-ℤ◌, arith}
use Rattle.std.proofs.lemmas.Int.{ints}
use Rattle.pg_interval_2.specs.declared.interval.Interval.{Interval}
use Rattle.pg_interval_2.specs.Sums.{plus, less}

swapped : (x y : ℤ) → x +ℤ y ≡ y +ℤ x
swapped x y = omega (arith, ints)

undone : (x y : ℤ) → (x +ℤ y) -ℤ y ≡ x
undone x y = omega (arith, ints)

restored : (x y : ℤ) → (x -ℤ y) +ℤ y ≡ x
restored x y = omega (arith, ints)

pub plus-swapped : (a b : Interval) → plus a b ≡ plus b a
plus-swapped a b = λ i. record {
  months = swapped a.months b.months i;
  days = swapped a.days b.days i;
  microseconds = swapped a.microseconds b.microseconds i;
}

pub less-plus : (a b : Interval) → less (plus a b) b ≡ a
less-plus a b = λ i. record {
  months = undone a.months b.months i;
  days = undone a.days b.days i;
  microseconds = undone a.microseconds b.microseconds i;
}

pub plus-less : (a b : Interval) → plus (less a b) b ≡ a
plus-less a b = λ i. record {
  months = restored a.months b.months i;
  days = restored a.days b.days i;
  microseconds = restored a.microseconds b.microseconds i;
}
