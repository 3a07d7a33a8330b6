-- The days of timestamps that are within the bounds, and the values of their days.
use Rattle.std.proofs.Common.{◌≡◌, ℕ, ◌<◌, arith, sym, ◌∙◌, ap, subst, Option, Some, None}
use Rattle.std.specs.Prelude.{ℤ, pos, neg_ℤ, ◌≤ℤ◌, ◌↔◌, Err}
use Rattle.std.proofs.lemmas.Int.{ints}
use Rattle.iso8601.specs.Calendar.{IsCivilDay}
use Rattle.pg_timestamp.specs.Dates.{date_number}
use Rattle.pg_timestamp.specs.Values.{IsClockTime, IsShort, IsRealTime, IsInRange, IsRefusedBy, IsWithinBounds}
use Rattle.pg_timestamp.specs.Values.{micros_of_day, timed, value_at, value_of}
use Rattle.pg_timestamp.specs.declared.time.Time.{Time}
use Rattle.pg_timestamp.specs.declared.timestamp.Timestamp.{Timestamp}
use Rattle.pg_timestamp.specs.declared.value.NoValue.{NoValue}
use Rattle.pg_timestamp.specs.declared.value.NoValue.TheVariants.{NoSuchMoment, Range}
use Rattle.pg_timestamp.specs.declared.value.Value.{Value}
use Rattle.pg_timestamp.specs.inside.Days.{IsDayNumber}

pub clock_small : (time : Time) → IsClockTime time → micros_of_day time < 86_400_000_000
clock_small time (h, m, s, f) = omega (arith, h, m, s, f)

least_timed : (day : ℤ) (micros : ℕ) (offset : Option ℤ) → IsShort offset → micros < 86_400_000_000
    → IsWithinBounds (timed day micros offset)
    → neg_ℤ (pos 4_371_587) ≤ℤ day
least_timed day micros None r small w = let first = w.0 in omega (arith, ints, first)
least_timed day micros (Some seconds) r small w = let first = w.0 in omega (arith, ints, first, r, small)

least_day : (day : ℤ) (time : Option Time) → IsRealTime time → IsWithinBounds (value_at day time) → neg_ℤ (pos 4_371_587) ≤ℤ day
least_day day None r w = let first = w.0 in omega (arith, ints, first)
least_day day (Some time) r w = least_timed day (micros_of_day time) time.offset r.1 (clock_small time r.0) w

abbrev pub AreCivilDays : Type 0
AreCivilDays = (day : ℤ) → IsCivilDay day ↔ ((neg_ℤ (pos 4_371_587) ≤ℤ day) × (day ≤ℤ pos 2_932_896))

-- a day that isn't civil is out of range
not_civil : AreCivilDays → (t : Timestamp) → (IsCivilDay (date_number t.date) → ⊥) → IsRealTime t.time → IsInRange t → ⊥
not_civil civil t none real range =
    none ((civil (date_number t.date)).1 (least_day (date_number t.date) t.time real range.0, range.1))

-- why a date has no number of a day is why its timestamp has no value
pub no_number : AreCivilDays → (t : Timestamp) (cause : NoValue) → IsRealTime t.time → IsDayNumber t.date (Err cause) → IsRefusedBy t cause
no_number civil t NoSuchMoment real none = λ is. none is.0
no_number civil t Range real none = ((none.0, real), not_civil civil t none.1 real)

pub worth : (t : Timestamp) (day : ℤ) (value : Value) → value ≡ value_at day t.time → day ≡ date_number t.date → value ≡ value_of t
worth t day value is same = is ∙ ap (λ (z : ℤ). value_at z t.time) same

pub not_within : (t : Timestamp) (value : Value) → value ≡ value_of t → (IsWithinBounds value → ⊥) → IsInRange t → ⊥
not_within t value is none range = none (subst IsWithinBounds (sym is) range.0)

pub within : AreCivilDays → (t : Timestamp) (value : Value) → value ≡ value_of t → IsWithinBounds value → IsCivilDay (date_number t.date)
    → IsInRange t
within civil t value is w day = (subst IsWithinBounds is w, ((civil (date_number t.date)).0 day).1)
