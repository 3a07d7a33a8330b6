-- The parts of an interval as its texts write them: of each of its three numbers a sign, and its parts by magnitude.
use Rattle.std.specs.Prelude.{ℕ, pos, ◌/◌, ◌%◌, unsigned_abs, Bool, ◌&&◌, List, [], ◌++◌, codes, ◌==◌, if◌then◌else◌}
use Rattle.std.specs.Ordering.{int_eq}
use Rattle.std.specs.Int.{is_negative}
use Rattle.scan_core.specs.Padded.{padded_digits}
use Rattle.pg_interval_2.specs.declared.interval.Interval.{Interval}

-- years and months of the months, days, and hours, minutes, seconds and microseconds of the microseconds
pub record Parts : Type 0 where
  pub months_negative : Bool
  pub years : ℕ
  pub months : ℕ
  pub days_negative : Bool
  pub days : ℕ
  pub time_negative : Bool
  pub hours : ℕ
  pub minutes : ℕ
  pub seconds : ℕ
  pub micros : ℕ

-- 12 months a year, 60 minutes an hour, 60 seconds a minute
abbrev pub parts_of : Interval → Parts
parts_of t = record {
  months_negative = is_negative t.months;
  years = unsigned_abs t.months / 12;
  months = unsigned_abs t.months % 12;
  days_negative = is_negative t.days;
  days = unsigned_abs t.days;
  time_negative = is_negative t.microseconds;
  hours = unsigned_abs t.microseconds / 3_600_000_000;
  minutes = unsigned_abs t.microseconds / 60_000_000 % 60;
  seconds = unsigned_abs t.microseconds / 1_000_000 % 60;
  micros = unsigned_abs t.microseconds % 1_000_000;
}

-- all three numbers are 0
abbrev pub is_zero : Interval → Bool
is_zero t = int_eq t.months (pos 0) && (int_eq t.days (pos 0) && int_eq t.microseconds (pos 0))

-- the time without its sign, the hours with at least this many digits: `04:05:06`, `04:05:06.500000`
abbrev pub clock_text : ℕ → Parts → List ℕ
clock_text width p =
    padded_digits width p.hours
    ++ (codes ":"
    ++ (padded_digits 2 p.minutes
    ++ (codes ":"
    ++ (padded_digits 2 p.seconds
    ++ (if p.micros == 0 then [] else (codes "." ++ padded_digits 6 p.micros))))))
