-- The numbers of a text's counts, and their sums. Cited by private contracts alone.
use Rattle.std.specs.Prelude.{ℕ, ◌+◌, ◌-◌, ◌*◌, ◌^◌, ◌<◌, ◌&&◌, Bool, List, min}
use Rattle.scan_core.specs.Digits.{number_of}
use Rattle.scan_core.specs.Shares.{is_within, rounded, signed}
use Rattle.pg_interval_2.specs.declared.interval.Interval.{Interval}
use Rattle.xsd_duration.specs.Durations.{Spelling}
use Rattle.xsd_duration.specs.declared.reading.Numbers.{Numbers}

-- the number that digits write, cut to the greatest of 64 bits
unfoldable pub cut_number : List ℕ → ℕ
cut_number digits = min (number_of digits) (2 ^ 64 - 1)

-- the numbers of the counts of a spelling
abbrev pub numbers_of : Spelling → Numbers
numbers_of s = record {
  negative = s.negative;
  years = cut_number s.years;
  months = cut_number s.months;
  days = cut_number s.days;
  clock = record {
    hours = cut_number s.hours;
    minutes = cut_number s.minutes;
    seconds = cut_number s.seconds;
    micros = rounded 1_000_000 s.fraction;
  };
}

-- few units of each kind are counted
abbrev pub AreFew : Numbers → Type 0
AreFew n =
    (n.years < 100_000_000) × (n.months < 100_000_000) × (n.days < 100_000_000)
    × (n.clock.hours < 100_000_000) × (n.clock.minutes < 100_000_000)
    × (n.clock.seconds < 100_000_000)

-- the microseconds of the counts of a clock
abbrev pub clock_micros : Numbers → ℕ
clock_micros n =
    n.clock.hours * 3_600_000_000
    + (n.clock.minutes * 60_000_000 + (n.clock.seconds * 1_000_000 + n.clock.micros))

-- the sums
abbrev pub interval_of : Numbers → Interval
interval_of n = record {
  months = signed n.negative (n.years * 12 + n.months);
  days = signed n.negative n.days;
  microseconds = signed n.negative (clock_micros n);
}

-- each sum is in its type
abbrev pub sums_within : Numbers → Bool
sums_within n =
    is_within 32 (interval_of n).months
    && (is_within 32 (interval_of n).days && is_within 64 (interval_of n).microseconds)
