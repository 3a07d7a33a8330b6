-- Written clocks: hours, minutes and seconds by magnitude, `04:05:06` or `04:05:06.500000`.
use Rattle.std.specs.Prelude.{ℕ, ℤ, List, [], ◌++◌, codes, ◌==◌, if◌then◌else◌}
use Rattle.scan_core.specs.Padded.{padded_digits}
use Rattle.pg_interval_2.specs.inside.PartSteps.{hours_of, minutes_of, seconds_of, subsecond_of}

-- the hours, with at least this many digits
unfoldable pub hours_text : ℕ → ℕ → List ℕ
hours_text width hours = padded_digits width hours

-- a colon and the two digits of minutes or seconds
unfoldable pub field_text : ℕ → List ℕ
field_text n = codes ":" ++ padded_digits 2 n

-- a point and six digits of microseconds, or nothing where they are 0
unfoldable pub fraction_text : ℕ → List ℕ
fraction_text micros = if micros == 0 then [] else (codes "." ++ padded_digits 6 micros)

-- the hours with at least this many digits, the minutes, the seconds and the fraction of a number of microseconds
unfoldable pub clock_steps : ℕ → ℤ → List ℕ
clock_steps width micros =
    hours_text width (hours_of micros)
    ++ (field_text (minutes_of micros)
    ++ (field_text (seconds_of micros) ++ fraction_text (subsecond_of micros)))
