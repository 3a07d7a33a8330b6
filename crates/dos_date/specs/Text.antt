-- The written text of a DOS date-time: `YYYY-MM-DD HH:MM:SS`.
use Rattle.std.specs.Prelude.{ℕ, ◌+◌, ◌*◌, List, ◌++◌, codes, decimal}
use Rattle.scan_core.specs.Padded.{padded_digits}
use Rattle.dos_date.specs.Bits.{bits}

-- a year of four digits, a month and a day
abbrev pub day_text : ℕ → ℕ → ℕ → List ℕ
day_text year month day =
    decimal year ++ codes "-" ++ padded_digits 2 month ++ codes "-" ++ padded_digits 2 day

-- an hour, a minute and a second
abbrev pub clock_text : ℕ → ℕ → ℕ → List ℕ
clock_text hour minute second =
    padded_digits 2 hour ++ codes ":" ++ padded_digits 2 minute ++ codes ":"
    ++ padded_digits 2 second

-- the text of a date word: its year from 1980 in bits 9 to 15, its month in bits 5 to 8, its day in bits 0 to 4
abbrev pub date_text : ℕ → List ℕ
date_text word = day_text (1980 + bits 9 7 word) (bits 5 4 word) (bits 0 5 word)

-- the text of a time word: its hour in bits 11 to 15, its minute in bits 5 to 10, its seconds halved in bits 0 to 4
abbrev pub time_text : ℕ → List ℕ
time_text word = clock_text (bits 11 5 word) (bits 5 6 word) (2 * bits 0 5 word)
