-- The date word of MS-DOS, as Microsoft's "MS-DOS Date and Time" lays it out: the day of the month
-- in bits 0 to 4, the month in bits 5 to 8, the years since 1980 in bits 9 to 15.
use Rattle.std.specs.Prelude.{◌≡◌, ℕ, ◌+◌, ◌*◌, ◌^◌, ◌<◌, pos}
use Rattle.jiff.specs.Types.{Date}
use Rattle.jiff.specs.Words.{IsDate}
use Rattle.dos_date.specs.Bits.{bits}

-- the calendar has the day whose fields the word holds
abbrev pub IsRealDay : ℕ → Type 0
IsRealDay word = IsDate (pos (1980 + bits 9 7 word)) (pos (bits 5 4 word)) (pos (bits 0 5 word))

-- the word of a civil date
abbrev pub IsDateWord : ℕ → Date → Type 0
IsDateWord word date =
    (years : ℕ) × (date.year ≡ pos (1980 + years)) × (years < 2 ^ 7)
    × (word ≡ years * 2 ^ 9 + date.month * 2 ^ 5 + date.day)
