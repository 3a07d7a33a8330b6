-- The time word of MS-DOS, as Microsoft's "MS-DOS Date and Time" lays it out: the second divided by
-- 2 in bits 0 to 4, the minute in bits 5 to 10, the hour in bits 11 to 15.
use Rattle.std.specs.Prelude.{◌≡◌, ℕ, ◌+◌, ◌*◌, ◌^◌, ◌<◌, ◌≤◌}
use Rattle.jiff.specs.Types.{Time}
use Rattle.dos_date.specs.Bits.{bits}

-- a clock shows the time whose fields the word holds
abbrev pub IsRealTime : ℕ → Type 0
IsRealTime word = (bits 11 5 word < 24) × (bits 5 6 word < 60) × (2 * bits 0 5 word < 60)

-- the word of a civil time on an even second
abbrev pub IsTimeWord : ℕ → Time → Type 0
IsTimeWord word time =
    (halved : ℕ) × (time.second ≡ 2 * halved) × (time.subsec_nanosecond ≡ 0)
    × (word ≡ time.hour * 2 ^ 11 + time.minute * 2 ^ 5 + halved)

-- the word of the last even second that is not after the civil time
abbrev pub IsCutTimeWord : ℕ → Time → Type 0
IsCutTimeWord word time =
    (halved : ℕ) × (2 * halved ≤ time.second) × (time.second < 2 * halved + 2)
    × (word ≡ time.hour * 2 ^ 11 + time.minute * 2 ^ 5 + halved)
