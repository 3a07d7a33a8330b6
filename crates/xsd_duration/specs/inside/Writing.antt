-- What the writers of parts append. Cited by private contracts alone.
use Rattle.std.specs.Prelude.{ℕ, ◌/◌, ◌%◌, ◌==◌, ◌&&◌, not, Bool, List, [], ◌++◌, codes, decimal, if◌then◌else◌}
use Rattle.scan_core.specs.Padded.{padded_digits, trimmed_digits}

-- a number and the letter of its unit, or nothing of 0
unfoldable pub number_part : ℕ → List ℕ → List ℕ
number_part n letter = if n == 0 then [] else (decimal n ++ letter)

-- years, months and days
unfoldable pub date_part : ℕ → ℕ → List ℕ
date_part months days =
    number_part (months / 12) (codes "Y")
    ++ (number_part (months % 12) (codes "M") ++ number_part days (codes "D"))

-- the fraction of seconds and their letter
unfoldable pub fraction_part : ℕ → List ℕ
fraction_part micros = codes "." ++ (trimmed_digits (padded_digits 6 micros) ++ codes "S")

-- seconds, which are written of zero where the whole interval is zero
unfoldable pub seconds_part : Bool → ℕ → ℕ → List ℕ
seconds_part zero seconds micros =
    if micros == 0
    then (if zero then (decimal seconds ++ codes "S") else number_part seconds (codes "S"))
    else (decimal seconds ++ fraction_part micros)

-- hours, minutes and seconds
unfoldable pub clock_part : Bool → ℕ → List ℕ
clock_part zero micros =
    number_part (micros / 3_600_000_000) (codes "H")
    ++ (number_part (micros / 60_000_000 % 60) (codes "M")
    ++ seconds_part zero (micros / 1_000_000 % 60) (micros % 1_000_000))

-- `T` and those, or nothing of no time in an interval that isn't zero
unfoldable pub time_part : Bool → ℕ → List ℕ
time_part zero micros =
    if (micros == 0) && not zero then [] else (codes "T" ++ clock_part zero micros)
