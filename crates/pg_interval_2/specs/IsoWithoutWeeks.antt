-- The ISO style as it was read before weeks were: what the law on weeks compares the style with, and nothing else cites.
use Rattle.std.specs.Prelude.{ℕ, Bool, true, false, List, Option, Some, None, ◌==◌, if◌then◌else◌}
use Rattle.std.specs.List.{list_any}
use Rattle.scan_core.specs.Count.{Count}
use Rattle.scan_core.specs.declared.share.Unit.{Unit as TimeUnit}
use Rattle.scan_core.specs.declared.share.Unit.TheVariants.{Year, Month, Day, Hour, Minute, Second}
use Rattle.pg_interval_2.specs.Iso.{IsIso}

-- the unit that a letter meant: 89 is `Y`, 77 `M`, 68 `D`, 72 `H` and 83 `S`, before the `T` and behind it
abbrev pub unit_without_weeks : Bool → ℕ → Option TimeUnit
unit_without_weeks false letter =
    if letter == 89 then Some Year
    else if letter == 77 then Some Month
    else if letter == 68 then Some Day
    else if letter == 72 then Some Hour
    else None
unit_without_weeks true letter =
    if letter == 89 then Some Year
    else if letter == 77 then Some Minute
    else if letter == 68 then Some Day
    else if letter == 72 then Some Hour
    else if letter == 83 then Some Second
    else None

-- the text was in ISO style and spelled these counts, in order
abbrev pub IsIsoWithoutWeeks : List ℕ → List Count → Type 0
IsIsoWithoutWeeks = IsIso unit_without_weeks

-- a byte of the text is `W`
abbrev pub has_week : List ℕ → Bool
has_week text = list_any (λ byte. byte == 87) text
