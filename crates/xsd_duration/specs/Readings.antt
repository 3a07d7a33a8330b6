-- Why a text is read as no interval.
use Rattle.std.specs.Prelude.{◌≡◌, ℕ, false, List}
use Rattle.scan_core.specs.Count.{Count}
use Rattle.scan_core.specs.Sums.{fits}
use Rattle.pg_interval_2.specs.Denotes.{HasNoShape}
use Rattle.xsd_duration.specs.Durations.{SpellsDuration}
use Rattle.xsd_duration.specs.declared.error.DurationError.{DurationError}
use Rattle.xsd_duration.specs.declared.error.DurationError.TheVariants.{Syntax, Range}

-- `Syntax`: the text is no duration. `Range`: it is one, and its months, days or microseconds, rounded once, leave their type.
abbrev pub IsRefused : List ℕ → DurationError → Type 0
IsRefused text Syntax = HasNoShape SpellsDuration text
IsRefused text Range =
    (counts : List Count) × SpellsDuration text counts × (fits counts ≡ false)
