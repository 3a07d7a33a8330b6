-- Intervals with their keys: cited by private contracts alone.
use Rattle.std.specs.Prelude.{ℕ, List, map, Result, Ok, Err}
use Rattle.pg_interval_2.specs.declared.interval.Interval.{Interval}
use Rattle.forms.specs.Lines.{lines}
use Rattle.whole_input.specs.Numbered.{IsFirstFault}
use Rattle.interval_column.specs.declared.fault.ColumnError.{ColumnError}
use Rattle.interval_column.specs.declared.fault.ColumnError.TheVariants.{Refused, NoMemory}
use Rattle.interval_column.specs.declared.fault.LineFault.{LineFault}
use Rattle.interval_column.specs.declared.ranked.Ranked.{Ranked}
use Rattle.interval_column.specs.Lines.{IsLineRead, IsRead}

-- the intervals alone
abbrev pub intervals_of : List Ranked → List Interval
intervals_of ranks = map (λ (r : Ranked). r.interval) ranks

-- the interval alone, or why there is none
abbrev pub interval_in : {E : Type 0} → Result Ranked E → Result Interval E
interval_in (Ok r) = Ok r.interval
interval_in (Err e) = Err e

-- what a line is read as
abbrev pub IsRankRead : List ℕ → ℕ → Result Ranked LineFault → Type 0
IsRankRead line number answer = IsLineRead line (interval_in answer)

-- the first line with a fault, or want of memory
abbrev pub IsFaultOf : List ℕ → ColumnError → Type 0
IsFaultOf input (Refused number fault) = IsFirstFault IsRead (lines input) number fault
IsFaultOf input NoMemory = Unit {0}
