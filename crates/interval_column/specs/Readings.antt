-- What a whole input is as a column: the intervals of its lines in order, or its first line with a fault.
use Rattle.std.specs.Prelude.{ℕ, List, Result, Ok, Err}
use Rattle.pg_interval_2.specs.declared.interval.Interval.{Interval}
use Rattle.forms.specs.Lines.{lines}
use Rattle.whole_input.specs.Numbered.{AreRead, IsFirstFault}
use Rattle.interval_column.specs.declared.fault.ColumnError.{ColumnError}
use Rattle.interval_column.specs.declared.fault.ColumnError.TheVariants.{Refused, NoMemory}
use Rattle.interval_column.specs.Lines.{IsRead}
use Rattle.interval_column.specs.Columns.{IsColumn}

-- each line denotes an interval, and these are all of them in order
abbrev pub IsColumnOf : List ℕ → List Interval → Type 0
IsColumnOf input sorted =
    (denoted : List Interval) × AreRead IsRead 1 (lines input) denoted × IsColumn denoted sorted

-- the column of an input, or the first line with a fault, by its number from 1, and this fault
abbrev pub ReadsColumn : List ℕ → Result (List Interval) ColumnError → Type 0
ReadsColumn input (Ok sorted) = IsColumnOf input sorted
ReadsColumn input (Err (Refused number fault)) = IsFirstFault IsRead (lines input) number fault
ReadsColumn input (Err NoMemory) = ⊥
