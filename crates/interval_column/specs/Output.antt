-- What `column F` writes of an input, where F is an interval form: the intervals of all lines in order, each in F, a line with their
-- count, and where there are some the least, the greatest and the sum; or one line that tells of the first line with a fault.
use Rattle.std.specs.Prelude.{◌≡◌, ◌⊎◌, ℕ, ◌-◌, List, [], ◌++◌, codes, decimal, length, flat_map, slice_get, Option, Some, None}
use Rattle.pg_interval_2.specs.Styles.{style_text}
use Rattle.pg_interval_2.specs.declared.interval.Interval.{Interval}
use Rattle.pg_interval_2.specs.declared.style.Style.{Style}
use Rattle.forms.specs.Lines.{lines}
use Rattle.forms.specs.Names.{name_of, style_of}
use Rattle.forms.specs.declared.form.Form.{Form}
use Rattle.whole_input.specs.Numbered.{IsFirstFault}
use Rattle.interval_column.specs.declared.fault.LineFault.{LineFault}
use Rattle.interval_column.specs.declared.fault.LineFault.TheVariants.{Line, Syntax, Range}
use Rattle.interval_column.specs.Lines.{IsRead}
use Rattle.interval_column.specs.Columns.{total_of}
use Rattle.interval_column.specs.Readings.{IsColumnOf}

-- an interval behind a label, on a line of its own
abbrev pub interval_line : Style → List ℕ → Interval → List ℕ
interval_line style label t = label ++ (style_text style t ++ codes "\n")

-- the line of the count
abbrev pub count_line : ℕ → List ℕ
count_line count = codes "count " ++ (decimal count ++ codes "\n")

-- the line of the sum, which may leave its types
abbrev pub sum_line : Style → Option Interval → List ℕ
sum_line style (Some sum) = interval_line style (codes "sum ") sum
sum_line style None = codes "sum Range\n"

-- the lines of the least, the greatest and the sum, where there are some
abbrev pub end_lines : Style → Option Interval → Option Interval → Option Interval → List ℕ
end_lines style (Some least) (Some greatest) sum =
    interval_line style (codes "least ") least
    ++ (interval_line style (codes "greatest ") greatest ++ sum_line style sum)
end_lines style _ _ sum = []

-- the whole output for a column
unfoldable pub column_text : Style → List Interval → List ℕ
column_text style sorted =
    flat_map (interval_line style []) sorted
    ++ (count_line (length sorted)
    ++ end_lines style (slice_get sorted 0) (slice_get sorted (length sorted - 1))
    (total_of sorted))

-- a fault by name
abbrev pub fault_name : LineFault → List ℕ
fault_name Line = codes "Line"
fault_name Syntax = codes "Syntax"
fault_name Range = codes "Range"

-- the line that tells of a line with a fault
unfoldable pub fault_line : ℕ → LineFault → List ℕ
fault_line number fault =
    codes "line " ++ (decimal number ++ (codes " refused " ++ (fault_name fault ++ codes "\n")))

-- what is written of an input, and the status: 8 with the first line that has a fault, 0 with a column
abbrev pub Tells : Style → List ℕ → List ℕ → ℕ → Type 0
Tells style input out status =
    ((number : ℕ) × (fault : LineFault) × IsFirstFault IsRead (lines input) number fault
    × (out ≡ fault_line number fault) × (status ≡ 8))
    ⊎ ((sorted : List Interval) × IsColumnOf input sorted
    × (out ≡ column_text style sorted) × (status ≡ 0))

-- the words are `column`, a space and the name of the interval form of this style
abbrev pub AsksFor : List ℕ → Style → Type 0
AsksFor words style =
    (form : Form) × (style_of form ≡ Some style) × (words ≡ codes "column " ++ name_of form)
