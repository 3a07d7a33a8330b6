-- Lines of a column, and which intervals they denote. A line is an interval form's name, then the end or a space and a text.
use Rattle.std.specs.Prelude.{◌≡◌, ◌⊎◌, ℕ, List, [], ◌∷◌, ◌++◌, codes, Some, Result, Ok, Err, IsUtf8}
use Rattle.scan_core.specs.declared.share.Part.{Part}
use Rattle.pg_interval_2.specs.Denotes.{Denotes, HasNoShape, Misfits}
use Rattle.pg_interval_2.specs.Styles.{Shape}
use Rattle.pg_interval_2.specs.declared.interval.Interval.{Interval}
use Rattle.pg_interval_2.specs.declared.style.Style.{Style}
use Rattle.forms.specs.Names.{name_of, style_of}
use Rattle.forms.specs.declared.form.Form.{Form}
use Rattle.interval_column.specs.declared.fault.LineFault.{LineFault}
use Rattle.interval_column.specs.declared.fault.LineFault.TheVariants.{Line, Syntax, Range}

-- the whole is a word alone, and the text is empty, or the word, a space and the text
abbrev pub IsLabelled : List ℕ → List ℕ → List ℕ → Type 0
IsLabelled whole word text =
    ((whole ≡ word) × (text ≡ [])) ⊎ (whole ≡ word ++ (codes " " ++ text))

-- the line is UTF-8, and it is the name of the interval form of this style, and this text
pub record IsEntry (line : List ℕ) (style : Style) (text : List ℕ) : Type 0 where
  pub form : Form
  pub named : style_of form ≡ Some style
  pub utf8 : IsUtf8 line
  pub labelled : IsLabelled line (name_of form) text

-- what a text is in a style: the interval that it denotes; `Syntax` without the shape; `Range` where its counts don't fit
abbrev pub IsTextRead : Style → List ℕ → Result Interval LineFault → Type 0
IsTextRead style text (Ok t) = Denotes (Shape style) text t
IsTextRead style text (Err Line) = ⊥
IsTextRead style text (Err Syntax) = HasNoShape (Shape style) text
IsTextRead style text (Err Range) = (part : Part) × Misfits (Shape style) text part

-- the interval that a line denotes, or its fault: it is no entry, or this is what its text is in its style
abbrev pub IsLineRead : List ℕ → Result Interval LineFault → Type 0
IsLineRead line answer =
    (((style : Style) (text : List ℕ) → IsEntry line style text → ⊥) × (answer ≡ Err Line))
    ⊎ ((style : Style) × (text : List ℕ) × IsEntry line style text × IsTextRead style text answer)

-- the same of a line with a number, on which nothing hangs
abbrev pub IsRead : List ℕ → ℕ → Result Interval LineFault → Type 0
IsRead line number answer = IsLineRead line answer

-- some line has a fault
abbrev pub HasFault : List (List ℕ) → Type 0
HasFault lines =
    (before : List (List ℕ)) × (line : List ℕ) × (after : List (List ℕ)) × (fault : LineFault)
    × (lines ≡ before ++ line ∷ after) × IsLineRead line (Err fault)
