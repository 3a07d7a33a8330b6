-- What an error says, and its text: `invalid date, expected month`.
use Rattle.std.specs.Prelude.{List, ℕ, [], ◌++◌, codes, Bool, bytes_eq, Option, Some, None}
use Rattle.std.specs.Option.{option_eq}
use Rattle.std.specs.Ordering.{eq_of_both, on}

-- what is wrong, and what was expected there
pub record Fault : Type 0 where
  pub what : Option (List ℕ)
  pub expected : Option (List ℕ)

-- a fault of this part, where this was expected
abbrev pub fault : List ℕ → List ℕ → Fault
fault what expected = record { what = Some what; expected = Some expected }

-- a fault of no part
abbrev pub bare_fault : Option (List ℕ) → Fault
bare_fault expected = record { what = None; expected = expected }

-- both say the same: equal parts, and equal words of what was expected
abbrev pub says_same : Fault → Fault → Bool
says_same =
    eq_of_both (on (λ (f : Fault). f.what) (option_eq bytes_eq))
    (on (λ (f : Fault). f.expected) (option_eq bytes_eq))

-- the part that is wrong, or `datetime` where none is named
abbrev pub what_text : Option (List ℕ) → List ℕ
what_text None = codes "datetime"
what_text (Some what) = what

-- what was expected, behind a comma, where that is said
abbrev pub expected_text : Option (List ℕ) → List ℕ
expected_text None = []
expected_text (Some expected) = codes ", expected " ++ expected

-- the text of an error: `invalid`, the part, and what was expected there
abbrev pub fault_text : Fault → List ℕ
fault_text f = codes "invalid " ++ (what_text f.what ++ expected_text f.expected)
