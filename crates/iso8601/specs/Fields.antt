-- What dates and times are made of (ISO 8601-1:2019, 5.2 and 5.3): years, and fields behind marks that the basic format leaves out.
use Rattle.std.specs.Prelude.{◌≡◌, ℕ, ℤ, ◌⊎◌, Bool, true, List, [], ◌++◌}
use Rattle.scan_core.specs.Fields.{IsField}
use Rattle.scan_core.specs.Number.{IsSign}
use Rattle.scan_core.specs.Shares.{signed}

-- perhaps the mark, and a field
pub record IsMarked (mark : List ℕ) (count lo hi : ℕ) (text : List ℕ) (value : ℕ) : Type 0 where
  pub front : List ℕ
  pub digits : List ℕ
  pub perhaps : (front ≡ []) ⊎ (front ≡ mark)
  pub field : IsField count lo hi digits value
  pub joined : text ≡ front ++ digits

-- a piece, or nothing, which means 0
abbrev pub IsOrZero : (List ℕ → ℕ → Type 0) → List ℕ → ℕ → Type 0
IsOrZero Is text value = ((text ≡ []) × (value ≡ 0)) ⊎ Is text value

-- perhaps a sign, and four digits
pub record IsYear (text : List ℕ) (year : ℤ) : Type 0 where
  pub sign : List ℕ
  pub digits : List ℕ
  pub negative : Bool
  pub magnitude : ℕ
  pub signs : IsSign true negative sign
  pub four : IsField 4 0 9999 digits magnitude
  pub joined : text ≡ sign ++ digits
  pub value : year ≡ signed negative magnitude
