-- The items of a text: each maximal run of ASCII digits that an ASCII letter follows, with its
-- unit, which is that letter, and the next byte with it where that is a letter too. All other bytes
-- are passed over.
use Rattle.std.specs.Prelude.{◌≡◌, ℕ, ◌<◌, Bool, true, false, not, ◌&&◌, List, [], ◌∷◌, ◌++◌, length, IsTrue}
use Rattle.std.specs.Char.{is_ascii_digit as is_digit, is_ascii_alphabetic as is_letter}
use Rattle.scan_core.specs.Digits.{AreDigits}

-- the first byte passes the test
abbrev pub begins_by : (ℕ → Bool) → List ℕ → Bool
begins_by test [] = false
begins_by test (b ∷ bs) = test b

-- the last byte passes the test
abbrev pub ends_by : (ℕ → Bool) → List ℕ → Bool
ends_by test [] = false
ends_by test (b ∷ []) = test b
ends_by test (b ∷ c ∷ bs) = ends_by test (c ∷ bs)

-- no digit has a letter right behind it
abbrev pub has_no_item : List ℕ → Bool
has_no_item [] = true
has_no_item (b ∷ bs) = not (is_digit b && begins_by is_letter bs) && has_no_item bs

-- digits and a unit
pub record Item : Type 0 where
  pub digits : List ℕ
  pub unit : List ℕ

-- two letters, or one letter that no letter follows
abbrev pub is_unit : List ℕ → List ℕ → Bool
is_unit (a ∷ []) rest = is_letter a && not (begins_by is_letter rest)
is_unit (a ∷ b ∷ []) rest = is_letter a && is_letter b
is_unit _ rest = false

-- the first item of a text, and the rest of the text behind it
pub record IsFirstItem (text : List ℕ) (item : Item) (rest : List ℕ) : Type 0 where
  pub before : List ℕ
  pub passed_over : IsTrue (has_no_item before)
  pub maximal : IsTrue (not (ends_by is_digit before))
  pub some_digits : 0 < length item.digits
  pub are_digits : AreDigits item.digits
  pub has_unit : IsTrue (is_unit item.unit rest)
  pub joined : text ≡ before ++ (item.digits ++ (item.unit ++ rest))

-- all items of a text, from left to right
abbrev pub HasItems : List ℕ → List Item → Type 0
HasItems text [] = IsTrue (has_no_item text)
HasItems text (item ∷ items) = (rest : List ℕ) × IsFirstItem text item rest × HasItems rest items
