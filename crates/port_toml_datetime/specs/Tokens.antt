-- The tokens of a text, as the table of checks counts them: a run of digits, one mark, or, at any
-- other byte, all that is left. A token is its bytes, and the token at the end of the text is
-- empty: it fails each check for a token.
use Rattle.std.specs.Prelude.{ℕ, zero, suc, Bool, true, false, ◌||◌, ◌==◌, List, [], ◌∷◌, codes, if◌then◌else◌}
use Rattle.std.specs.Char.{is_ascii_digit}
use Rattle.scan_core.specs.Fronts.{front_digits, after_digits}

-- the byte is among these
abbrev pub is_one_of : List ℕ → ℕ → Bool
is_one_of [] b = false
is_one_of (m ∷ ms) b = (b == m) || is_one_of ms b

-- the marks, each of which is a token
abbrev pub is_mark : ℕ → Bool
is_mark b = is_one_of (codes "-:.+Tt Zz") b

-- the token in front, which is empty at the end of the text
abbrev pub first_token : List ℕ → List ℕ
first_token [] = []
first_token (b ∷ bs) =
    if is_ascii_digit b then (b ∷ front_digits bs) else if is_mark b then (b ∷ []) else (b ∷ bs)

-- what follows it
abbrev pub after_token : List ℕ → List ℕ
after_token [] = []
after_token (b ∷ bs) = if is_ascii_digit b then after_digits bs else if is_mark b then bs else []

-- what follows this many tokens
abbrev pub after : ℕ → List ℕ → List ℕ
after zero text = text
after (suc n) text = after n (after_token text)

-- a token by its number, the first is number 0
abbrev pub token : ℕ → List ℕ → List ℕ
token n text = first_token (after n text)

-- ---- what a token is

-- nothing is left
abbrev pub is_end : List ℕ → Bool
is_end [] = true
is_end (b ∷ bs) = false

-- it begins with a digit, and so is a run of digits
abbrev pub is_digits : List ℕ → Bool
is_digits [] = false
is_digits (b ∷ bs) = is_ascii_digit b

-- one of these marks
abbrev pub is_of : List ℕ → List ℕ → Bool
is_of marks [] = false
is_of marks (b ∷ bs) = is_one_of marks b
