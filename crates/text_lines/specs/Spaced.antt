-- Words of a line, which have blanks between: runs of spaces and TABs.
use Rattle.std.specs.Prelude.{◌≡◌, ◌==◌, ◌||◌, ◌<◌, ℕ, zero, suc, ⊤, Bool, true, false, List, [], ◌∷◌, ◌++◌, length}

-- a space or a TAB, the characters of POSIX's class `blank`
abbrev pub is_blank : ℕ → Bool
is_blank byte = (byte == 32) || (byte == 9)

-- each byte is a blank, or none is
abbrev pub AllAre : Bool → List ℕ → Type 0
AllAre blanks [] = ⊤
AllAre blanks (byte ∷ bytes) = (is_blank byte ≡ blanks) × AllAre blanks bytes

-- nothing, or first a byte of the other kind
abbrev pub BeginsOther : Bool → List ℕ → Type 0
BeginsOther blanks [] = ⊤
BeginsOther blanks (byte ∷ bytes) = is_blank byte ≡ blanks → ⊥

-- blanks, a word and what follows it
pub record IsFirstWord (line gap word rest : List ℕ) : Type 0 where
  pub blank : AllAre true gap
  pub solid : AllAre false word
  pub some : 0 < length word
  pub behind : BeginsOther false rest
  pub joined : line ≡ gap ++ (word ++ rest)

-- a word from 0 on, with what stands in front of it and behind it: the next word is one of what follows the first
abbrev pub IsWord : ℕ → List ℕ → List ℕ → List ℕ → List ℕ → Type 0
IsWord zero line before text after = IsFirstWord line before text after
IsWord (suc n) line before text after =
    (gap : List ℕ) × (word : List ℕ) × (rest : List ℕ) × (more : List ℕ)
    × IsFirstWord line gap word rest
    × IsWord n rest more text after
    × (before ≡ gap ++ (word ++ more))
