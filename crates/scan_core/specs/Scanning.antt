-- A scan over a text: a place in it from which bytes are read forwards, and how many looks lead there.
use Rattle.std.specs.Prelude.{◌≡◌, ℕ, ◌+◌, ◌-◌, ◌≤◌, List, [], ◌∷◌, ◌++◌, length, take, drop, Option, Some, None}

-- a place in a text
pub record Place : Type 0 where
  pub text : List ℕ
  pub at : ℕ

-- the bytes from the place on
abbrev pub ahead : Place → List ℕ
ahead place = drop place.at place.text

-- the byte in front of such bytes, or none at the end
abbrev pub front_byte : List ℕ → Option ℕ
front_byte [] = None
front_byte (b ∷ bs) = Some b

-- how many of the bytes ahead were not looked at: all but the one in front
abbrev pub unseen : List ℕ → ℕ
unseen bytes = length bytes - 1

-- the bytes of a text from a start up to an end
abbrev pub between : ℕ → ℕ → List ℕ → List ℕ
between start end text = take (end - start) (drop start text)

-- a scan has passed these bytes
pub record Passes (bytes : List ℕ) (old new : Place) : Type 0 where
  pub same : new.text ≡ old.text
  pub at : new.at ≡ old.at + length bytes
  pub split : ahead old ≡ bytes ++ ahead new

-- Looks were spent on a way from some bytes ahead to others: each byte passed was looked at once, and perhaps once more.
pub record Spends (looks : ℕ) (bytes : List ℕ) (looks_then : ℕ) (bytes_then : List ℕ) : Type 0 where
  pub least : looks + unseen bytes ≤ looks_then + unseen bytes_then
  pub most :
      (looks_then + unseen bytes_then) + length bytes_then ≤ (looks + unseen bytes) + length bytes
