-- Runs: digits or letters that a scan passed, where they stand in the text, and the number that they are.
use Rattle.std.specs.Prelude.{◌≡◌, ◌⊎◌, ℕ, ◌+◌, ◌*◌, ◌^◌, ◌≤◌, Bool, IsTrue, List, [], ◌∷◌, length}
use Rattle.std.specs.Char.{is_ascii_alphabetic}
use Rattle.std.specs.List.{list_all}
use Rattle.scan_core.specs.Count.{Count, count_of}
use Rattle.scan_core.specs.Digits.{AreDigits, number_of}
use Rattle.scan_core.specs.Scanning.{between}
use Rattle.scan_core.specs.declared.runs.Run.{Run}
use Rattle.scan_core.specs.declared.share.Unit.{Unit as TimeUnit}
use Rattle.scan_core.specs.declared.runs.Word.{Word}

-- a value tells a number below the bound, and of a greater one that it is no less than the bound
abbrev pub Knows : ℕ → ℕ → ℕ → Type 0
Knows bound value n = (value ≡ n) ⊎ ((bound ≤ value) × (bound ≤ n))

-- the run's digits
abbrev pub digits_of : List ℕ → Run → List ℕ
digits_of text run = between run.start run.end text

-- the run stands in the text, is digits, and knows their number below 10^18
pub record IsRun (text : List ℕ) (run : Run) : Type 0 where
  pub order : run.start ≤ run.end
  pub within : run.end ≤ length text
  pub digits : AreDigits (digits_of text run)
  pub value : Knows (10 ^ 18) run.value (number_of (digits_of text run))

-- the count whose digits are two runs of a text
abbrev pub count_in : List ℕ → Bool → Run → Run → TimeUnit → Count
count_in text negative whole fraction unit =
    count_of negative (digits_of text whole) (digits_of text fraction) unit

-- letters packed into one number, eight bits a letter, the first the highest
abbrev pub packed_behind : ℕ → List ℕ → ℕ
packed_behind n [] = n
packed_behind n (letter ∷ letters) = packed_behind (n * 256 + letter) letters

-- a word's letters packed into one number
abbrev pub packed : List ℕ → ℕ
packed letters = packed_behind 0 letters

-- the word's letters
abbrev pub letters_of : List ℕ → Word → List ℕ
letters_of text word = between word.start word.end text

-- the word stands in the text, is ASCII letters, and knows them packed where they are at most seven
pub record IsWord (text : List ℕ) (word : Word) : Type 0 where
  pub order : word.start ≤ word.end
  pub within : word.end ≤ length text
  pub letters : IsTrue (list_all is_ascii_alphabetic (letters_of text word))
  pub value : Knows (2 ^ 56) word.value (packed (letters_of text word))
