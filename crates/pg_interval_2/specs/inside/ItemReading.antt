-- What the reader of items answers, as functions on lists: cited by private contracts alone.
use Rattle.std.specs.Prelude.{ℕ, ◌+◌, ◌-◌, Bool, true, ◌&&◌, ◌==◌, nat_lt, List, [], ◌∷◌, ◌++◌, length, Option, Some, None, if◌then◌else◌}
use Rattle.std.specs.Char.{is_ascii_alphabetic}
use Rattle.std.specs.List.{list_all}
use Rattle.scan_core.specs.Blanks.{is_blank}
use Rattle.scan_core.specs.Count.{Count}
use Rattle.scan_core.specs.Fronts.{behind, leading, front_digits, after_digits}
use Rattle.scan_core.specs.declared.share.Unit.{Unit as TimeUnit}
use Rattle.pg_interval_2.specs.Clock.{clock_counts}
use Rattle.pg_interval_2.specs.inside.UnitPlaces.{counts_unit, has_distinct_units}
use Rattle.pg_interval_2.specs.inside.Reading.{Numeral, count_with, read_sign, read_fraction, read_number}
use Rattle.pg_interval_2.specs.inside.NamedUnits.{unit_named}

-- what follows the blanks in front
abbrev pub after_blanks : List ℕ → List ℕ
after_blanks bytes = behind is_blank bytes

-- the letters in front, and what follows them
abbrev pub front_letters : List ℕ → List ℕ
front_letters bytes = leading is_ascii_alphabetic bytes

abbrev pub after_letters : List ℕ → List ℕ
after_letters bytes = behind is_ascii_alphabetic bytes

-- a word ends here
abbrev pub ends_word : List ℕ → Bool
ends_word [] = true
ends_word (b ∷ bs) = is_blank b

-- a clock's fields
pub record ClockFields : Type 0 where
  pub negative : Bool
  pub hours : List ℕ
  pub minutes : List ℕ
  pub seconds : List ℕ
  pub fraction : List ℕ

-- what stands in front, and what follows it: a clock, or a number and letters, or neither
pub data NextItem : Type 0 where
  ClockItem : ClockFields → List ℕ → NextItem
  NamedItem : Numeral → List ℕ → List ℕ → NextItem
  NoItem : NextItem

-- what follows a byte in front
abbrev pub read_byte : ℕ → List ℕ → Option (List ℕ)
read_byte byte [] = None
read_byte byte (b ∷ bs) = if b == byte then Some bs else None

-- a clock behind its hours' colon
abbrev pub closed_clock : ClockFields → List ℕ → NextItem
closed_clock fields rest =
    if nat_lt 0 (length fields.hours)
    && (nat_lt 0 (length fields.minutes) && (nat_lt 0 (length fields.seconds) && ends_word rest))
    then ClockItem fields rest
    else NoItem

abbrev pub read_seconds : Bool → List ℕ → List ℕ → Option (List ℕ) → NextItem
read_seconds negative hours minutes None = NoItem
read_seconds negative hours minutes (Some rest) =
    let fraction = read_fraction (after_digits rest) in
    closed_clock
    (record {
      negative = negative;
      hours = hours;
      minutes = minutes;
      seconds = front_digits rest;
      fraction = fraction.0;
    })
    fraction.1

unfoldable pub read_clock : Bool → List ℕ → List ℕ → NextItem
read_clock negative hours rest =
    read_seconds negative hours (front_digits rest) (read_byte 58 (after_digits rest))

-- letters stand in front, and a word ends behind them
abbrev pub has_name : List ℕ → Bool
has_name name = nat_lt 0 (length (front_letters name)) && ends_word (after_letters name)

-- a number's letters, behind blanks or none
abbrev pub named_item : Numeral → List ℕ → NextItem
named_item n name =
    if has_name name
    then NamedItem n (front_letters name) (after_letters name)
    else NoItem

unfoldable pub read_named : Bool → List ℕ → List ℕ → NextItem
read_named negative whole rest =
    let fraction = read_fraction rest in
    if nat_lt 0 (length whole + length fraction.0)
    then named_item (record { negative = negative; whole = whole; fraction = fraction.0 })
    (after_blanks fraction.1)
    else NoItem

abbrev pub read_behind_digits : Bool → List ℕ → List ℕ → Option (List ℕ) → NextItem
read_behind_digits negative whole rest None = read_named negative whole rest
read_behind_digits negative whole rest (Some minutes) = read_clock negative whole minutes

-- a sign and digits are in front of both
unfoldable pub read_item : List ℕ → NextItem
read_item bytes =
    let sign = read_sign true bytes in
    read_behind_digits sign.0 (front_digits sign.1) (after_digits sign.1)
    (read_byte 58 (after_digits sign.1))

-- ---- words

-- what a whole word is
pub data WordKind : Type 0 where
  ClockWord : ClockFields → WordKind
  GluedWord : Numeral → List ℕ → WordKind
  NumberWord : Numeral → WordKind
  OtherWord : WordKind

abbrev pub kind_from : NextItem → Option (Numeral × List ℕ) → WordKind
kind_from (ClockItem fields rest) number = ClockWord fields
kind_from (NamedItem n letters rest) number = GluedWord n letters
kind_from NoItem None = OtherWord
kind_from NoItem (Some number) = if length number.1 == 0 then NumberWord number.0 else OtherWord

unfoldable pub word_kind : List ℕ → WordKind
word_kind word = kind_from (read_item word) (read_number true word)

-- what words spell behind counts: all counts, or letters behind so many bytes that are no fresh name, or nothing
pub data Verdict : Type 0 where
  Spelled : List Count → Verdict
  BadLetters : ℕ → List ℕ → Verdict
  Unspelled : Verdict

-- letters behind a number
abbrev pub judge_unit : List Count → ℕ → List ℕ → Numeral → Option TimeUnit → (List Count → Verdict)
    → Verdict
judge_unit counts ink letters n None next = BadLetters ink letters
judge_unit counts ink letters n (Some unit) next =
    if counts_unit unit counts then BadLetters ink letters else next (count_with n unit ∷ [])

abbrev pub is_name : List ℕ → Bool
is_name word = nat_lt 0 (length word) && list_all is_ascii_alphabetic word

abbrev pub clock_of : ClockFields → List Count
clock_of f = clock_counts f.negative f.hours f.minutes f.seconds f.fraction

-- a word of a kind, with what follows it, and what follows a number
abbrev pub judge_word : (TimeUnit → List (List ℕ)) → List Count → ℕ → ℕ → WordKind
    → (List Count → Verdict) → (Numeral → Verdict) → Verdict
judge_word names counts ink length_of (ClockWord fields) next pair =
    if has_distinct_units (counts ++ clock_of fields) then next (clock_of fields) else Unspelled
judge_word names counts ink length_of (GluedWord n letters) next pair =
    judge_unit counts (ink + (length_of - length letters)) letters n (unit_named names letters) next
judge_word names counts ink length_of (NumberWord n) next pair = pair n
judge_word names counts ink length_of OtherWord next pair = Unspelled

abbrev pub verdict : (TimeUnit → List (List ℕ)) → List Count → ℕ → List (List ℕ) → Verdict
verdict names counts ink [] = Spelled counts
verdict names counts ink (word ∷ []) =
    judge_word names counts ink (length word) (word_kind word) (λ more. Spelled (counts ++ more))
    (λ n. Unspelled)
verdict names counts ink (word ∷ name ∷ more) =
    judge_word names counts ink (length word) (word_kind word)
    (λ cs. verdict names (counts ++ cs) (ink + length word) (name ∷ more))
    (λ n.
    if is_name name
    then judge_unit counts (ink + length word) name n (unit_named names name)
    (λ cs. verdict names (counts ++ cs) (ink + length word + length name) more)
    else Unspelled)
