-- The pairs of an ISO text are read in one way.
use Rattle.std.proofs.Common.{◌≡◌, ℕ, ◌==◌, ◌⊎◌, Bool, true, false, List, [], ◌∷◌, ◌++◌, Option, Some, None, refl, sym, ◌∙◌, ap, subst}
use Rattle.std.proofs.Common.{append_assoc, append-nil, arith, inl, inr, codes}
use Rattle.std.specs.Char.{is_ascii_digit}
use Rattle.std.proofs.lemmas.Bool.Decides.{nat_tests}
use Rattle.std.proofs.lemmas.Option.{option_and_then_some, some_pair_parts}
use Rattle.scan_core.specs.Count.{Count}
use Rattle.scan_core.specs.declared.share.Unit.{Unit as TimeUnit}
use Rattle.scan_core.proofs.Joins.{Finds, join_same, join_values}
use Rattle.pg_interval_2.specs.Iso.{unit_in, IsPair}
use Rattle.pg_interval_2.specs.inside.IsoShapes.{date_unit, time_unit, ArePairs, IsIsoEither}
use Rattle.pg_interval_2.specs.inside.Reading.{Numeral, count_with, read_letter, read_number, read_unsigned, read_pair}
use Rattle.pg_interval_2.proofs.Numbers.{finds_number, is_number}

date_letter : (letter : ℕ) (unit : TimeUnit) → date_unit letter ≡ Some unit → (is_ascii_digit letter ≡ false) × ((letter == 46) ≡ false)
date_letter letter unit h = grind (arith, nat_tests)

time_letter : (letter : ℕ) (unit : TimeUnit) → time_unit letter ≡ Some unit → (is_ascii_digit letter ≡ false) × ((letter == 46) ≡ false)
time_letter letter unit h = grind (arith, nat_tests)

-- a letter that means a unit is no digit and no point
letter_ends : (in_time : Bool) (letter : ℕ) (unit : TimeUnit) → unit_in in_time letter ≡ Some unit
    → (is_ascii_digit letter ≡ false) × ((letter == 46) ≡ false)
letter_ends false letter unit h = date_letter letter unit h
letter_ends true letter unit h = time_letter letter unit h

pub finds_pair : (in_time : Bool) → Finds (IsPair (unit_in in_time)) (read_pair (unit_in in_time))
unfolding read_pair
finds_pair in_time piece rest c h =
    let ends = letter_ends in_time h.letter c.unit h.unit in
    let split : piece ++ rest ≡ h.number ++ (h.letter ∷ rest) = ap (λ (l : List ℕ). l ++ rest) h.joined
    ∙ append_assoc h.number (h.letter ∷ []) rest in
    let number = finds_number false c.negative c.whole c.fraction h.number (h.letter ∷ rest) h.digits ends.0 ends.1 in
    let found : read_number false (piece ++ rest) ≡ Some (
      record { negative = c.negative; whole = c.whole; fraction = c.fraction },
      h.letter ∷ rest,
    ) = ap (read_number false) split ∙ number in
    let unit = h.unit in
    rw (found, unit) refl

-- what is read at a letter
letter_is : (unit_of : ℕ → Option TimeUnit) (n : Numeral) (bytes : List ℕ) (c : Count) (rest : List ℕ)
    → read_letter unit_of n bytes ≡ Some (c, rest)
    → (letter : ℕ) × (unit : TimeUnit) × (bytes ≡ letter ∷ rest) × (unit_of letter ≡ Some unit) × (c ≡ count_with n unit)
letter_is unit_of n [] c rest h = cc
letter_is unit_of n (b ∷ bs) c rest h =
    option_and_then_some _ _ _ h (λ unit found body.
    let pairs = some_pair_parts _ _ _ _ body in
    (b, unit, ap (λ (l : List ℕ). b ∷ l) pairs.1, found, sym pairs.0))

-- what is read is a pair
pub is_pair : (in_time : Bool) (bytes : List ℕ) (c : Count) (rest : List ℕ) → read_pair (unit_in in_time) bytes ≡ Some (c, rest)
    → (piece : List ℕ) × IsPair (unit_in in_time) piece c × (bytes ≡ piece ++ rest)
unfolding read_pair
is_pair in_time bytes c rest h =
    option_and_then_some _ _ _ h (λ r found body.
    let number = is_number false bytes r.0 r.1 found in
    let letter = letter_is (unit_in in_time) r.0 r.1 c rest body in
    let split : bytes ≡ (number.0 ++ letter.0 ∷ []) ++ rest = number.2 ∙ ap (λ (l : List ℕ). number.0 ++ l) letter.2
    ∙ sym (append_assoc number.0 (letter.0 ∷ []) rest) in
    let P : Count → Type 0 = λ d. IsPair (unit_in in_time) (number.0 ++ letter.0 ∷ []) d in (
      number.0 ++ letter.0 ∷ [],
      subst P (sym letter.4) (record {
        number = number.0;
        letter = letter.0;
        digits = number.1;
        unit = letter.3;
        joined = refl;
      }),
      split,
    ))

pub nothing_read : (in_time : Bool) → read_pair (unit_in in_time) [] ≡ None
unfolding read_pair read_number read_unsigned
nothing_read in_time = refl

pub time_ends : (time : List ℕ) → read_pair (unit_in false) (codes "T" ++ time) ≡ None
unfolding read_pair read_number read_unsigned
time_ends time = refl

-- what is left of an ISO text behind pairs that no further pair follows: nothing, or the time
abbrev pub IsRest : List ℕ → List Count → List Count → Type 0
IsRest rest dates counts =
    ((rest ≡ []) × (counts ≡ dates)) ⊎ ((time : List ℕ) × (times : List Count) × (rest ≡ codes "T" ++ time)
    × ArePairs (unit_in true) time times × (counts ≡ dates ++ times))

-- the same, of the counts by which the text has the shape
abbrev pub RestIs : (text : List ℕ) (counts : List Count) → IsIsoEither text counts → List ℕ → List Count → Type 0
RestIs text counts (inl alone) rest dates = (rest ≡ []) × (dates ≡ counts)
RestIs text counts (inr timed) rest dates = (rest ≡ codes "T" ++ timed.time) × (dates ≡ timed.date_counts)

pub rest_is : (text front rest : List ℕ) (dates counts : List Count) → ArePairs (unit_in false) front dates
    → read_pair (unit_in false) rest ≡ None → text ≡ codes "P" ++ (front ++ rest) → (iso : IsIsoEither text counts)
    → RestIs text counts iso rest dates
rest_is text front rest dates counts pairs stuck spelled (inl alone) =
    let whole : codes "P" ++ (front ++ rest) ≡ codes "P" ++ alone.0 = sym spelled ∙ alone.3 in
    let tails : front ++ rest ≡ alone.0 = cc in
    let same : front ++ rest ≡ alone.0 ++ [] = tails ∙ sym (append-nil alone.0) in
    let both = join_same (IsPair (unit_in false)) (read_pair (unit_in false))
    (finds_pair false) front alone.0 rest [] dates counts pairs alone.1 same stuck (nothing_read false) in
    (both.1, both.0)
rest_is text front rest dates counts pairs stuck spelled (inr timed) =
    let whole : codes "P" ++ (front ++ rest) ≡ codes "P" ++ (timed.date ++ (codes "T" ++ timed.time)) = sym spelled ∙ timed.spelled in
    let same : front ++ rest ≡ timed.date ++ (codes "T" ++ timed.time) = cc in
    let both = join_same (IsPair (unit_in false)) (read_pair (unit_in false)) (finds_pair false) front timed.date rest
    (codes "T" ++ timed.time) dates timed.date_counts
    pairs timed.dates same stuck (time_ends timed.time) in
    (both.1, both.0)

pub behind_dates : (text front rest : List ℕ) (dates counts : List Count) → ArePairs (unit_in false) front dates
    → read_pair (unit_in false) rest ≡ None → text ≡ codes "P" ++ (front ++ rest) → IsIsoEither text counts
    → IsRest rest dates counts
behind_dates text front rest dates counts pairs stuck spelled (inl alone) = let is =
    rest_is text front rest dates counts pairs stuck spelled (inl alone) in inl (is.0, sym is.1)
behind_dates text front rest dates counts pairs stuck spelled (inr timed) =
    let is = rest_is text front rest dates counts pairs stuck spelled (inr timed) in
    inr (timed.time, timed.time_counts, is.0, timed.times, timed.counted ∙ ap (λ (l : List Count). l ++ timed.time_counts) (sym is.1))

pub no_time : (time : List ℕ) → codes "T" ++ time ≡ [] → ⊥
no_time time h = cc

-- an ISO text has one list of counts
pub one_list : (text : List ℕ) (a b : List Count) → IsIsoEither text a → IsIsoEither text b → a ≡ b
one_list text a b (inl alone) other =
    let spelled : text ≡ codes "P" ++ (alone.0 ++ []) = alone.3 ∙ ap (λ (l : List ℕ). codes "P" ++ l) (sym (append-nil alone.0)) in
    elim (behind_dates text alone.0 [] a b alone.1 (nothing_read false) spelled other) [
      | inl end ↦ sym end.1
      | inr timed ↦ absurd (no_time timed.0 (sym timed.2))
    ]
one_list text a b (inr timed) other =
    elim (behind_dates text timed.date (codes "T" ++ timed.time) timed.date_counts b timed.dates (time_ends timed.time) timed.spelled other) [
      | inl end ↦ absurd (no_time timed.time end.0)
      | inr both ↦
          let rest : codes "T" ++ timed.time ≡ codes "T" ++ both.0 = both.2 in
          let times : timed.time ≡ both.0 = cc in
          let P : List ℕ → Type 0 = λ l. ArePairs (unit_in true) l timed.time_counts in
          let same = join_values (IsPair (unit_in true)) (read_pair (unit_in true)) (finds_pair true)
          (nothing_read true) both.0 timed.time_counts both.1 (subst P times timed.times) both.3 in
          timed.counted ∙ ap (λ (l : List Count). timed.date_counts ++ l) same ∙ sym both.4
    ]
