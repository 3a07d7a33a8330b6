-- Where words spell no counts: letters that are no fresh name, and what begins no item.
use Rattle.std.proofs.Common.{◌≡◌, ℕ, ◌+◌, ◌-◌, ◌<◌, Bool, true, false, cond, List, [], ◌∷◌, ◌++◌, length, Option, Some, None, refl, sym}
use Rattle.std.proofs.Common.{◌∙◌, ap, subst, append_assoc, append-nil, length-append, arith}
use Rattle.std.specs.List.{list_all}
use Rattle.std.proofs.lemmas.Bool.{and_parts}
use Rattle.scan_core.specs.Blanks.{is_blank, words, EndsInBlank}
use Rattle.scan_core.specs.Count.{Count}
use Rattle.scan_core.specs.declared.share.Unit.{Unit as TimeUnit}
use Rattle.scan_core.proofs.WordFacts.{NoBlanks, ink, ink-append, ink-words, total_length, same_place, words-closed}
use Rattle.pg_interval_2.specs.Postgres.{AreItems, IsFreshName, IsBadName, all_counts}
use Rattle.pg_interval_2.specs.inside.UnitPlaces.{counts_unit, has_distinct_units}
use Rattle.pg_interval_2.specs.inside.Reading.{Numeral}
use Rattle.pg_interval_2.specs.inside.ItemReading.{Verdict, Spelled, BadLetters, judge_unit, verdict}
use Rattle.pg_interval_2.specs.inside.NamedUnits.{unit_named}
use Rattle.pg_interval_2.proofs.UnitsApart.{named_contains, fresh_all, pairs_distinct}
use Rattle.pg_interval_2.proofs.ItemFacts.{AreLetters, AreBlanks, letter_no_blank, first_letter}
use Rattle.pg_interval_2.proofs.ItemsRead.{StandsNamed}
use Rattle.pg_interval_2.proofs.ItemWords.{number_no_blanks, number_some, letters_no_blanks, no_blanks-append, words_in_front, words-blanks}
use Rattle.pg_interval_2.proofs.Verdicts.{Names, AreNames, glued_kind, number_kind, verdict-word, is_name_of, advance}

-- ---- a number and letters, judged

named_split :
    (names : Names) (counts : List Count) (total : ℕ) (bytes : List ℕ) (n : Numeral) (letters rest : List ℕ)
    (h : StandsNamed bytes n letters rest) (blanks : List ℕ) → h.blanks ≡ blanks
    → (next : List Count → Verdict)
    × (verdict names counts total (words bytes) ≡ judge_unit counts (total + length h.number) letters n (unit_named names letters) next)
named_split names counts total bytes n letters rest h [] none =
    let word = h.number ++ letters in
    let split : bytes ≡ word ++ rest = h.split ∙ ap (λ (l : List ℕ). h.number ++ (l ++ (letters ++ rest))) none
    ∙ sym (append_assoc h.number letters rest) in
    let lengths = length-append h.number letters in
    let some = number_some n.negative n.whole n.fraction h.number h.digits in
    let solid = no_blanks-append h.number letters (number_no_blanks n.negative n.whole n.fraction h.number h.digits)
    (letters_no_blanks letters h.ascii) in
    let front = ap words split ∙ words_in_front word rest (omega (arith, lengths, some)) solid h.ends in
    let next : List Count → Verdict = λ cs. verdict names (counts ++ cs) (total + length word) (words rest) in
    let kind = glued_kind n.negative n.whole n.fraction h.number letters h.digits h.some h.ascii in
    let place : total + (length word - length letters) ≡ total + length h.number = omega (arith, lengths) in (
      next,
      ap (verdict names counts total) front ∙ verdict-word names counts total word (words rest)
          ∙ rw kind (ap (λ (k : ℕ). judge_unit counts k letters n (unit_named names letters) next) place),
    )
named_split names counts total bytes n letters rest h (b ∷ bs) some =
    let blank : AreBlanks (b ∷ bs) = subst AreBlanks some h.blank in
    let split : bytes ≡ h.number ++ ((b ∷ bs) ++ (letters ++ rest)) = h.split
    ∙ ap (λ (l : List ℕ). h.number ++ (l ++ (letters ++ rest))) some in
    let first = words_in_front h.number ((b ∷ bs) ++ (letters ++ rest)) (number_some n.negative n.whole n.fraction h.number h.digits)
    (number_no_blanks n.negative n.whole n.fraction h.number h.digits) (and_parts (is_blank b) (list_all is_blank bs) blank).0 in
    let second = words-blanks (b ∷ bs) (letters ++ rest) blank ∙ words_in_front letters rest h.some
    (letters_no_blanks letters h.ascii) h.ends in
    let front : words bytes ≡ h.number ∷ letters ∷ words rest = ap words split ∙ first ∙ ap (λ (l : List (List ℕ)). h.number ∷ l) second in
    let kind = number_kind n.negative n.whole n.fraction h.number h.digits in
    let name = is_name_of letters h.some h.ascii in (
      λ cs. verdict names (counts ++ cs) (total + length h.number + length letters) (words rest),
      ap (verdict names counts total) front ∙ verdict-word names counts total h.number (letters ∷ words rest) ∙ rw (kind, name) refl,
    )

-- a number with letters, behind blanks or none, in front of bytes
pub named_words :
    (names : Names) (counts : List Count) (total : ℕ) (bytes : List ℕ) (n : Numeral) (letters rest : List ℕ)
    (h : StandsNamed bytes n letters rest)
    → (next : List Count → Verdict)
    × (verdict names counts total (words bytes) ≡ judge_unit counts (total + length h.number) letters n (unit_named names letters) next)
named_words names counts total bytes n letters rest h = named_split names counts total bytes n letters rest h h.blanks refl

judge_if : (t : Bool) (total : ℕ) (letters : List ℕ) (other : Verdict) → (t ≡ false → ⊥)
    → cond t (BadLetters total letters) other ≡ BadLetters total letters
judge_if true total letters other h = refl
judge_if false total letters other h = absurd (h refl)

judge_bad :
    (names : Names) (counts : List Count) (total : ℕ) (letters : List ℕ) (n : Numeral) (found : Option TimeUnit)
    (next : List Count → Verdict) → unit_named names letters ≡ found → ¬ (IsFreshName names counts letters)
    → judge_unit counts total letters n found next ≡ BadLetters total letters
judge_bad names counts total letters n None next is bad = refl
judge_bad names counts total letters n (Some unit) next is bad =
    judge_if (counts_unit unit counts) total letters _ (λ fresh. bad
    (unit, named_contains names letters unit is, fresh_all unit counts fresh))

-- a number with letters that are no fresh name, in front of bytes
pub bad_in_front :
    (names : Names) (counts : List Count) (total : ℕ) (bytes : List ℕ) (n : Numeral) (letters rest : List ℕ)
    (h : StandsNamed bytes n letters rest) → ¬ (IsFreshName names counts letters)
    → verdict names counts total (words bytes) ≡ BadLetters (total + length h.number) letters
bad_in_front names counts total bytes n letters rest h bad =
    let judged = named_words names counts total bytes n letters rest h in
    judged.1 ∙ judge_bad names counts (total + length h.number) letters n (unit_named names letters) judged.0 refl bad

-- ---- whole texts

-- what items spell
pub items_verdict : (names : Names) → AreNames names → (all : List (List ℕ)) (counts : List Count) → AreItems names all counts
    → verdict names [] 0 all ≡ Spelled counts
items_verdict names letters all counts (items, join, counted, distinct) =
    let distinct' : has_distinct_units (all_counts items) ≡ true = ap has_distinct_units (sym counted) ∙ pairs_distinct counts distinct in
    ap (verdict names [] 0) (sym (append-nil all)) ∙ advance names letters all [] items [] 0 join distinct' ∙ ap Spelled (sym counted)

-- what the words before a bad name come to
pub behind_items : (names : Names) → AreNames names → (lead rest : List ℕ) (counts : List Count) → AreItems names (words lead) counts
    → EndsInBlank lead
    → verdict names [] 0 (words (lead ++ rest)) ≡ verdict names counts (total_length (words lead)) (words rest)
behind_items names letters lead rest counts (items, join, counted, distinct) closed =
    let distinct' : has_distinct_units (all_counts items) ≡ true = ap has_distinct_units (sym counted) ∙ pairs_distinct counts distinct in
    ap (verdict names [] 0) (words-closed lead rest closed) ∙ advance names letters (words lead) (words rest) items [] 0 join distinct'
    ∙ ap (λ (l : List Count). verdict names l (0 + total_length (words lead)) (words rest)) (sym counted)
    ∙ ap (λ (k : ℕ). verdict names counts k (words rest)) (omega arith)

abbrev stands_at : (names : Names) (text : List ℕ) (start end : ℕ) (h : IsBadName names text start end)
    → StandsNamed (h.number ++ (h.blanks ++ (h.letters ++ h.after)))
    (record { negative = h.c.negative; whole = h.c.whole; fraction = h.c.fraction }) h.letters h.after
stands_at names text start end h = record {
  number = h.number;
  blanks = h.blanks;
  digits = h.digits;
  blank = h.blank;
  some = h.some;
  ascii = h.ascii;
  ends = h.ends;
  split = refl;
}

pub bad_verdict : (names : Names) → AreNames names → (text : List ℕ) (start end : ℕ) (h : IsBadName names text start end)
    → verdict names [] 0 (words text) ≡ BadLetters (total_length (words h.lead) + length h.number) h.letters
bad_verdict names letters text start end h =
    ap (λ (l : List ℕ). verdict names [] 0 (words l)) h.split
    ∙ behind_items names letters h.lead (h.number ++ (h.blanks ++ (h.letters ++ h.after))) h.counts h.items h.closed
    ∙ bad_in_front names h.counts (total_length (words h.lead)) (h.number ++ (h.blanks ++ (h.letters ++ h.after))) _ h.letters h.after
    (stands_at names text start end h) h.bad

-- a text with a bad name has no shape
pub no_shape_at_bad_name : (names : Names) → AreNames names → (text : List ℕ) (start end : ℕ) (counts : List Count)
    → IsBadName names text start end → AreItems names (words text) counts
    → ⊥
no_shape_at_bad_name names letters text start end counts bad items =
    let clash : Spelled counts ≡ BadLetters (total_length (words bad.lead) + length bad.number) bad.letters = sym
    (items_verdict names letters (words text) counts items) ∙ bad_verdict names letters text start end bad in cc

-- words have one list of counts
pub one_counts : (names : Names) → AreNames names → (all : List (List ℕ)) (a b : List Count) → AreItems names all a → AreItems names all b
    → a ≡ b
one_counts names letters all a b ha hb =
    let same : Spelled a ≡ Spelled b = sym (items_verdict names letters all a ha) ∙ items_verdict names letters all b hb in cc

-- ---- a text has at most one bad name

ink_solid : (w : List ℕ) → NoBlanks w → ink w ≡ length w
ink_solid [] h = refl
ink_solid (b ∷ bs) h = let first = h.0 in let below = ink_solid bs h.1 in rw first (omega (arith, below))

pub ink_blanks : (blanks : List ℕ) → AreBlanks blanks → ink blanks ≡ 0
ink_blanks [] h = refl
ink_blanks (b ∷ bs) h = let split = and_parts (is_blank b) (list_all is_blank bs) h in let first = split.0 in let below =
    ink_blanks bs split.1 in rw first (omega (arith, below))

-- what stands before a bad name
abbrev pub before_name : (names : Names) (text : List ℕ) (start end : ℕ) → IsBadName names text start end → List ℕ
before_name names text start end h = h.lead ++ (h.number ++ h.blanks)

before_ink : (names : Names) (text : List ℕ) (start end : ℕ) (h : IsBadName names text start end)
    → ink (before_name names text start end h) ≡ total_length (words h.lead) + length h.number
before_ink names text start end h =
    let a = ink-append h.lead (h.number ++ h.blanks) in
    let b = ink-append h.number h.blanks in
    let c = ink-words h.lead in
    let d = ink_solid h.number (number_no_blanks h.c.negative h.c.whole h.c.fraction h.number h.digits) in
    let e = ink_blanks h.blanks h.blank in
    omega (arith, a, b, c, d, e)

before_split : (names : Names) (text : List ℕ) (start end : ℕ) (h : IsBadName names text start end)
    → text ≡ before_name names text start end h ++ (h.letters ++ h.after)
before_split names text start end h =
    h.split ∙ ap (λ (l : List ℕ). h.lead ++ l) (sym (append_assoc h.number h.blanks (h.letters ++ h.after)))
    ∙ sym (append_assoc h.lead (h.number ++ h.blanks) (h.letters ++ h.after))

-- two places of the same letters behind as many bytes that aren't blank
same_before : (xs ys letters more s t : List ℕ) → 0 < length letters → AreLetters letters → letters ≡ more → ink xs ≡ ink ys
    → xs ++ (letters ++ s) ≡ ys ++ (more ++ t)
    → xs ≡ ys
same_before xs ys [] more s t some l same count e = absurd (omega arith)
same_before xs ys (c ∷ cs) more s t some l same count e =
    let solid = letter_no_blank c (first_letter c cs l) in
    same_place xs ys (cs ++ s) (cs ++ t) c c solid solid count (e ∙ ap (λ (x : List ℕ). ys ++ (x ++ t)) (sym same))

pub one_bad_name : (names : Names) → AreNames names → (text : List ℕ) (s e t f : ℕ) → IsBadName names text s e → IsBadName names text t f
    → (s ≡ t) × (e ≡ f)
one_bad_name names letters text s e t f a b =
    let same : BadLetters (total_length (words a.lead) + length a.number) a.letters
    ≡ BadLetters (total_length (words b.lead) + length b.number) b.letters =
    sym (bad_verdict names letters text s e a) ∙ bad_verdict names letters text t f b in
    let totals : total_length (words a.lead) + length a.number ≡ total_length (words b.lead) + length b.number = cc in
    let same_letters : a.letters ≡ b.letters = cc in
    let before = same_before (before_name names text s e a) (before_name names text t f b) a.letters b.letters a.after b.after a.some
    a.ascii same_letters
    (before_ink names text s e a ∙ totals ∙ sym (before_ink names text t f b))
    (sym (before_split names text s e a) ∙ before_split names text t f b) in
    let lengths = ap (λ (l : List ℕ). length l) before in
    let left = length-append a.lead (a.number ++ a.blanks) in
    let left' = length-append a.number a.blanks in
    let right = length-append b.lead (b.number ++ b.blanks) in
    let right' = length-append b.number b.blanks in
    let names_length = ap (λ (l : List ℕ). length l) same_letters in
    let first = a.starts in
    let second = b.starts in
    let third = a.stops in
    let fourth = b.stops in (
      omega (arith, lengths, left, left', right, right', first, second),
      omega (arith, lengths, left, left', right, right', first, second, third, fourth, names_length),
    )
