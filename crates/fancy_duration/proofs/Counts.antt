-- A text that is a join of counts has one count at its front.
use Rattle.std.proofs.Common.{◌≡◌, ◌≢◌, ◌↔◌, ℕ, ◌+◌, ◌<◌, true, false, List, [], ◌∷◌, ◌++◌, length, refl, sym, ◌∙◌, ap, subst, arith}
use Rattle.std.proofs.Common.{append_assoc, length-append, inl, inr}
use Rattle.std.specs.List.{list_all}
use Rattle.std.specs.Char.{is_ascii_digit as is_digit, is_ascii_alphabetic as is_letter}
use Rattle.std.proofs.lemmas.Bool.{and_parts}
use Rattle.std.proofs.lemmas.Bool.Decides.{nat_tests}
use Rattle.scan_core.specs.Digits.{AreDigits}
use Rattle.scan_core.specs.Blanks.{is_blank}
use Rattle.scan_core.specs.Join.{IsJoin}
use Rattle.scan_core.proofs.FrontFacts.{length-behind, leading_passes, leading_and_behind, front_are_digits, behind_of}
use Rattle.fancy_duration.specs.declared.part.DurationPart.{DurationPart}
use Rattle.fancy_duration.specs.declared.part.DurationPart.TheVariants.{Years, Months, Weeks, Days, Hours, Minutes, Seconds, Milliseconds}
use Rattle.fancy_duration.specs.declared.part.DurationPart.TheVariants.{Microseconds, Nanoseconds}
use Rattle.fancy_duration.specs.Parts.{unit_of}
use Rattle.fancy_duration.specs.Items.{begins_by, is_unit}
use Rattle.fancy_duration.specs.Strict.{IsCount, IsStrict}
use Rattle.scan_core.specs.Fronts.{leading, behind}
use Rattle.fancy_duration.specs.inside.Reading.{unit_front, unit_behind, HasCounts}
use Rattle.fancy_duration.proofs.Fronts.{length-unit_behind, unit_front_some}
use Rattle.fancy_duration.proofs.ItemLists.{unit_joins, digits_split, begins_without, unit_splits, unit_begins, is_digit-from}

unit_some : (part : DurationPart) → 0 < length (unit_of part)
unit_some Years = omega arith
unit_some Months = omega arith
unit_some Weeks = omega arith
unit_some Days = omega arith
unit_some Hours = omega arith
unit_some Minutes = omega arith
unit_some Seconds = omega arith
unit_some Milliseconds = omega arith
unit_some Microseconds = omega arith
unit_some Nanoseconds = omega arith

letter_first : (part : DurationPart) → begins_by is_letter (unit_of part) ≡ true
letter_first Years = refl
letter_first Months = refl
letter_first Weeks = refl
letter_first Days = refl
letter_first Hours = refl
letter_first Minutes = refl
letter_first Seconds = refl
letter_first Milliseconds = refl
letter_first Microseconds = refl
letter_first Nanoseconds = refl

-- a text that begins as the name of a part does begins by a letter
pub named_letter : (text unit : List ℕ) (part : DurationPart) → begins_by is_letter unit ≡ begins_by is_letter text → unit ≡ unit_of part
    → begins_by is_letter text ≡ true
named_letter text unit part first named = sym first ∙ ap (begins_by is_letter) named ∙ letter_first part

digit_not_letter : (d : ℕ) → is_digit d ≡ true → is_letter d ≡ false
digit_not_letter d e = grind (arith, nat_tests)

digit_not_blank : (d : ℕ) → is_digit d ≡ true → is_blank d ≡ false
digit_not_blank d e = grind (arith, nat_tests)

pub blank_not_digit : (b : ℕ) → is_blank b ≡ true → is_digit b ≡ false
blank_not_digit b e = grind (arith, nat_tests)

blank_not_letter : (b : ℕ) → is_blank b ≡ true → is_letter b ≡ false
blank_not_letter b e = grind (arith, nat_tests)

pub digits_begin : (digits rest : List ℕ) → 0 < length digits → AreDigits digits
    → (begins_by is_letter (digits ++ rest) ≡ false) × (begins_by is_blank (digits ++ rest) ≡ false)
digits_begin [] rest some are = absurd (omega arith)
digits_begin (d ∷ ds) rest some are = let e : is_digit d ≡ true = is_digit-from d are.0 in (digit_not_letter d e, digit_not_blank d e)

-- a count, and so a join of counts, begins by a digit
counts_begin : (parts : List DurationPart) (text : List ℕ) → IsJoin IsCount text parts
    → (begins_by is_letter text ≡ false) × (begins_by is_blank text ≡ false)
counts_begin [] text h = (ap (begins_by is_letter) h, ap (begins_by is_blank) h)
counts_begin (part ∷ parts) text h =
    let tail = (unit_of part ++ h.2.blanks) ++ h.1 in
    let begin = digits_begin h.2.digits tail h.2.some_digits h.2.are_digits in
    let split : text ≡ h.2.digits ++ tail = h.4 ∙ ap (λ xs. xs ++ h.1) h.2.joined
    ∙ append_assoc h.2.digits (unit_of part ++ h.2.blanks) h.1 in
    (ap (begins_by is_letter) split ∙ begin.0, ap (begins_by is_blank) split ∙ begin.1)

pub is_unit-unit_of : (part : DurationPart) (rest : List ℕ) → begins_by is_letter rest ≡ false
    → is_unit (unit_of part) rest ≡ true
is_unit-unit_of Years rest h = simp h
is_unit-unit_of Months rest h = simp h
is_unit-unit_of Weeks rest h = simp h
is_unit-unit_of Days rest h = simp h
is_unit-unit_of Hours rest h = simp h
is_unit-unit_of Minutes rest h = simp h
is_unit-unit_of Seconds rest h = simp h
is_unit-unit_of Milliseconds rest h = refl
is_unit-unit_of Microseconds rest h = refl
is_unit-unit_of Nanoseconds rest h = refl

pub begins_letter-blanks : (blanks rest : List ℕ) → list_all is_blank blanks ≡ true
    → begins_by is_letter rest ≡ false → begins_by is_letter (blanks ++ rest) ≡ false
begins_letter-blanks [] rest h e = e
begins_letter-blanks (b ∷ bs) rest h e = blank_not_letter b (and_parts (is_blank b) (list_all is_blank bs) h).0

-- the parts of a text whose first count is known
pub record Splits (text rest : List ℕ) (part : DurationPart) : Type 0 where
  pub shorter : length (behind is_digit text) < length text
  pub unit : unit_front (behind is_digit text) ≡ unit_of part
  pub after : behind is_blank (unit_behind (behind is_digit text)) ≡ rest

pub count_splits : (parts : List DurationPart) (text rest piece : List ℕ) (part : DurationPart) (c : IsCount piece part)
    → IsJoin IsCount rest parts → text ≡ piece ++ rest → Splits text rest part
count_splits parts text rest piece part c h joined =
    let begin = counts_begin parts rest h in
    let unit = unit_of part in
    let whole : text ≡ c.digits ++ (unit ++ (c.blanks ++ rest)) =
    joined
    ∙ ap (λ xs. xs ++ rest) c.joined
    ∙ append_assoc c.digits (unit ++ c.blanks) rest
    ∙ ap (λ xs. c.digits ++ xs) (append_assoc unit c.blanks rest) in
    let letter = begins_letter-blanks c.blanks rest c.are_blanks begin.0 in
    let is = is_unit-unit_of part (c.blanks ++ rest) letter in
    let fronts = digits_split c.digits (unit ++ (c.blanks ++ rest)) c.are_digits (unit_begins unit (c.blanks ++ rest) is) in
    let tail : behind is_digit text ≡ unit ++ (c.blanks ++ rest) = ap (behind is_digit) whole ∙ fronts.1 in
    let units = unit_splits unit (c.blanks ++ rest) is in
    let blanks : behind is_blank (c.blanks ++ rest) ≡ rest = behind_of is_blank c.blanks rest c.are_blanks
    (begins_without is_blank rest begin.1) in
    record {
      shorter = omega (arith, ap length tail, ap length whole, length-append c.digits (unit ++ (c.blanks ++ rest)), c.some_digits);
      unit = ap unit_front tail ∙ units.0;
      after = ap (λ xs. behind is_blank (unit_behind xs)) tail ∙ ap (behind is_blank) units.1 ∙ blanks;
    }

-- a text that no digits begin, or that no unit follows
pub counts_none : (text tail : List ℕ) → tail ≡ behind is_digit text → length tail ≡ length text
    → HasCounts text → text ≡ []
counts_none text tail e same ([], h) = h
counts_none text tail e same (part ∷ parts, h) =
    let splits = count_splits parts text h.1 h.0 part h.2 h.3 h.4 in
    absurd (omega (arith, ap length e, splits.shorter))

pub counts_other : (text tail unit : List ℕ) → tail ≡ behind is_digit text → unit ≡ unit_front tail
    → ((part : DurationPart) → unit ≢ unit_of part) → HasCounts text → text ≡ []
counts_other text tail unit e u none ([], h) = h
counts_other text tail unit e u none (part ∷ parts, h) =
    let splits = count_splits parts text h.1 h.0 part h.2 h.3 h.4 in
    absurd (none part (u ∙ ap unit_front e ∙ splits.unit))

pub unit_letter : (part : DurationPart) (bs : List ℕ) → unit_front bs ≡ unit_of part
    → begins_by is_letter bs ≡ true
unit_letter part bs e = unit_front_some bs (λ none. absurd (omega (arith, unit_some part, ap length e)))

-- the join with a count taken from the front, both ways
count_added : (text tail unit after rest : List ℕ) (part : DurationPart)
    → tail ≡ behind is_digit text → length tail ≢ length text → unit ≡ unit_front tail
    → after ≡ unit_behind tail → rest ≡ behind is_blank after → unit ≡ unit_of part → HasCounts rest
    → HasCounts text
count_added text tail unit after rest part t some u a r named (parts, h) =
    let digits = leading is_digit text in
    let blanks = leading is_blank after in
    let letters : unit_front tail ≡ unit_of part = sym u ∙ named in
    let text_split : digits ++ tail ≡ text = ap (λ xs. digits ++ xs) t ∙ leading_and_behind is_digit text in
    let tail_split : tail ≡ unit_of part ++ after = sym (unit_joins tail (unit_letter part tail letters)).1
    ∙ ap (λ xs. xs ++ unit_behind tail) letters ∙ ap (λ xs. unit_of part ++ xs) (sym a) in
    let after_split : after ≡ blanks ++ rest = sym (leading_and_behind is_blank after) ∙ ap (λ xs. blanks ++ xs) (sym r) in
    let lengths : length digits + length tail ≡ length text = sym (length-append digits tail) ∙ ap length text_split in
    let whole : text ≡ (digits ++ (unit_of part ++ blanks)) ++ rest =
    sym text_split
    ∙ ap (λ xs. digits ++ xs) (tail_split ∙ ap (λ xs. unit_of part ++ xs) after_split ∙ sym (append_assoc (unit_of part) blanks rest))
    ∙ sym (append_assoc digits (unit_of part ++ blanks) rest) in
    let count : IsCount (digits ++ (unit_of part ++ blanks)) part = record {
      digits = digits;
      blanks = blanks;
      some_digits = omega arith;
      are_digits = front_are_digits text;
      are_blanks = leading_passes is_blank after;
      joined = refl;
    } in
    (part ∷ parts, (digits ++ (unit_of part ++ blanks), rest, count, h, whole))

count_taken : (text tail after rest : List ℕ) → tail ≡ behind is_digit text
    → length tail ≢ length text → after ≡ unit_behind tail → rest ≡ behind is_blank after
    → HasCounts text → HasCounts rest
count_taken text tail after rest t some a r ([], h) = absurd (some (ap length (t ∙ ap (behind is_digit) h) ∙ sym (ap length h)))
count_taken text tail after rest t some a r (part ∷ parts, h) =
    let splits = count_splits parts text h.1 h.0 part h.2 h.3 h.4 in
    let same : rest ≡ h.1 = r ∙ ap (behind is_blank) (a ∙ ap unit_behind t) ∙ splits.after in
    subst HasCounts (sym same) (parts, h.3)

pub count_stripped : (text tail unit after rest : List ℕ) (part : DurationPart)
    → tail ≡ behind is_digit text → length tail ≢ length text → unit ≡ unit_front tail
    → after ≡ unit_behind tail → rest ≡ behind is_blank after → unit ≡ unit_of part
    → HasCounts rest ↔ HasCounts text
count_stripped text tail unit after rest part t some u a r named =
    (count_added text tail unit after rest part t some u a r named, count_taken text tail after rest t some a r)

pub length-stripped : (text tail after rest : List ℕ) → tail ≡ behind is_digit text
    → length tail ≢ length text → after ≡ unit_behind tail → rest ≡ behind is_blank after
    → length rest < length text
length-stripped text tail after rest t some a r =
    omega (arith, ap length t, length-behind is_digit text, ap length a, length-unit_behind tail, ap length r, length-behind is_blank after)

-- the empty text is not strict
pub strict_empty : (text : List ℕ) → length text ≡ 0 → IsStrict text → ⊥
strict_empty text none (inl zero_text) = absurd (omega (arith, ap length zero_text))
strict_empty text none (inr ([], some, h)) = absurd (omega arith)
strict_empty text none (inr (part ∷ parts, some, h)) =
    let splits = count_splits parts text h.1 h.0 part h.2 h.3 h.4 in
    absurd (omega (arith, splits.shorter))
