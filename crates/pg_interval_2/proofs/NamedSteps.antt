-- Items of a number and letters: when one is read, and what it is to count one.
use Rattle.std.proofs.Common.{◌≡◌, ◌≢◌, ℕ, ◌+◌, ◌<◌, ◌==◌, Bool, true, false, cond, nat_lt, List, [], ◌∷◌, ◌++◌, length, Option, None, Some}
use Rattle.std.proofs.Common.{refl, sym, ◌∙◌, ap, subst, inl, inr, arith, lt-ltb}
use Rattle.std.proofs.lemmas.Bool.Decides.{eqb_tells, nat_tests}
use Rattle.scan_core.specs.Count.{Count}
use Rattle.scan_core.specs.Fronts.{after_digits, front_digits}
use Rattle.scan_core.specs.Runs.{IsRun, IsWord, digits_of, letters_of}
use Rattle.scan_core.specs.Scanning.{Passes, Place, ahead, between, front_byte}
use Rattle.scan_core.specs.declared.runs.Run.{Run}
use Rattle.scan_core.specs.declared.runs.Word.{Word}
use Rattle.scan_core.specs.declared.share.Unit.{Unit as TimeUnit}
use Rattle.scan_core.proofs.Between.{between_none, length-between}
use Rattle.scan_core.proofs.RunFacts.{run_length}
use Rattle.pg_interval_2.specs.declared.reading.distinct_tally.DistinctTally.{DistinctTally}
use Rattle.pg_interval_2.specs.declared.reading.distinct_tally.Step.{Step}
use Rattle.pg_interval_2.specs.declared.reading.distinct_tally.Step.TheVariants as step
use Rattle.pg_interval_2.specs.declared.reading.unit_names.NameSet.{NameSet}
use Rattle.pg_interval_2.specs.inside.DistinctItems.{CountsNamed, IsDistinctTally, IsItemStep}
use Rattle.pg_interval_2.specs.inside.ItemReading.{NextItem, NamedItem, NoItem, after_blanks, after_letters, front_letters, has_name}
use Rattle.pg_interval_2.specs.inside.ItemReading.{read_byte, read_clock, read_item, read_named}
use Rattle.pg_interval_2.specs.inside.NamedUnits.{unit_named}
use Rattle.pg_interval_2.specs.inside.NameSets.{names_in}
use Rattle.pg_interval_2.specs.inside.Reading.{Numeral, count_with, read_fraction, read_sign}
use Rattle.pg_interval_2.specs.inside.TurnedCount.{turned_count}
use Rattle.pg_interval_2.specs.Turned.{turned_counts, turned_sign}
use Rattle.pg_interval_2.proofs.DistinctFacts.{no_unit, not_fresh}
use Rattle.pg_interval_2.proofs.Turning.{counts_unit-turned, turned-append}

-- ---- which item is read

no_byte : (byte : ℕ) (bytes : List ℕ) → front_byte bytes ≢ Some byte → read_byte byte bytes ≡ None
no_byte byte [] h = refl
no_byte byte (b ∷ bs) h = elim (eqb_tells b byte) [
  | inl equal ↦ absurd
      (h (ap Some equal.1))
  | inr apart ↦ let other = apart.0 in rw other refl
]

-- no colon behind the digits
pub item_named : (bytes : List ℕ) (negative : Bool) (signed digits after : List ℕ) → (negative, signed) ≡ read_sign true bytes
    → digits ≡ front_digits signed
    → after ≡ after_digits signed → front_byte after ≢ Some 58
    → read_item bytes ≡ read_named negative digits after
unfolding read_item
item_named bytes negative signed digits after sign front rest colon =
    let s = sym sign in
    let d = sym front in
    let r = sym rest in
    let none = no_byte 58 after colon in
    rw (s, d, r, none) refl

-- a colon behind them, which is passed
pub item_clock : (bytes : List ℕ) (negative : Bool) (signed : List ℕ) (before colon : Place) (whole : Run)
    → (negative, signed) ≡ read_sign true bytes
    → digits_of before.text whole ≡ front_digits signed → ahead before ≡ after_digits signed → Passes (58 ∷ []) before colon
    → read_item bytes ≡ read_clock negative (digits_of colon.text whole) (ahead colon)
unfolding read_item
item_clock bytes negative signed before colon whole sign front rest passed =
    let s = sym sign in
    let d : front_digits signed ≡ digits_of colon.text whole = sym (ap (λ (l : List ℕ). digits_of l whole) passed.same ∙ front) in
    let r : after_digits signed ≡ 58 ∷ ahead colon = sym rest ∙ passed.split in
    rw (s, d, r) refl

-- ---- when a number and letters are read

equal : (a b : ℕ) → true ≡ (a == b) → a ≡ b
equal a b h = grind (arith, nat_tests)

no_digits : (text : List ℕ) (run : Run) → true ≡ (run.start == run.end) → digits_of text run ≡ []
no_digits text run empty = ap (λ (n : ℕ). between n run.end text) (equal run.start run.end empty) ∙ between_none text run.end

none_both : (t : Bool) → cond t NoItem NoItem ≡ NoItem
none_both true = refl
none_both false = refl

-- no digits
pub digitless : (negative : Bool) (text behind bytes after : List ℕ) (whole fraction : Run)
    → (digits_of behind fraction, after) ≡ read_fraction bytes
    → true ≡ (whole.start == whole.end) → true ≡ (fraction.start == fraction.end)
    → read_named negative (digits_of text whole) bytes ≡ NoItem
unfolding read_named
digitless negative text behind bytes after whole fraction read w f =
    let back = sym read in
    let no_whole = no_digits text whole w in
    let no_fraction = no_digits behind fraction f in
    rw (back, no_whole, no_fraction) refl

-- no name behind the number
pub nameless : (negative : Bool) (whole bytes digits after : List ℕ) → (digits, after) ≡ read_fraction bytes
    → has_name (after_blanks after) ≡ false
    → read_named negative whole bytes ≡ NoItem
unfolding read_named
nameless negative whole bytes digits after read none =
    let back = sym read in
    rw (back, none) (none_both (nat_lt 0 (length whole + length digits)))

-- digits, and a name behind them
pub named : (negative : Bool) (whole bytes digits after letters rest : List ℕ) → (digits, after) ≡ read_fraction bytes
    → 0 < length whole + length digits → has_name (after_blanks after) ≡ true → letters ≡ front_letters (after_blanks after)
    → rest ≡ after_letters (after_blanks after)
    → read_named negative whole bytes ≡ NamedItem (record { negative = negative; whole = whole; fraction = digits }) letters rest
unfolding read_named
named negative whole bytes digits after letters rest read some name l r =
    let back = sym read in
    let test = lt-ltb 0 (length whole + length digits) some in
    rw (back, test, name, l, r) refl

-- without a point there is no fraction
pub pointless : (bytes : List ℕ) → front_byte bytes ≢ Some 46 → ([], bytes) ≡ read_fraction bytes
pointless [] h = refl
pointless (b ∷ bs) h = elim (eqb_tells b 46) [ inl equal ↦ absurd (h (ap Some equal.1)) | inr apart ↦ let other = apart.0 in rw other refl ]

-- a run that doesn't end where it starts has digits
pub some_whole : (text : List ℕ) (run : Run) → IsRun text run → run.start ≢ run.end → 0 < length (digits_of text run) + 0
some_whole text run is apart = let long = run_length text run is in omega (arith, long, is.order, apart)

-- ---- counting one

step_found : (set : NameSet) (turned : Bool) (text : List ℕ) (item : NextItem) (rest : List ℕ) (counts : List Count) (n m : Numeral)
    (word : Word)
    (new : DistinctTally) (result : Step) (found : Option TimeUnit) → item ≡ NamedItem n (letters_of text word) rest
    → ((unit : TimeUnit) → count_with m unit ≡ turned_count turned (count_with n unit)) → IsWord text word
    → word.end + length rest ≡ length text → unit_named (names_in set) (letters_of text word) ≡ found
    → CountsNamed found (turned_counts turned counts) m word new result
    → IsItemStep (names_in set) turned text item rest counts new result
step_found set turned text item rest counts n m word new step.Taken (Some unit) read is letters ends found counted =
    let same = ap (λ (x : Count). turned_counts turned counts ++ x ∷ []) (is unit)
    ∙ sym (turned-append turned counts (count_with n unit ∷ [])) in
    inr (n, letters_of text word, unit, read, found, subst (IsDistinctTally new) same counted)
step_found set turned text item rest counts n m word new (step.BadName bad) (Some unit) read is letters ends found (bad_is, before) =
    let long = length-between text word.start word.end letters.order letters.within in
    record {
      number = n;
      letters = letters_of text word;
      read = read;
      bad = not_fresh set counts (letters_of text word) unit found (sym (counts_unit-turned turned unit counts) ∙ before);
      starts = rw bad_is (omega (arith, long, letters.order));
      ends = rw bad_is ends;
    }
step_found set turned text item rest counts n m word new step.NoItem (Some unit) read is letters ends found counted = absurd counted
step_found set turned text item rest counts n m word new step.Taken None read is letters ends found counted = absurd counted
step_found set turned text item rest counts n m word new (step.BadName bad) None read is letters ends found bad_is =
    let long = length-between text word.start word.end letters.order letters.within in
    record {
      number = n;
      letters = letters_of text word;
      read = read;
      bad = no_unit set counts (letters_of text word) found;
      starts = rw bad_is (omega (arith, long, letters.order));
      ends = rw bad_is ends;
    }
step_found set turned text item rest counts n m word new step.NoItem None read is letters ends found counted = absurd counted

-- the number's sign is turned first, or not
pub is_turned : (turned negative sign : Bool) (whole digits fraction behind : List ℕ) → sign ≡ turned_sign turned negative → digits ≡ whole
    → behind ≡ fraction → (unit : TimeUnit)
    → count_with (record { negative = sign; whole = digits; fraction = behind }) unit
    ≡ turned_count turned (count_with (record { negative = negative; whole = whole; fraction = fraction }) unit)
is_turned turned negative sign whole digits fraction behind n w f unit = rw (n, w, f) refl

-- a step over a number and letters
pub named_step : (set : NameSet) (turned : Bool) (text same : List ℕ) (item : NextItem) (rest : List ℕ) (counts : List Count)
    (n m : Numeral) (word : Word)
    (new : DistinctTally) (result : Step) → same ≡ text → item ≡ NamedItem n (letters_of text word) rest
    → ((unit : TimeUnit) → count_with m unit ≡ turned_count turned (count_with n unit)) → IsWord text word
    → word.end + length rest ≡ length text
    → CountsNamed (unit_named (names_in set) (letters_of same word)) (turned_counts turned counts) m word new result
    → IsItemStep (names_in set) turned text item rest counts new result
named_step set turned text same item rest counts n m word new result e read is letters ends counted =
    step_found set turned text item rest counts n m word new result
    (unit_named (names_in set) (letters_of text word)) read is letters ends refl
    (subst (λ (l : List ℕ). CountsNamed (unit_named (names_in set) (letters_of l word)) (turned_counts turned counts) m word new result) e
    counted)
