-- Item after item of a text, with any names of units.
use Rattle.std.proofs.Common.{◌≡◌, ◌≢◌, ℕ, ◌<◌, ◌≤◌, ◌⊎◌, Bool, true, false, IsTrue, List, [], ◌∷◌, ◌++◌, length, Some, refl, sym, ◌∙◌, ap}
use Rattle.std.proofs.Common.{subst, append_assoc, append-nil, length-append, arith, inl, inr}
use Rattle.std.specs.List.{list_all}
use Rattle.std.proofs.lemmas.Bool.{and_parts}
use Rattle.scan_core.specs.Blanks.{is_blank, words, EndsWord, EndsInBlank}
use Rattle.scan_core.specs.Count.{Count}
use Rattle.scan_core.specs.declared.share.Unit.{Unit as TimeUnit}
use Rattle.scan_core.proofs.Joins.{join_push}
use Rattle.scan_core.proofs.WordFacts.{words-closed}
use Rattle.pg_interval_2.specs.declared.reading.distinct_tally.DistinctTally.{DistinctTally}
use Rattle.pg_interval_2.specs.inside.DistinctItems.{IsDistinctTally, TakesItem}
use Rattle.pg_interval_2.specs.inside.ItemReading.{ClockFields, clock_of, after_blanks, read_item}
use Rattle.pg_interval_2.specs.Postgres.{IsItem, AreItems, all_counts}
use Rattle.pg_interval_2.specs.inside.UnitPlaces.{has_distinct_units}
use Rattle.pg_interval_2.specs.inside.Reading.{Numeral, count_with}
use Rattle.pg_interval_2.specs.Turned.{turned_counts}
use Rattle.pg_interval_2.specs.inside.NamedUnits.{unit_named}
use Rattle.pg_interval_2.proofs.UnitsApart.{named_contains, distinct_pairs}
use Rattle.pg_interval_2.proofs.DistinctFacts.{clock_long, named_long}
use Rattle.pg_interval_2.proofs.ItemFacts.{AreBlanks, are_skipped}
use Rattle.pg_interval_2.proofs.ItemsRead.{StandsNamed, StandsClock, Stands, item_stands}
use Rattle.pg_interval_2.proofs.ItemWords.{number_no_blanks, clock_no_blanks, number_some, clock_some, letters_no_blanks, no_blanks-append}
use Rattle.pg_interval_2.proofs.ItemWords.{words_in_front, words-blanks}
use Rattle.pg_interval_2.proofs.NoItems.{after_solid}
use Rattle.pg_interval_2.proofs.Turning.{distinct-turned}
use Rattle.pg_interval_2.proofs.Verdicts.{Names}
use Rattle.pg_interval_2.proofs.Frames.{words_before}

-- ---- an item and the words that it is

-- bytes that are an item of these counts, and what follows them
pub record IsItemInFront (names : Names) (bytes rest : List ℕ) (cs : List Count) : Type 0 where
  pub front : List ℕ
  pub item : IsItem names (words front) cs
  pub ends : EndsWord rest
  pub split : bytes ≡ front ++ rest

clock_front : (names : Names) (bytes : List ℕ) (fields : ClockFields) (rest : List ℕ) → StandsClock bytes fields rest
    → IsItemInFront names bytes rest (clock_of fields)
clock_front names bytes fields rest h =
    let alone = ap words (sym (append-nil h.word)) ∙ words_in_front h.word [] (clock_some h.word _ h.clock)
    (clock_no_blanks h.word _ h.clock) tt in
    record { front = h.word; item = inr (h.word, h.clock, alone); ends = h.ends; split = h.split }

named_item : (names : Names) (n : Numeral) (letters bytes rest : List ℕ) (h : StandsNamed bytes n letters rest) (unit : TimeUnit)
    → unit_named names letters ≡ Some unit → (blanks : List ℕ) → h.blanks ≡ blanks
    → IsItem names (words (h.number ++ (h.blanks ++ letters))) (count_with n unit ∷ [])
named_item names n letters bytes rest h unit found [] none =
    let word = h.number ++ letters in
    let lengths = length-append h.number letters in
    let some = number_some n.negative n.whole n.fraction h.number h.digits in
    let solid = no_blanks-append h.number letters (number_no_blanks n.negative n.whole n.fraction h.number h.digits)
    (letters_no_blanks letters h.ascii) in
    let spelled : words (h.number ++ (h.blanks ++ letters)) ≡ word ∷ [] =
    ap (λ (l : List ℕ). words (h.number ++ (l ++ letters))) none ∙ ap words (sym (append-nil word))
    ∙ words_in_front word [] (omega (arith, lengths, some)) solid tt in
    inl (
      count_with n unit,
      record {
        number = h.number;
        name = letters;
        digits = h.digits;
        unit = named_contains names letters unit found;
        spelled = inr spelled;
      },
      refl,
    )
named_item names n letters bytes rest h unit found (b ∷ bs) some =
    let blank : AreBlanks (b ∷ bs) = subst AreBlanks some h.blank in
    let first = words_in_front h.number ((b ∷ bs) ++ letters) (number_some n.negative n.whole n.fraction h.number h.digits)
    (number_no_blanks n.negative n.whole n.fraction h.number h.digits) (and_parts (is_blank b) (list_all is_blank bs) blank).0 in
    let second = words-blanks (b ∷ bs) letters blank ∙ ap words (sym (append-nil letters))
    ∙ words_in_front letters [] h.some (letters_no_blanks letters h.ascii) tt in
    let spelled : words (h.number ++ (h.blanks ++ letters)) ≡ h.number ∷ letters ∷ [] =
    ap (λ (l : List ℕ). words (h.number ++ (l ++ letters))) some ∙ first ∙ ap (λ (l : List (List ℕ)). h.number ∷ l) second in
    inl (
      count_with n unit,
      record {
        number = h.number;
        name = letters;
        digits = h.digits;
        unit = named_contains names letters unit found;
        spelled = inl spelled;
      },
      refl,
    )

named_front : (names : Names) (bytes : List ℕ) (n : Numeral) (letters rest : List ℕ) (unit : TimeUnit) → StandsNamed bytes n letters rest
    → unit_named names letters ≡ Some unit
    → IsItemInFront names bytes rest (count_with n unit ∷ [])
named_front names bytes n letters rest unit h found = record {
  front = h.number ++ (h.blanks ++ letters);
  item = named_item names n letters bytes rest h unit found h.blanks refl;
  ends = h.ends;
  split = h.split ∙ ap (λ (l : List ℕ). h.number ++ l) (sym (append_assoc h.blanks letters rest))
      ∙ sym (append_assoc h.number (h.blanks ++ letters) rest);
}

-- ---- blanks behind an item

last_blank : (b : ℕ) (bs : List ℕ) → AreBlanks (b ∷ bs)
    → (front : List ℕ) × (last : ℕ) × IsTrue (is_blank last) × (b ∷ bs ≡ front ++ last ∷ [])
last_blank b [] all = ([], b, (and_parts (is_blank b) true all).0, refl)
last_blank b (c ∷ cs) all =
    let below = last_blank c cs (and_parts (is_blank b) (list_all is_blank (c ∷ cs)) all).1 in
    (b ∷ below.0, below.1, below.2, ap (λ (l : List ℕ). b ∷ l) below.3)

-- blanks end what stands before them
blanks_end : (front : List ℕ) (b : ℕ) (bs : List ℕ) → AreBlanks (b ∷ bs) → EndsInBlank (front ++ (b ∷ bs))
blanks_end front b bs all =
    let last = last_blank b bs all in inr (
      front ++ last.0,
      last.1,
      last.2,
      ap (λ (l : List ℕ). front ++ l) last.3
          ∙ sym (append_assoc front last.0 (last.1 ∷ [])),
    )

pub closed_start : (blanks : List ℕ) → AreBlanks blanks → EndsInBlank blanks
closed_start [] all = inl refl
closed_start (b ∷ bs) all = blanks_end [] b bs all

closed_after : (front after blanks : List ℕ) → EndsWord after → AreBlanks blanks → after ≡ blanks ++ after_blanks after
    → (after_blanks after ≡ []) ⊎ EndsInBlank (front ++ blanks)
closed_after front after (b ∷ bs) ends all split = inr (blanks_end front b bs all)
closed_after front [] [] ends all split = inl refl
closed_after front (c ∷ cs) [] ends all split = let solid = after_solid (c ∷ cs) c cs (sym split) in let clash : true ≡ false =
    sym ends ∙ solid in cc

-- ---- items so far

-- The text is items of these counts, taken so far, and a rest that begins with no blank.
pub record ItemsTaken (names : Names) (turned : Bool) (text rest : List ℕ) (state : DistinctTally) : Type 0 where
  pub consumed : List ℕ
  pub counts : List Count
  pub split : text ≡ consumed ++ rest
  pub items : AreItems names (words consumed) counts
  pub closed : (rest ≡ []) ⊎ EndsInBlank consumed
  pub solid : (b : ℕ) (bs : List ℕ) → rest ≡ b ∷ bs → is_blank b ≡ false
  pub counted : IsDistinctTally state (turned_counts turned counts)

pub none_taken : (names : Names) (turned : Bool) (text : List ℕ) (state : DistinctTally) → IsDistinctTally state []
    → ItemsTaken names turned text (after_blanks text) state
none_taken names turned text state h =
    let skip = are_skipped text in
    record {
      consumed = skip.0;
      counts = [];
      split = skip.2;
      items = ([], ap words (sym (append-nil skip.0)) ∙ words-blanks skip.0 [] skip.1, refl, distinct_pairs [] refl);
      closed = inr (closed_start skip.0 skip.1);
      solid = after_solid text;
      counted = h;
    }

pub closed_now : (names : Names) (turned : Bool) (text rest : List ℕ) (state : DistinctTally)
    (taken : ItemsTaken names turned text rest state)
    → rest ≢ []
    → EndsInBlank taken.consumed
closed_now names turned text rest state taken some = elim taken.closed [ inl none ↦ absurd (some none) | inr closed ↦ closed ]

all_counts-push : (items : List (List Count)) (cs : List Count) → all_counts (items ++ cs ∷ []) ≡ all_counts items ++ cs
all_counts-push [] cs = append-nil cs
all_counts-push (x ∷ xs) cs = ap (λ (l : List Count). x ++ l) (all_counts-push xs cs) ∙ sym (append_assoc x (all_counts xs) cs)

items_push : (names : Names) (consumed front : List (List ℕ)) (counts cs : List Count) → AreItems names consumed counts
    → IsItem names front cs → has_distinct_units (counts ++ cs) ≡ true
    → AreItems names (consumed ++ front) (counts ++ cs)
items_push names consumed front counts cs (items, join, counted, distinct) item both_distinct = (
  items ++ cs ∷ [],
  join_push (IsItem names) consumed front items cs join item,
  ap (λ (l : List Count). l ++ cs) counted
      ∙ sym (all_counts-push items cs),
  distinct_pairs (counts ++ cs) both_distinct,
)

front_taken :
    (names : Names) (turned : Bool) (text rest after : List ℕ) (cs : List Count) (old new : DistinctTally)
    (taken : ItemsTaken names turned text rest old) → rest ≢ [] → IsItemInFront names rest after cs
    → IsDistinctTally new (turned_counts turned (taken.counts ++ cs))
    → ItemsTaken names turned text (after_blanks after) new
front_taken names turned text rest after cs old new taken some item counted =
    let skip = are_skipped after in
    let closed = closed_now names turned text rest old taken some in
    let seen : words (taken.consumed ++ (item.front ++ skip.0)) ≡ words taken.consumed ++ words item.front =
    words-closed taken.consumed (item.front ++ skip.0) closed ∙ ap (λ (l : List (List ℕ)). words taken.consumed ++ l)
    (words_before item.front skip.0 skip.1) in
    let pushed = items_push names (words taken.consumed) (words item.front) taken.counts cs taken.items item.item
    (sym (distinct-turned turned (taken.counts ++ cs)) ∙ counted.distinct) in
    record {
      consumed = taken.consumed ++ (item.front ++ skip.0);
      counts = taken.counts ++ cs;
      split = taken.split ∙ ap (λ (l : List ℕ). taken.consumed ++ l)
          (item.split ∙ ap (λ (l : List ℕ). item.front ++ l) skip.2 ∙ sym (append_assoc item.front skip.0 (after_blanks after)))
          ∙ sym (append_assoc taken.consumed (item.front ++ skip.0) (after_blanks after));
      items = subst (λ (l : List (List ℕ)). AreItems names l (taken.counts ++ cs)) (sym seen) pushed;
      closed = subst (λ (l : List ℕ). (after_blanks after ≡ []) ⊎ EndsInBlank l) (append_assoc taken.consumed item.front skip.0)
          (closed_after (taken.consumed ++ item.front) after skip.0 item.ends skip.1 skip.2);
      solid = after_solid after;
      counted = counted;
    }

pub one_taken :
    (names : Names) (turned : Bool) (text rest after : List ℕ) (old new : DistinctTally) (taken : ItemsTaken names turned text rest old)
    → rest ≢ [] → TakesItem names turned (read_item rest) after taken.counts new
    → ItemsTaken names turned text (after_blanks after) new
one_taken names turned text rest after old new taken some (inl (fields, read, counted)) =
    front_taken names turned text rest after (clock_of fields) old new taken some
    (clock_front names rest fields after (subst (Stands rest) read (item_stands rest))) counted
one_taken names turned text rest after old new taken some (inr (n, letters, unit, read, found, counted)) =
    front_taken names turned text rest after (count_with n unit ∷ []) old new taken some
    (named_front names rest n letters after unit (subst (Stands rest) read (item_stands rest)) found) counted

-- what is left of a rest after an item is shorter
pub taken_shorter : (names : Names) (turned : Bool) (rest after : List ℕ) (counts : List Count) (new : DistinctTally)
    → TakesItem names turned (read_item rest) after counts new
    → length (after_blanks after) < length rest
taken_shorter names turned rest after counts new (inl (fields, read, counted)) =
    let skip = ap (λ (l : List ℕ). length l) (are_skipped after).2 ∙ length-append (are_skipped after).0 (after_blanks after) in
    omega (arith, clock_long rest fields after read, skip)
taken_shorter names turned rest after counts new (inr (n, letters, unit, read, found, counted)) =
    let skip = ap (λ (l : List ℕ). length l) (are_skipped after).2 ∙ length-append (are_skipped after).0 (after_blanks after) in
    omega (arith, named_long rest n letters after read, skip)

pub after-le : (after : List ℕ) → length (after_blanks after) ≤ length after
after-le after = let skip = ap (λ (l : List ℕ). length l) (are_skipped after).2
    ∙ length-append (are_skipped after).0 (after_blanks after) in omega (arith, skip)
