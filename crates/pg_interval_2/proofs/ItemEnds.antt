-- How reading the items of a text ends: at its end, at a bad name, or at what is no item.
use Rattle.std.proofs.Common.{◌≡◌, ◌≢◌, ℕ, ◌+◌, ◌-◌, ◌<◌, ◌≤◌, Bool, false, List, [], ◌∷◌, ◌++◌, length, refl, sym, ◌∙◌, ap, subst}
use Rattle.std.proofs.Common.{length-append, arith, inl, inr}
use Rattle.scan_core.specs.Blanks.{is_blank, words}
use Rattle.scan_core.specs.Count.{Count}
use Rattle.scan_core.specs.declared.share.Unit.TheVariants.{Year}
use Rattle.scan_core.proofs.WordFacts.{total_length}
use Rattle.pg_interval_2.specs.declared.reading.distinct_tally.DistinctTally.{DistinctTally}
use Rattle.pg_interval_2.specs.inside.ItemReading.{NamedItem, read_item, verdict, Spelled, BadLetters, Unspelled}
use Rattle.pg_interval_2.specs.inside.DistinctItems.{IsNoItem}
use Rattle.pg_interval_2.specs.Postgres.{IsBadName, IsFreshName}
use Rattle.pg_interval_2.specs.inside.ItemsTally.{HasNoBadName, HasNoItems}
use Rattle.pg_interval_2.specs.inside.Reading.{Numeral, count_with}
use Rattle.pg_interval_2.proofs.BadNames.{behind_items, items_verdict, bad_verdict}
use Rattle.pg_interval_2.proofs.ItemsRead.{StandsNamed, Stands, item_stands}
use Rattle.pg_interval_2.proofs.NoItems.{no_item_verdict, clock_again_verdict}
use Rattle.pg_interval_2.proofs.Verdicts.{AreNames, Names}
use Rattle.pg_interval_2.proofs.ItemSteps.{ItemsTaken, closed_now}

-- ---- no item

rest_unspelled : (names : Names) (counts : List Count) (total : ℕ) (rest : List ℕ)
    → ((b : ℕ) (bs : List ℕ) → rest ≡ b ∷ bs → is_blank b ≡ false) → rest ≢ [] → IsNoItem (read_item rest) counts
    → verdict names counts total (words rest) ≡ Unspelled
rest_unspelled names counts total [] solid some none = absurd (some refl)
rest_unspelled names counts total (b ∷ bs) solid some (inl none) = no_item_verdict names counts total b bs (solid b bs refl) none
rest_unspelled names counts total (b ∷ bs) solid some (inr (fields, rest, read, again)) =
    clock_again_verdict names counts total (b ∷ bs) rest fields (subst (Stands (b ∷ bs)) read (item_stands (b ∷ bs))) again

pub text_unspelled : (names : Names) → AreNames names
    → (turned : Bool) (text rest : List ℕ) (state : DistinctTally) (taken : ItemsTaken names turned text rest state) → rest ≢ []
    → IsNoItem (read_item rest) taken.counts
    → verdict names [] 0 (words text) ≡ Unspelled
text_unspelled names letters_names turned text rest state taken some none =
    ap (λ (l : List ℕ). verdict names [] 0 (words l)) taken.split
    ∙ behind_items names letters_names taken.consumed rest taken.counts taken.items (closed_now names turned text rest state taken some)
    ∙ rest_unspelled names taken.counts (total_length (words taken.consumed)) rest taken.solid some none

-- a text whose words spell nothing is no items, and has no bad name
pub nothing_spelled : (names : Names) → AreNames names → (text : List ℕ) → verdict names [] 0 (words text) ≡ Unspelled
    → HasNoItems names text × HasNoBadName names text
nothing_spelled names letters_names text judged = (
  λ counts shape. let clash : Unspelled ≡ Spelled counts = sym judged ∙ items_verdict names letters_names (words text) counts shape in cc,
  λ start end bad. let clash : Unspelled ≡ BadLetters _ bad.letters = sym judged ∙ bad_verdict names letters_names text start end bad in cc,
)

-- ---- a bad name

pub name_within : (names : Names) (turned : Bool) (text rest letters after : List ℕ) (state : DistinctTally) (n : Numeral)
    → ItemsTaken names turned text rest state → read_item rest ≡ NamedItem n letters after
    → (0 < length letters) × (length letters + length after ≤ length text)
name_within names turned text rest letters after state n taken read =
    let h : StandsNamed rest n letters after = subst (Stands rest) read (item_stands rest) in
    let whole = ap (λ (l : List ℕ). length l) taken.split ∙ length-append taken.consumed rest in
    let first = ap (λ (l : List ℕ). length l) h.split ∙ length-append h.number (h.blanks ++ (letters ++ after)) in
    let second = length-append h.blanks (letters ++ after) in
    let third = length-append letters after in
    (h.some, omega (arith, whole, first, second, third))

pub bad_next :
    (names : Names) (turned : Bool) (text rest letters after : List ℕ) (state : DistinctTally) (n : Numeral)
    (taken : ItemsTaken names turned text rest state) → rest ≢ [] → read_item rest ≡ NamedItem n letters after
    → ¬ (IsFreshName names taken.counts letters)
    → IsBadName names text (length text - length after - length letters) (length text - length after)
bad_next names turned text rest letters after state n taken some read bad =
    let h : StandsNamed rest n letters after = subst (Stands rest) read (item_stands rest) in
    let whole = ap (λ (l : List ℕ). length l) taken.split ∙ length-append taken.consumed rest in
    let first = ap (λ (l : List ℕ). length l) h.split ∙ length-append h.number (h.blanks ++ (letters ++ after)) in
    let second = length-append h.blanks (letters ++ after) in
    let third = length-append letters after in
    record {
      lead = taken.consumed;
      number = h.number;
      blanks = h.blanks;
      letters = letters;
      after = after;
      counts = taken.counts;
      c = count_with n Year;
      items = taken.items;
      closed = closed_now names turned text rest state taken some;
      digits = h.digits;
      blank = h.blank;
      some = h.some;
      ascii = h.ascii;
      ends = h.ends;
      bad = bad;
      split = taken.split ∙ ap (λ (l : List ℕ). taken.consumed ++ l) h.split;
      starts = omega (arith, whole, first, second, third);
      stops = omega (arith, whole, first, second, third);
    }
