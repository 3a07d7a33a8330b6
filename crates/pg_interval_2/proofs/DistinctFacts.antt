-- Items counted one after the other.
use Rattle.std.proofs.Common.{◌≡◌, None, ◌≢◌, ℕ, Bool, true, false, cond, List, [], ◌∷◌, ◌++◌, refl, sym, ◌∙◌, ap, subst, append_assoc}
use Rattle.std.proofs.Common.{append-nil, length-append, arith, inl, inr, ◌+◌, ◌≤◌, length, codes, take, Some}
use Rattle.std.specs.Prelude.{filter}
use Rattle.std.proofs.Math.Bool.{or-false, or-true}
use Rattle.std.proofs.lemmas.Bool.{false_from_ne_true, eq-eqb}
use Rattle.std.proofs.lemmas.Bool.Decides.{eqb_tells}
use Rattle.scan_core.specs.Count.{Count, count_of}
use Rattle.scan_core.specs.declared.share.Unit.{Unit as TimeUnit}
use Rattle.scan_core.specs.declared.share.Unit.TheVariants.{Second}
use Rattle.pg_interval_2.specs.declared.reading.distinct_tally.DistinctTally.{DistinctTally}
use Rattle.pg_interval_2.specs.inside.Reading.{is_nonzero}
use Rattle.pg_interval_2.specs.inside.DistinctItems.{IsDistinctTally, CountsPerhaps, CountsAll}
use Rattle.pg_interval_2.specs.inside.ItemReading.{ClockFields, ClockItem, NamedItem, read_item}
use Rattle.scan_core.specs.Runs.{digits_of}
use Rattle.scan_core.specs.declared.runs.Run.{Run}
use Rattle.scan_core.proofs.Between.{between_none}
use Rattle.pg_interval_2.specs.inside.ItemViews.{HasFields}
use Rattle.pg_interval_2.specs.inside.Reading.{Numeral, count_with, numeral_in}
use Rattle.pg_interval_2.specs.declared.reading.clock.Clock.{Clock}
use Rattle.pg_interval_2.specs.declared.reading.number.Decimal.{Decimal}
use Rattle.pg_interval_2.specs.declared.reading.unit_names.NameSet.{NameSet}
use Rattle.pg_interval_2.specs.inside.NameSets.{names_in}
use Rattle.pg_interval_2.proofs.UnitsApart.{contains_named, all_fresh}
use Rattle.pg_interval_2.proofs.ItemsRead.{StandsNamed, StandsClock, Stands, item_stands}
use Rattle.pg_interval_2.specs.Postgres.{IsFreshName}
use Rattle.pg_interval_2.specs.inside.UnitPlaces.{place_of, counts_unit, has_distinct_units}
use Rattle.pg_interval_2.specs.Turned.{turned_sign}
use Rattle.pg_interval_2.specs.inside.TurnedCount.{turned_count}
use Rattle.pg_interval_2.specs.inside.NamedUnits.{unit_named}
use Rattle.pg_interval_2.proofs.Turning.{turned_fields}
use Rattle.pg_interval_2.specs.inside.Tallies.{Tallies}
use Rattle.pg_interval_2.specs.inside.UnitSets.{holds_unit}
use Rattle.pg_interval_2.proofs.UnitFacts.{same_unit}
use Rattle.pg_interval_2.proofs.Verdicts.{counts_unit-append, same_both, distinct_push, fresh_behind}

-- the units of one more count
units_push : (counts : List Count) (c : Count) (old new : DistinctTally)
    → ((unit : TimeUnit) → holds_unit old.units unit ≡ counts_unit unit counts) → holds_unit new.units c.unit ≡ true
    → ((other : TimeUnit) → place_of other ≢ place_of c.unit → holds_unit new.units other ≡ holds_unit old.units other) → (unit : TimeUnit)
    → holds_unit new.units unit ≡ counts_unit unit (counts ++ c ∷ [])
units_push counts c old new units same others unit =
    elim (eqb_tells (place_of unit) (place_of c.unit)) [
      | inl equal ↦
          let here = (same_unit unit c.unit equal.1) in
          rw here (same ∙ sym (counts_unit-append c.unit counts (c ∷ [])
          ∙ rw (eq-eqb (place_of c.unit) (place_of c.unit) refl) (or-true (counts_unit c.unit counts))))
      | inr apart ↦
          let other = same_both (place_of unit) (place_of c.unit) apart.0 in
          others unit apart.1 ∙ units unit ∙ sym (counts_unit-append unit counts (c ∷ []) ∙ rw other (or-false (counts_unit unit counts)))
    ]

-- one more count of a unit that was in none
pub counted_push : (counts : List Count) (c : Count) (old new : DistinctTally) → IsDistinctTally old counts
    → counts_unit c.unit counts ≡ false
    → Tallies new.tally (counts ++ c ∷ []) → holds_unit new.units c.unit ≡ true
    → ((other : TimeUnit) → place_of other ≢ place_of c.unit → holds_unit new.units other ≡ holds_unit old.units other)
    → IsDistinctTally new (counts ++ c ∷ [])
counted_push counts c old new h fresh tallied same others =
    record {
      tallied = tallied;
      units = units_push counts c old new h.units same others;
      distinct = distinct_push counts c h.distinct fresh;
    }

-- a unit that is counted again
pub again : (counts : List Count) (c : Count) (more : List Count) → counts_unit c.unit counts ≡ true
    → has_distinct_units (counts ++ (c ∷ more)) ≡ false
again counts c more h = false_from_ne_true (has_distinct_units (counts ++ (c ∷ more)))
    (λ distinct. let clash : true ≡ false = sym h ∙ fresh_behind counts c more distinct in cc)

-- a count that isn't 0, or none
abbrev pub nonzero : Count → List Count
nonzero c = filter is_nonzero (c ∷ [])

-- ---- clocks

filter_if : (t : Bool) (x : Count) (xs : List Count) → cond t (x ∷ xs) xs ≡ cond t (x ∷ []) [] ++ xs
filter_if true x xs = refl
filter_if false x xs = refl

-- a clock's counts are those of its fields
pub clock_fields : (h m s : Count) → filter is_nonzero (h ∷ m ∷ s ∷ []) ≡ nonzero h ++ (nonzero m ++ nonzero s)
clock_fields h m s = filter_if (is_nonzero h) h (filter is_nonzero (m ∷ s ∷ []))
    ∙ ap (λ (l : List Count). nonzero h ++ l) (filter_if (is_nonzero m) m (nonzero s))

-- a field that isn't 0, and whose unit was counted before
pub again_nonzero : (counts : List Count) (c : Count) (more : List Count) → is_nonzero c ≡ true → counts_unit c.unit counts ≡ true
    → has_distinct_units (counts ++ (nonzero c ++ more)) ≡ false
again_nonzero counts c more some h = rw some (again counts c more h)

-- a field's count
pub whole_count : (text : List ℕ) (number : Decimal) (negative sign : Bool) (run : Run) (digits : List ℕ) (unit : TimeUnit)
    → number.negative ≡ negative → number.whole ≡ run → number.fraction ≡ record { start = run.end; end = run.end; value = 0 }
    → negative ≡ sign → digits_of text run ≡ digits
    → count_with (numeral_in text number) unit ≡ count_of sign digits [] unit
whole_count text number negative sign run digits unit n w f s d =
    let none : digits_of text number.fraction ≡ [] = ap (digits_of text) f ∙ between_none text run.end in
    let whole : digits_of text number.whole ≡ digits = ap (digits_of text) w ∙ d in
    let same : number.negative ≡ sign = n ∙ s in
    rw (none, whole, same) refl

-- the count of the seconds, with the fraction's first six digits
pub fraction_count : (text : List ℕ) (clock : Clock) (fields : ClockFields) → HasFields text clock fields
    → count_with (numeral_in text (record { negative = clock.negative; whole = clock.seconds; fraction = clock.fraction })) Second
    ≡ count_of fields.negative fields.seconds (take 6 fields.fraction) Second
fraction_count text clock fields has =
    let negative = has.negative in
    let seconds = has.seconds in
    let fraction = has.fraction in
    rw (negative, seconds, fraction) refl

-- the last of a clock's fields
pub clock_last : (counts : List Count) (h m s : Count) (new : DistinctTally) (result : Bool)
    → CountsPerhaps ((counts ++ nonzero h) ++ nonzero m) s new result
    → CountsAll counts (filter is_nonzero (h ∷ m ∷ s ∷ [])) new result
clock_last counts h m s new true counted =
    subst (IsDistinctTally new) (append_assoc (counts ++ nonzero h) (nonzero m) (nonzero s)
    ∙ append_assoc counts (nonzero h) (nonzero m ++ nonzero s) ∙ ap (λ (l : List Count). counts ++ l) (sym (clock_fields h m s)))
    counted
clock_last counts h m s new false again' =
    ap (λ (l : List Count). has_distinct_units (counts ++ l)) (clock_fields h m s)
    ∙ ap has_distinct_units (sym (append_assoc counts (nonzero h) (nonzero m ++ nonzero s))
    ∙ sym (append_assoc (counts ++ nonzero h) (nonzero m) (nonzero s))
    ∙ ap (λ (l : List Count). ((counts ++ nonzero h) ++ nonzero m) ++ l) (sym (append-nil (nonzero s))))
    ∙ again_nonzero ((counts ++ nonzero h) ++ nonzero m) s [] again'.0 again'.1

-- the second, or the first, was counted before
pub clock_second : (counts : List Count) (h m s : Count) → is_nonzero m ≡ true → counts_unit m.unit (counts ++ nonzero h) ≡ true
    → has_distinct_units (counts ++ filter is_nonzero (h ∷ m ∷ s ∷ [])) ≡ false
clock_second counts h m s some before =
    ap (λ (l : List Count). has_distinct_units (counts ++ l)) (clock_fields h m s)
    ∙ ap has_distinct_units (sym (append_assoc counts (nonzero h) (nonzero m ++ nonzero s)))
    ∙ again_nonzero (counts ++ nonzero h) m (nonzero s) some before

pub clock_first : (counts : List Count) (h m s : Count) → is_nonzero h ≡ true → counts_unit h.unit counts ≡ true
    → has_distinct_units (counts ++ filter is_nonzero (h ∷ m ∷ s ∷ [])) ≡ false
clock_first counts h m s some before =
    ap (λ (l : List Count). has_distinct_units (counts ++ l)) (clock_fields h m s)
    ∙ again_nonzero counts h (nonzero m ++ nonzero s) some before

-- ---- turned before they are counted

-- a clock with its sign turned
pub turned_has : (turned : Bool) (text same : List ℕ) (clock : Clock) (fields : ClockFields) (negative : Bool) → same ≡ text
    → negative ≡ turned_sign turned clock.negative → HasFields text clock fields
    → HasFields same
    (record { negative = negative; hours = clock.hours; minutes = clock.minutes; seconds = clock.seconds; fraction = clock.fraction })
    (turned_fields turned fields)
turned_has turned text same clock fields negative e n has =
    rw e (record {
      negative = n ∙ ap (turned_sign turned) has.negative;
      hours = has.hours;
      minutes = has.minutes;
      seconds = has.seconds;
      fraction = has.fraction;
    })

-- a number with its sign turned
pub turned_number : (turned : Bool) (text same : List ℕ) (number : Decimal) (negative : Bool) (unit : TimeUnit) → same ≡ text
    → negative ≡ turned_sign turned number.negative
    → count_with (numeral_in same (record { negative = negative; whole = number.whole; fraction = number.fraction })) unit
    ≡ turned_count turned (count_with (numeral_in text number) unit)
turned_number turned text same number negative unit e n = rw (e, n) refl

-- letters that name a unit that was counted before
pub not_fresh : (set : NameSet) (counts : List Count) (letters : List ℕ) (unit : TimeUnit)
    → unit_named (names_in set) letters ≡ Some unit → counts_unit unit counts ≡ true
    → ¬ (IsFreshName (names_in set) counts letters)
not_fresh set counts letters unit named before (other, is, fresh) =
    let both : Some unit ≡ Some other = sym named ∙ contains_named set letters other is in
    let same : unit ≡ other = cc in
    let clash : true ≡ false = sym before ∙ ap (λ (u : TimeUnit). counts_unit u counts) same ∙ all_fresh other counts fresh in
    cc

-- ---- how long an item is

pub clock_long : (bytes : List ℕ) (fields : ClockFields) (rest : List ℕ) → read_item bytes ≡ ClockItem fields rest
    → length rest + 3 ≤ length bytes
clock_long bytes fields rest h =
    let stands : StandsClock bytes fields rest = subst (Stands bytes) h (item_stands bytes) in
    let clock = stands.clock in
    let whole = ap (λ (l : List ℕ). length l) stands.split ∙ length-append stands.word rest in
    let last = clock.seconds ++ clock.tail in
    let middle = clock.minutes ++ (codes ":" ++ last) in
    let word = ap (λ (l : List ℕ). length l) clock.joined ∙ length-append clock.sign (clock.hours ++ (codes ":" ++ middle)) in
    let first = length-append clock.hours (codes ":" ++ middle) in
    let second = length-append clock.minutes (codes ":" ++ last) in
    let third = length-append clock.seconds clock.tail in
    let some = clock.hour_field.0 in
    omega (arith, whole, word, first, second, third, some)

pub named_long : (bytes : List ℕ) (n : Numeral) (letters rest : List ℕ) → read_item bytes ≡ NamedItem n letters rest
    → length rest + 1 ≤ length bytes
named_long bytes n letters rest h =
    let stands : StandsNamed bytes n letters rest = subst (Stands bytes) h (item_stands bytes) in
    let whole = ap (λ (l : List ℕ). length l) stands.split ∙ length-append stands.number (stands.blanks ++ (letters ++ rest)) in
    let behind = length-append stands.blanks (letters ++ rest) in
    let name = length-append letters rest in
    let some = stands.some in
    omega (arith, whole, behind, name, some)

-- letters that name no unit
pub no_unit : (set : NameSet) (counts : List Count) (letters : List ℕ) → unit_named (names_in set) letters ≡ None
    → ¬ (IsFreshName (names_in set) counts letters)
no_unit set counts letters none (other, is, fresh) = let clash : None ≡ Some other = sym none ∙ contains_named set letters other is in cc
