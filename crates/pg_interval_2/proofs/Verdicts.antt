-- What words spell: items are gone over, a bad name is found, and what begins no item spells nothing.
use Rattle.std.proofs.Common.{◌≡◌, if◌then◌else◌, ℕ, ◌+◌, ◌<◌, ◌||◌, ◌==◌, Bool, true, false, not, Contains, List, [], ◌∷◌, ◌++◌, length}
use Rattle.std.proofs.Common.{Some, refl, sym, ◌∙◌, ap, append_assoc, append-nil, arith, inl, inr, lt-ltb}
use Rattle.std.proofs.lemmas.Bool.Decides.{nat_tests}
use Rattle.std.proofs.lemmas.List.Folds.{list_any-append}
use Rattle.std.proofs.lemmas.Bool.{not-true, and_parts, or_parts}
use Rattle.scan_core.specs.Count.{Count}
use Rattle.scan_core.specs.Join.{IsJoin}
use Rattle.scan_core.specs.Number.{IsNumber}
use Rattle.scan_core.specs.declared.share.Unit.{Unit as TimeUnit}
use Rattle.scan_core.proofs.WordFacts.{total_length, total_length-append}
use Rattle.pg_interval_2.specs.Clock.{IsClock, clock_counts}
use Rattle.pg_interval_2.specs.Postgres.{IsItem, all_counts}
use Rattle.pg_interval_2.specs.inside.UnitPlaces.{place_of, counts_unit, has_distinct_units}
use Rattle.pg_interval_2.specs.inside.Reading.{Numeral, read_number}
use Rattle.pg_interval_2.specs.inside.ItemReading.{read_item, ClockWord, GluedWord, NumberWord, word_kind, Verdict, Unspelled, judge_unit}
use Rattle.pg_interval_2.specs.inside.ItemReading.{judge_word, is_name, verdict}
use Rattle.pg_interval_2.specs.inside.NamedUnits.{unit_named}
use Rattle.pg_interval_2.proofs.Numbers.{finds_number}
use Rattle.pg_interval_2.proofs.ItemFacts.{AreLetters}
use Rattle.pg_interval_2.proofs.ItemsInFront.{number_alone, named_read, clock_read}

-- ---- kinds of words

abbrev pub Names : Type 0
Names = TimeUnit → List (List ℕ)

-- every name of a unit is letters, and names no other unit
abbrev pub AreNames : Names → Type 0
AreNames names = (word : List ℕ) (unit : TimeUnit) → Contains (names unit) word → (unit_named names word ≡ Some unit) × (0 < length word)
    × AreLetters word

pub clock_kind : (word : List ℕ) (counts : List Count) (h : IsClock word counts)
    → word_kind word
    ≡ ClockWord (record { negative = h.negative; hours = h.hours; minutes = h.minutes; seconds = h.seconds; fraction = h.fraction })
unfolding word_kind
clock_kind word counts h = let read = ap read_item (sym (append-nil word)) ∙ clock_read word [] counts h tt in rw read refl

pub glued_kind : (negative : Bool) (whole fraction number letters : List ℕ) → IsNumber true negative whole fraction number
    → 0 < length letters → AreLetters letters
    → word_kind (number ++ letters) ≡ GluedWord (record { negative = negative; whole = whole; fraction = fraction }) letters
unfolding word_kind
glued_kind negative whole fraction number letters h some l =
    let read = ap read_item (ap (λ (x : List ℕ). number ++ x) (sym (append-nil letters)))
    ∙ named_read negative whole fraction number [] letters [] h refl some l tt in rw read refl

pub number_kind : (negative : Bool) (whole fraction number : List ℕ) → IsNumber true negative whole fraction number
    → word_kind number ≡ NumberWord (record { negative = negative; whole = whole; fraction = fraction })
unfolding word_kind
number_kind negative whole fraction number h =
    let none = number_alone negative whole fraction number h in
    let found = ap (read_number true) (sym (append-nil number)) ∙ finds_number true negative whole fraction number [] h tt tt in
    rw (none, found) refl

-- ---- units

pub counts_unit-append : (unit : TimeUnit) (xs ys : List Count) → counts_unit unit (xs ++ ys) ≡ (counts_unit unit xs || counts_unit unit ys)
counts_unit-append unit xs ys = list_any-append (λ c. place_of c.unit == place_of unit) xs ys

pub same_both : (a b : ℕ) → (a == b) ≡ false → (b == a) ≡ false
same_both a b h = grind (arith, nat_tests)

-- the first of counts of which no unit is in two
first_alone : (x : Count) (xs : List Count) → has_distinct_units (x ∷ xs) ≡ true
    → (counts_unit x.unit xs ≡ false) × (has_distinct_units xs ≡ true)
first_alone x xs h = let split = and_parts (not (counts_unit x.unit xs)) (has_distinct_units xs) h in (not-true _ split.0, split.1)

-- counts of which no unit is in two, with more of them behind
pub distinct_front : (xs ys : List Count) → has_distinct_units (xs ++ ys) ≡ true → has_distinct_units xs ≡ true
distinct_front [] ys h = refl
distinct_front (x ∷ xs) ys h =
    let split = first_alone x (xs ++ ys) h in
    let alone = (or_parts (counts_unit x.unit xs) (counts_unit x.unit ys) (sym (counts_unit-append x.unit xs ys) ∙ split.0)).0 in
    let below = distinct_front xs ys split.1 in
    rw (alone, below) refl

-- the unit of a count behind is in none before
pub fresh_behind : (xs : List Count) (c : Count) (ys : List Count) → has_distinct_units (xs ++ (c ∷ ys)) ≡ true
    → counts_unit c.unit xs ≡ false
fresh_behind [] c ys h = refl
fresh_behind (x ∷ xs) c ys h =
    let split = first_alone x (xs ++ (c ∷ ys)) h in
    let behind = (or_parts (counts_unit x.unit xs) (counts_unit x.unit (c ∷ ys)) (sym (counts_unit-append x.unit xs (c ∷ ys)) ∙ split.0)).1
    in
    let other = same_both (place_of c.unit) (place_of x.unit) (or_parts (place_of c.unit == place_of x.unit)
    (counts_unit x.unit ys) behind).0 in
    let below = fresh_behind xs c ys split.1 in
    rw (other, below) refl

one_more_apart : (x c : Count) (xs : List Count) → counts_unit x.unit xs ≡ false → (place_of x.unit == place_of c.unit) ≡ false
    → counts_unit x.unit (xs ++ c ∷ []) ≡ false
one_more_apart x c xs alone other =
    let back = same_both (place_of x.unit) (place_of c.unit) other in counts_unit-append x.unit xs (c ∷ []) ∙ rw (alone, back) refl

-- one more count of a unit that was in none
pub distinct_push : (xs : List Count) (c : Count) → has_distinct_units xs ≡ true → counts_unit c.unit xs ≡ false
    → has_distinct_units (xs ++ c ∷ []) ≡ true
distinct_push [] c h fresh = refl
distinct_push (x ∷ xs) c h fresh =
    let split = first_alone x xs h in
    let apart = or_parts (place_of x.unit == place_of c.unit) (counts_unit c.unit xs) fresh in
    let alone = one_more_apart x c xs split.0 apart.0 in
    let below = distinct_push xs c split.1 apart.1 in
    rw (alone, below) refl

-- ---- going over items

-- what follows a number
abbrev pub judge_pair : Names → List Count → ℕ → ℕ → List (List ℕ) → Numeral → Verdict
judge_pair names counts ink length_of [] n = Unspelled
judge_pair names counts ink length_of (name ∷ more) n =
    if is_name name then judge_unit counts (ink + length_of) name n (unit_named names name)
    (λ cs. verdict names (counts ++ cs) (ink + length_of + length name) more) else Unspelled

-- a word and what follows it
pub verdict-word : (names : Names) (counts : List Count) (ink : ℕ) (word : List ℕ) (more : List (List ℕ))
    → verdict names counts ink (word ∷ more)
    ≡ judge_word names counts ink (length word) (word_kind word) (λ cs. verdict names (counts ++ cs) (ink + length word) more)
    (judge_pair names counts ink (length word) more)
verdict-word names counts ink word [] = refl
verdict-word names counts ink word (name ∷ more) = refl

-- as far as a sum is written another way
elsewhere : (names : Names) (counts : List Count) (m n : ℕ) (more : List (List ℕ)) → m ≡ n
    → verdict names counts m more ≡ verdict names counts n more
elsewhere names counts m n more h = ap (λ (k : ℕ). verdict names counts k more) h

pub is_name_of : (letters : List ℕ) → 0 < length letters → AreLetters letters → is_name letters ≡ true
is_name_of letters some l = let first = lt-ltb 0 (length letters) some in rw (first, l) refl

clock_item : (names : Names) (word : List ℕ) (more : List (List ℕ)) (cs counts : List Count) (ink : ℕ) → IsClock word cs
    → has_distinct_units (counts ++ cs) ≡ true
    → verdict names counts ink (word ∷ more) ≡ verdict names (counts ++ cs) (ink + length word) more
clock_item names word more cs counts ink h distinct =
    let kind = clock_kind word cs h in
    let counted = h.counted in
    let distinct' : has_distinct_units (counts ++ clock_counts h.negative h.hours h.minutes h.seconds h.fraction)
    ≡ true = ap (λ (l : List Count). has_distinct_units (counts ++ l)) (sym counted) ∙ distinct in
    verdict-word names counts ink word more ∙ rw (kind, distinct', counted) refl

glued_item : (names : Names) (c : Count) (number name : List ℕ) (more : List (List ℕ)) (counts : List Count) (ink : ℕ)
    → IsNumber true c.negative c.whole c.fraction number → unit_named names name ≡ Some c.unit → 0 < length name → AreLetters name
    → counts_unit c.unit counts ≡ false
    → verdict names counts ink ((number ++ name) ∷ more) ≡ verdict names (counts ++ c ∷ []) (ink + length (number ++ name)) more
glued_item names c number name more counts ink h unit some l fresh =
    let kind = glued_kind c.negative c.whole c.fraction number name h some l in
    verdict-word names counts ink (number ++ name) more ∙ rw (kind, unit, fresh) refl

named_pair : (names : Names) (c : Count) (number name : List ℕ) (more : List (List ℕ)) (counts : List Count) (ink : ℕ)
    → IsNumber true c.negative c.whole c.fraction number → unit_named names name ≡ Some c.unit → 0 < length name → AreLetters name
    → counts_unit c.unit counts ≡ false
    → verdict names counts ink (number ∷ name ∷ more) ≡ verdict names (counts ++ c ∷ []) (ink + length number + length name) more
named_pair names c number name more counts ink h unit some l fresh =
    let kind = number_kind c.negative c.whole c.fraction number h in
    let named = is_name_of name some l in
    verdict-word names counts ink number (name ∷ more) ∙ rw (kind, named, unit, fresh) refl

-- an item in front of words is gone over
advance_item : (names : Names) → AreNames names → (item more : List (List ℕ)) (cs counts rest : List Count) (ink : ℕ) → IsItem names item cs
    → has_distinct_units (counts ++ (cs ++ rest)) ≡ true
    → verdict names counts ink (item ++ more) ≡ verdict names (counts ++ cs) (ink + total_length item) more
advance_item names letters item more cs counts rest ink (inl (c, named, one)) distinct =
    let both_distinct : has_distinct_units (counts ++ (c ∷ rest))
    ≡ true = ap (λ (l : List Count). has_distinct_units (counts ++ (l ++ rest))) (sym one) ∙ distinct in
    let fresh = fresh_behind counts c rest both_distinct in
    let name = letters named.name c.unit named.unit in
    elim named.spelled [
      | inl two ↦ rw (two, one) (named_pair names c named.number named.name more counts ink named.digits name.0 name.1 name.2 fresh
          ∙ elsewhere names (counts ++ c ∷ []) _ _ more (omega arith))
      | inr glued ↦ rw (glued, one) (glued_item names c named.number named.name more counts ink named.digits name.0 name.1 name.2 fresh
          ∙ elsewhere names (counts ++ c ∷ []) _ _ more (omega arith))
    ]
advance_item names letters item more cs counts rest ink (inr (word, clock, one)) distinct =
    let front = distinct_front (counts ++ cs) rest (ap has_distinct_units (append_assoc counts cs rest) ∙ distinct) in
    rw one (clock_item names word more cs counts ink clock front ∙ elsewhere names (counts ++ cs) _ _ more (omega arith))

pub advance : (names : Names) → AreNames names → (front more : List (List ℕ)) (items : List (List Count)) (counts : List Count) (ink : ℕ)
    → IsJoin (IsItem names) front items → has_distinct_units (counts ++ all_counts items) ≡ true
    → verdict names counts ink (front ++ more) ≡ verdict names (counts ++ all_counts items) (ink + total_length front) more
advance names letters front more [] counts ink h distinct =
    rw h (ap (λ (l : List Count). verdict names l ink more) (sym (append-nil counts))
    ∙ elsewhere names (counts ++ []) ink (ink + 0) more (omega arith))
advance names letters front more (cs ∷ items) counts ink h distinct =
    let split : front ++ more ≡ h.0 ++ (h.1 ++ more) = ap (λ (l : List (List ℕ)). l ++ more) h.4 ∙ append_assoc h.0 h.1 more in
    let item = advance_item names letters h.0 (h.1 ++ more) cs counts (all_counts items) ink h.2 distinct in
    let regrouped = append_assoc counts cs (all_counts items) in
    let below = advance names letters h.1 more items (counts ++ cs) (ink + total_length h.0) h.3
    (ap has_distinct_units regrouped ∙ distinct) in
    let lengths = ap total_length h.4 ∙ total_length-append h.0 h.1 in
    ap (λ (l : List (List ℕ)). verdict names counts ink l) split ∙ item ∙ below
    ∙ ap (λ (l : List Count). verdict names l (ink + total_length h.0 + total_length h.1) more) regrouped
    ∙ elsewhere names (counts ++ (cs ++ all_counts items)) _ _ more (omega (arith, lengths))
