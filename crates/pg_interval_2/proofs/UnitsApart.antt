-- Names and units as the definitions tell them, and as the readers' tests do.
use Rattle.std.proofs.Common.{◌≡◌, ◌≢◌, ℕ, zero, suc, ◌==◌, Bool, true, false, cond, not, IsTrue, All, AllPairs, Contains, List, [], ◌∷◌}
use Rattle.std.proofs.Common.{Option, Some, None, refl, sym, ◌∙◌, ap, subst, arith, inl, inr}
use Rattle.std.specs.List.{list_all}
use Rattle.std.specs.Prelude.{bytes_eq}
use Rattle.std.proofs.lemmas.Bool.{and_parts, and_from, or_parts, or_cases, not-true, ne_eqb, eq-eqb, eqb-true}
use Rattle.std.proofs.lemmas.List.Elements.{All-nil, All-cons, All-head, All-tail, All-weaker}
use Rattle.std.proofs.lemmas.List.Kept.{AllPairs-cons}
use Rattle.std.proofs.lemmas.Slice.Eq.{bytes_eq-Decides}
use Rattle.scan_core.specs.Count.{Count}
use Rattle.scan_core.specs.declared.share.Unit.{Unit as TimeUnit}
use Rattle.scan_core.specs.declared.share.Unit.TheVariants.{Year, Month, Week, Day, Hour, Minute, Second}
use Rattle.pg_interval_2.specs.declared.reading.unit_names.NameSet.{NameSet}
use Rattle.pg_interval_2.specs.declared.reading.unit_names.NameSet.TheVariants.{Postgres, Verbose}
use Rattle.pg_interval_2.specs.inside.NamedUnits.{is_one_of, unit_named}
use Rattle.pg_interval_2.specs.inside.NameSets.{names_in}
use Rattle.pg_interval_2.specs.inside.UnitPlaces.{place_of, counts_unit, has_distinct_units}
use Rattle.pg_interval_2.proofs.UnitFacts.{unit_at, at_place}

-- ---- names

-- what holds of all names holds of each
pub contains_passes : (test : List ℕ → Bool) (names : List (List ℕ)) (word : List ℕ) → IsTrue (list_all test names) → Contains names word
    → test word ≡ true
contains_passes test [] word all (k, lt, at) = absurd (omega (arith, lt))
contains_passes test (name ∷ names) word all (zero, lt, at) = ap test (sym at) ∙ (and_parts (test name) (list_all test names) all).0
contains_passes test (name ∷ names) word all (suc k, lt, at) =
    contains_passes test names word (and_parts (test name) (list_all test names) all).1 (k, omega (arith, lt), at)

one_contains : (names : List (List ℕ)) (word : List ℕ) → is_one_of names word ≡ true → Contains names word
one_contains [] word h = cc
one_contains (name ∷ names) word h =
    elim (or_cases (bytes_eq word name) (is_one_of names word) h) [
      | inl same ↦ (zero, omega arith, sym ((bytes_eq-Decides word name).0 same))
      | inr below ↦ (let rest = one_contains names word below in (suc rest.0, omega (arith, rest.1), rest.2))
    ]

-- the first unit of two, or another one
found_unit : (t : Bool) (unit found : TimeUnit) (other : Option TimeUnit) {P : Type 0} → cond t (Some found) other ≡ Some unit
    → (t ≡ true → found ≡ unit → P) → (other ≡ Some unit → P)
    → P
found_unit true unit found other h f g = let same : found ≡ unit = cc in f refl same
found_unit false unit found other h f g = g h

in_names : (names : TimeUnit → List (List ℕ)) (word : List ℕ) (unit found : TimeUnit) → is_one_of (names found) word ≡ true → found ≡ unit
    → Contains (names unit) word
in_names names word unit found is same = subst (λ (u : TimeUnit). Contains (names u) word) same (one_contains (names found) word is)

-- a word that is found to name a unit is one of its names
pub named_contains : (names : TimeUnit → List (List ℕ)) (word : List ℕ) (unit : TimeUnit) → unit_named names word ≡ Some unit
    → Contains (names unit) word
unfolding unit_named
named_contains names word unit h =
    found_unit (is_one_of (names Year) word) unit Year _ h (in_names names word unit Year) (λ h.
    found_unit (is_one_of (names Month) word) unit Month _ h (in_names names word unit Month) (λ h.
    found_unit (is_one_of (names Day) word) unit Day _ h (in_names names word unit Day) (λ h.
    found_unit (is_one_of (names Hour) word) unit Hour _ h (in_names names word unit Hour) (λ h.
    found_unit (is_one_of (names Minute) word) unit Minute _ h (in_names names word unit Minute) (λ h.
    found_unit (is_one_of (names Second) word) unit Second _ h (in_names names word unit Second) (λ h. cc))))))

is_unit : TimeUnit → Option TimeUnit → Bool
is_unit unit None = false
is_unit unit (Some other) = place_of other == place_of unit

unit_is : (unit : TimeUnit) (found : Option TimeUnit) → is_unit unit found ≡ true → found ≡ Some unit
unfolding is_unit
unit_is unit None h = cc
unit_is unit (Some other) h =
    ap (λ (u : TimeUnit). Some u) (sym (at_place other) ∙ (ap unit_at (eqb-true (place_of other) (place_of unit) h) ∙ at_place unit))

-- no two units share a name
own_names : (set : NameSet) (unit : TimeUnit) → IsTrue (list_all (λ word. is_unit unit (unit_named (names_in set) word))
    (names_in set unit))
unfolding unit_named is_unit
own_names Postgres Year = refl
own_names Postgres Month = refl
own_names Postgres Week = refl
own_names Postgres Day = refl
own_names Postgres Hour = refl
own_names Postgres Minute = refl
own_names Postgres Second = refl
own_names Verbose Year = refl
own_names Verbose Month = refl
own_names Verbose Week = refl
own_names Verbose Day = refl
own_names Verbose Hour = refl
own_names Verbose Minute = refl
own_names Verbose Second = refl

pub contains_named : (set : NameSet) (word : List ℕ) (unit : TimeUnit) → Contains (names_in set unit) word
    → unit_named (names_in set) word ≡ Some unit
contains_named set word unit h =
    unit_is unit _ (contains_passes (λ word. is_unit unit (unit_named (names_in set) word)) (names_in set unit) word (own_names set unit) h)

-- ---- counts of different units

other_place : (a b : TimeUnit) → a ≢ b → (place_of a == place_of b) ≡ false
other_place a b ne = ne_eqb (place_of a) (place_of b) (λ same. ne (sym (at_place a) ∙ (ap unit_at same ∙ at_place b)))

other_unit : (a b : TimeUnit) → (place_of a == place_of b) ≡ false → a ≢ b
other_unit a b h same = let equal : (place_of a == place_of b) ≡ true = eq-eqb (place_of a) (place_of b) (ap place_of same) in
    let clash : true ≡ false = sym equal ∙ h in cc

pub fresh_all : (unit : TimeUnit) (counts : List Count) → counts_unit unit counts ≡ false → All (λ c. c.unit ≢ unit) counts
fresh_all unit [] h = All-nil (λ (c : Count). c.unit ≢ unit)
fresh_all unit (c ∷ cs) h =
    let parts = or_parts (place_of c.unit == place_of unit) (counts_unit unit cs) h in
    All-cons (λ (d : Count). d.unit ≢ unit) c cs (other_unit c.unit unit parts.0) (fresh_all unit cs parts.1)

pub all_fresh : (unit : TimeUnit) (counts : List Count) → All (λ c. c.unit ≢ unit) counts → counts_unit unit counts ≡ false
all_fresh unit [] h = refl
all_fresh unit (c ∷ cs) h =
    let first = other_place c.unit unit (All-head (λ (d : Count). d.unit ≢ unit) c cs h) in
    let rest = all_fresh unit cs (All-tail (λ (d : Count). d.unit ≢ unit) c cs h) in
    rw (first, rest) refl

pub distinct_pairs : (counts : List Count) → has_distinct_units counts ≡ true → AllPairs (λ c d. c.unit ≢ d.unit) counts
distinct_pairs [] h = λ i j d lt within. absurd (omega (arith, within))
distinct_pairs (c ∷ cs) h =
    let split = and_parts (not (counts_unit c.unit cs)) (has_distinct_units cs) h in
    let apart = fresh_all c.unit cs (not-true _ split.0) in
    AllPairs-cons (λ (a b : Count). a.unit ≢ b.unit) c cs
    (All-weaker (λ (d : Count). d.unit ≢ c.unit) (λ (d : Count). c.unit ≢ d.unit) (λ d ne same. ne (sym same)) cs apart)
    (distinct_pairs cs split.1)

pub pairs_distinct : (counts : List Count) → AllPairs (λ c d. c.unit ≢ d.unit) counts → has_distinct_units counts ≡ true
pairs_distinct [] h = refl
pairs_distinct (c ∷ cs) h =
    let apart : All (λ (d : Count). d.unit ≢ c.unit) cs = λ k d lt same. h 0 (suc k) d (omega arith) (omega (arith, lt)) (sym same) in
    and_from _ _ (ap not (all_fresh c.unit cs apart)) (pairs_distinct cs
    (λ i j d lt within. h (suc i) (suc j) d (omega (arith, lt)) (omega (arith, within))))
