-- The order of units by places is that by lists of units.
use Rattle.std.proofs.Common.{◌≡◌, ℕ, suc, ◌+◌, ◌<◌, ◌≤◌, Bool, true, false, nat_le, List, [], ◌∷◌, ◌++◌, refl, sym, subst, ◌∙◌, ap, arith}
use Rattle.std.proofs.Common.{inl, inr, le-leb, leb-true}
use Rattle.std.proofs.lemmas.Bool.{cases_lt}
use Rattle.std.proofs.lemmas.Bool.Decides.{nat_tests}
use Rattle.scan_core.specs.Count.{Count}
use Rattle.scan_core.specs.declared.share.Unit.{Unit as TimeUnit}
use Rattle.pg_interval_2.specs.IsoStrict.{AreInOrder}
use Rattle.pg_interval_2.specs.inside.UnitsInOrder.{units_in_order}
use Rattle.pg_interval_2.specs.inside.UnitPlaces.{place_of}
use Rattle.pg_interval_2.specs.declared.reading.order.Order.{Order}
use Rattle.pg_interval_2.specs.inside.Orders.{Orders, behind_last, end_place, first_place, is_kept, place_behind}
use Rattle.pg_interval_2.proofs.UnitFacts.{place_small, same_unit}

-- ---- what may follow

behind_push : (least : ℕ) (counts : List Count) (c : Count)
    → behind_last least (counts ++ c ∷ []) ≡ place_behind (behind_last least counts) (place_of c.unit)
behind_push least [] c = refl
behind_push least (x ∷ xs) c = behind_push (place_behind least (place_of x.unit)) xs c

behind_next : (least place : ℕ) → least ≤ place → place_behind least place ≡ place + 1
behind_next least place h = let next : nat_le least place ≡ true = le-leb least place h in rw next refl

-- a first count that may follow
goes_on : (least : ℕ) (c : Count) (cs : List Count) → least ≤ place_of c.unit
    → behind_last least (c ∷ cs) ≡ behind_last (place_of c.unit + 1) cs
goes_on least c cs h = ap (λ (place : ℕ). behind_last place cs) (behind_next least (place_of c.unit) h)

behind_none : (least place : ℕ) → place < least → place_behind least place ≡ 8
behind_none least place h = let none : nat_le least place ≡ false = grind (arith, nat_tests) in rw none refl

-- nothing may follow what came out of order
stays : (counts : List Count) → behind_last 8 counts ≡ 8
stays [] = refl
stays (c ∷ cs) = ap (λ (least : ℕ). behind_last least cs) (behind_none 8 (place_of c.unit) (place_small c.unit)) ∙ stays cs

broken : (least : ℕ) (c : Count) (cs : List Count) → place_of c.unit < least → behind_last least (c ∷ cs) ≡ 8
broken least c cs h = ap (λ (place : ℕ). behind_last place cs) (behind_none least (place_of c.unit) h) ∙ stays cs

-- ---- places and lists of units

-- the units of a list have the places from one on up to another
abbrev StandFrom : ℕ → ℕ → List TimeUnit → Type 0
StandFrom from to [] = from ≡ to
StandFrom from to (unit ∷ units) = (place_of unit ≡ from) × StandFrom (suc from) to units

stand-le : (from to : ℕ) (units : List TimeUnit) → StandFrom from to units → from ≤ to
stand-le from to [] stand = omega (arith, stand)
stand-le from to (unit ∷ units) stand = omega (arith, stand-le (suc from) to units stand.1)

-- a first unit that isn't behind the least place
out_of_order : (least to : ℕ) (c : Count) (cs : List Count) {P : Type 0} → to < 8 → place_of c.unit < least
    → behind_last least (c ∷ cs) ≤ to
    → P
out_of_order least to c cs below less high = absurd (omega (arith, broken least c cs less, high, below))

least_grows : (least : ℕ) (counts : List Count) → least ≤ 8 → least ≤ behind_last least counts
least_grows least [] h = omega arith
least_grows least (c ∷ cs) h =
    elim (cases_lt (place_of c.unit) least) [
      | inl less ↦ omega (arith, broken least c cs less, h)
      | inr next ↦
          let below = least_grows (place_of c.unit + 1) cs (omega (arith, place_small c.unit)) in
          omega (arith, below, goes_on least c cs (omega (arith, next)), next)
    ]

in_order_ends : (units : List TimeUnit) (from to : ℕ) (counts : List Count) → to < 8 → StandFrom from to units → AreInOrder units counts
    → behind_last from counts ≤ to
in_order_ends units from to [] below stand h = stand-le from to units stand
in_order_ends [] from to (c ∷ cs) below stand h = absurd h
in_order_ends (unit ∷ units) from to (c ∷ cs) below stand (inl first) =
    let here : place_of c.unit ≡ from = ap place_of first.0 ∙ stand.0 in
    let next : place_behind from (place_of c.unit) ≡ suc from = behind_next from (place_of c.unit) (omega (arith, here))
    ∙ omega (arith, here) in
    subst (λ (place : ℕ). behind_last place cs ≤ to) (sym next) (in_order_ends units (suc from) to cs below stand.1 first.1)
in_order_ends (unit ∷ units) from to (c ∷ cs) below stand (inr later) =
    let rest = in_order_ends units (suc from) to (c ∷ cs) below stand.1 later in
    elim (cases_lt (place_of c.unit) (suc from)) [
      | inl less ↦ out_of_order (suc from) to c cs below less rest
      | inr next ↦
          let same : place_behind (suc from) (place_of c.unit) ≡ place_behind from (place_of c.unit) = behind_next (suc from)
          (place_of c.unit) (omega (arith, next)) ∙ sym (behind_next from (place_of c.unit) (omega (arith, next))) in
          subst (λ (place : ℕ). behind_last place cs ≤ to) same rest
    ]

ends_in_order : (units : List TimeUnit) (from to : ℕ) (counts : List Count) → to < 8 → StandFrom from to units
    → behind_last from counts ≤ to
    → AreInOrder units counts
ends_in_order units from to [] below stand h = tt
ends_in_order [] from to (c ∷ cs) below stand h =
    elim (cases_lt (place_of c.unit) from) [
      | inl less ↦ out_of_order from to c cs below less h
      | inr next ↦ absurd (omega (
        arith,
        stand,
        next,
        goes_on from c cs (omega (arith, next)),
        h,
        least_grows (place_of c.unit + 1) cs (omega (arith, place_small c.unit)),
      ))
    ]
ends_in_order (unit ∷ units) from to (c ∷ cs) below stand h =
    elim (cases_lt (place_of c.unit) from) [
      | inl less ↦ out_of_order from to c cs below less h
      | inr next ↦
          elim (cases_lt from (place_of c.unit)) [
            | inl later ↦
                let same : place_behind from (place_of c.unit) ≡ place_behind (suc from) (place_of c.unit) = behind_next from
                (place_of c.unit) (omega (arith, next)) ∙ sym (behind_next (suc from) (place_of c.unit) (omega (arith, later))) in
                inr (ends_in_order units (suc from) to (c ∷ cs) below stand.1 (subst (λ (place : ℕ). behind_last place cs ≤ to) same h))
            | inr here ↦
                let place : place_of c.unit ≡ from = omega (arith, next, here) in
                let one : place_behind from (place_of c.unit) ≡ suc from = behind_next from (place_of c.unit) (omega (arith, place))
                ∙ omega (arith, place) in
                inl (
                  same_unit c.unit unit (place ∙ sym stand.0),
                  ends_in_order units (suc from) to cs below stand.1 (subst (λ (least : ℕ). behind_last least cs ≤ to) one h),
                )
          ]
    ]

-- ---- the order beside a reader

stands : (in_time : Bool) → StandFrom (first_place in_time) (end_place in_time) (units_in_order in_time)
stands false = (refl, (refl, (refl, (refl, refl))))
stands true = (refl, (refl, (refl, refl)))

small : (in_time : Bool) → end_place in_time < 8
small false = omega arith
small true = omega arith

-- the order is kept where the counts are in order, and not where they aren't
pub in_order : (in_time : Bool) (order : Order) (counts : List Count) → Orders in_time order counts → is_kept in_time order ≡ true
    → AreInOrder (units_in_order in_time) counts
in_order in_time order counts orders kept =
    ends_in_order (units_in_order in_time) _ _ counts (small in_time) (stands in_time)
    (subst (λ (least : ℕ). least ≤ end_place in_time) orders (leb-true order.least (end_place in_time) kept))

pub kept : (in_time : Bool) (order : Order) (counts : List Count) → Orders in_time order counts → AreInOrder (units_in_order in_time) counts
    → is_kept in_time order ≡ true
kept in_time order counts orders is =
    le-leb order.least (end_place in_time) (subst (λ (least : ℕ). least ≤ end_place in_time) (sym orders)
    (in_order_ends (units_in_order in_time) _ _ counts (small in_time) (stands in_time) is))

-- one more count
pub orders_push : (in_time : Bool) (old new : Order) (counts : List Count) (c : Count) → Orders in_time old counts
    → new.least ≡ place_behind old.least (place_of c.unit)
    → Orders in_time new (counts ++ c ∷ [])
orders_push in_time old new counts c orders now = now ∙ ap (λ (least : ℕ). place_behind least (place_of c.unit)) orders
    ∙ sym (behind_push (first_place in_time) counts c)
