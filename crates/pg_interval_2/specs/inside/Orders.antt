-- The order of units beside a reader of ISO texts, by places: cited by private contracts alone.
use Rattle.std.specs.Prelude.{◌≡◌, ℕ, ◌+◌, Bool, true, false, nat_le, List, [], ◌∷◌, if◌then◌else◌}
use Rattle.scan_core.specs.Count.{Count}
use Rattle.pg_interval_2.specs.declared.reading.order.Order.{Order}
use Rattle.pg_interval_2.specs.inside.UnitPlaces.{place_of}

-- the first place of a unit that may stand before the `T`, and behind it
abbrev pub first_place : Bool → ℕ
first_place false = 0
first_place true = 4

-- one behind the last such place
abbrev pub end_place : Bool → ℕ
end_place false = 4
end_place true = 7

-- the place behind a unit's, where that is no less than the least that may follow, and else one that nothing may follow
abbrev pub place_behind : ℕ → ℕ → ℕ
place_behind least place = if nat_le least place then place + 1 else 8

-- the least place that may follow these counts, where this one may stand first
abbrev pub behind_last : ℕ → List Count → ℕ
behind_last least [] = least
behind_last least (c ∷ cs) = behind_last (place_behind least (place_of c.unit)) cs

-- the order knows what place may follow these counts
abbrev pub Orders : Bool → Order → List Count → Type 0
Orders in_time order counts = order.least ≡ behind_last (first_place in_time) counts

-- the counts came in order, and the last of them is one of this side
abbrev pub is_kept : Bool → Order → Bool
is_kept in_time order = nat_le order.least (end_place in_time)
