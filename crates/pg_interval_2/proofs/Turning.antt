-- Turned counts: they are of the same units, and a clock's are its turned fields'.
use Rattle.std.proofs.Common.{◌≡◌, ◌&&◌, ◌||◌, ◌==◌, not, Bool, true, false, cond, List, [], ◌∷◌, ◌++◌, take, refl, sym, ap, ap₂}
use Rattle.std.specs.Prelude.{filter}
use Rattle.scan_core.specs.Count.{Count, count_of}
use Rattle.scan_core.specs.declared.share.Unit.{Unit as TimeUnit}
use Rattle.scan_core.specs.declared.share.Unit.TheVariants.{Hour, Minute, Second}
use Rattle.pg_interval_2.specs.inside.Reading.{is_nonzero}
use Rattle.pg_interval_2.specs.inside.ItemReading.{ClockFields, clock_of}
use Rattle.pg_interval_2.specs.inside.UnitPlaces.{counts_unit, has_distinct_units, place_of}
use Rattle.pg_interval_2.specs.Turned.{turned_counts, turned_sign}
use Rattle.pg_interval_2.specs.inside.TurnedCount.{turned_count}

pub turned-append : (turned : Bool) (xs ys : List Count)
    → turned_counts turned (xs ++ ys) ≡ turned_counts turned xs ++ turned_counts turned ys
turned-append turned [] ys = refl
turned-append turned (x ∷ xs) ys = ap (λ (l : List Count). turned_count turned x ∷ l) (turned-append turned xs ys)

-- counts that aren't turned
pub turned_none : (counts : List Count) → turned_counts false counts ≡ counts
turned_none [] = refl
turned_none (c ∷ cs) = ap (λ (l : List Count). c ∷ l) (turned_none cs)

pub counts_unit-turned : (turned : Bool) (unit : TimeUnit) (counts : List Count)
    → counts_unit unit (turned_counts turned counts) ≡ counts_unit unit counts
counts_unit-turned turned unit [] = refl
counts_unit-turned turned unit (c ∷ cs) = ap (λ (b : Bool). (place_of c.unit == place_of unit) || b) (counts_unit-turned turned unit cs)

pub distinct-turned : (turned : Bool) (counts : List Count) → has_distinct_units (turned_counts turned counts) ≡ has_distinct_units counts
distinct-turned turned [] = refl
distinct-turned turned (c ∷ cs) = ap₂ (λ (a b : Bool). not a && b) (counts_unit-turned turned c.unit cs) (distinct-turned turned cs)

nonzero_if : (t turned : Bool) (c : Count) (cs ds : List Count) → turned_counts turned cs ≡ ds
    → cond t (turned_count turned c ∷ ds) ds ≡ turned_counts turned (cond t (c ∷ cs) cs)
nonzero_if true turned c cs ds h = ap (λ (l : List Count). turned_count turned c ∷ l) (sym h)
nonzero_if false turned c cs ds h = sym h

nonzero-turned : (turned : Bool) (counts : List Count)
    → filter is_nonzero (turned_counts turned counts) ≡ turned_counts turned (filter is_nonzero counts)
nonzero-turned turned [] = refl
nonzero-turned turned (c ∷ cs) = nonzero_if (is_nonzero c) turned c (filter is_nonzero cs) _ (sym (nonzero-turned turned cs))

-- a clock with its sign turned
abbrev pub turned_fields : Bool → ClockFields → ClockFields
turned_fields turned f = record {
  negative = turned_sign turned f.negative;
  hours = f.hours;
  minutes = f.minutes;
  seconds = f.seconds;
  fraction = f.fraction;
}

pub clock-turned : (turned : Bool) (fields : ClockFields) → clock_of (turned_fields turned fields) ≡ turned_counts turned (clock_of fields)
clock-turned turned f = nonzero-turned turned (count_of f.negative f.hours [] Hour ∷ count_of f.negative f.minutes [] Minute ∷ count_of
    f.negative f.seconds (take 6 f.fraction) Second ∷ [])
