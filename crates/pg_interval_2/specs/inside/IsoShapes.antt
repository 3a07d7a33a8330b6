-- The ISO style by cases, as its reader goes over it: pairs before the `T` alone, or pairs before it and behind it.
use Rattle.std.specs.Prelude.{◌≡◌, ◌≢◌, ◌⊎◌, ℕ, Bool, true, false, List, [], ◌++◌, codes, Option}
use Rattle.scan_core.specs.Count.{Count}
use Rattle.scan_core.specs.Join.{IsJoin}
use Rattle.scan_core.specs.declared.share.Unit.{Unit as TimeUnit}
use Rattle.pg_interval_2.specs.Iso.{unit_in, IsPair}
use Rattle.pg_interval_2.specs.IsoStrict.{AreInOrder}
use Rattle.pg_interval_2.specs.Messages.{not_iso, not_iso_strict}
use Rattle.pg_interval_2.specs.inside.UnitsInOrder.{units_in_order}

-- the units before the `T`, and behind it
abbrev pub date_unit : ℕ → Option TimeUnit
date_unit = unit_in false

abbrev pub time_unit : ℕ → Option TimeUnit
time_unit = unit_in true

-- pairs in a row
abbrev pub ArePairs : (ℕ → Option TimeUnit) → List ℕ → List Count → Type 0
ArePairs unit_of = IsJoin (IsPair unit_of)

-- `P` and pairs, at least one, by what letters mean before the `T` and behind it
abbrev pub IsDateAlone : (Bool → ℕ → Option TimeUnit) → List ℕ → List Count → Type 0
IsDateAlone units text counts =
    (date : List ℕ) × ArePairs (units false) date counts × (date ≢ []) × (text ≡ codes "P" ++ date)

-- `P` and pairs, then `T` and pairs
pub record IsDateAndTime (units : Bool → ℕ → Option TimeUnit) (text : List ℕ) (counts : List Count)
    : Type 0 where
  pub date : List ℕ
  pub time : List ℕ
  pub date_counts : List Count
  pub time_counts : List Count
  pub dates : ArePairs (units false) date date_counts
  pub times : ArePairs (units true) time time_counts
  pub spelled : text ≡ codes "P" ++ (date ++ (codes "T" ++ time))
  pub counted : counts ≡ date_counts ++ time_counts

-- the text is in ISO style and spells these counts, in order
abbrev pub IsIsoEither : List ℕ → List Count → Type 0
IsIsoEither text counts = IsDateAlone unit_in text counts ⊎ IsDateAndTime unit_in text counts

-- the text is in ISO style and spells these counts, and they stand in order: those before the `T`, and those behind it, at least one
abbrev pub IsStrictEither : List ℕ → List Count → Type 0
IsStrictEither text counts =
    (IsDateAlone unit_in text counts × AreInOrder (units_in_order false) counts)
    ⊎ ((timed : IsDateAndTime unit_in text counts)
    × AreInOrder (units_in_order false) timed.date_counts
    × AreInOrder (units_in_order true) timed.time_counts × (timed.time ≢ []))

-- the counts of a text in ISO style, or in the strict one
abbrev pub iso_shape : Bool → List ℕ → List Count → Type 0
iso_shape false = IsIsoEither
iso_shape true = IsStrictEither

-- the message of a text that isn't in it
abbrev pub not_in_iso : Bool → List ℕ
not_in_iso false = not_iso
not_in_iso true = not_iso_strict
