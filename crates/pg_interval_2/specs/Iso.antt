-- The ISO style, PostgreSQL's reading of ISO 8601 durations "with designators" (its manual, section 8.5.4), letters in any order:
-- `P` and counts, then perhaps `T` and further counts. `P` alone is no interval.
use Rattle.std.specs.Prelude.{◌≡◌, ◌≢◌, ◌⊎◌, ℕ, Bool, true, false, List, [], ◌∷◌, ◌++◌, codes, Option, Some, None, ◌==◌, ◌&&◌}
use Rattle.std.specs.Prelude.{if◌then◌else◌}
use Rattle.scan_core.specs.Count.{Count}
use Rattle.scan_core.specs.Join.{IsJoin}
use Rattle.scan_core.specs.Number.{IsNumber}
use Rattle.scan_core.specs.declared.share.Unit.{Unit as TimeUnit}
use Rattle.scan_core.specs.declared.share.Unit.TheVariants.{Year, Month, Week, Day, Hour, Minute, Second}

-- the unit that a letter means, before the `T` or behind it: 89 is `Y`, 77 `M`, 87 `W`, 68 `D`, 72 `H` and 83 `S`
abbrev pub unit_in : Bool → ℕ → Option TimeUnit
unit_in timed letter =
    if letter == 89 then Some Year
    else if letter == 77 then Some (if timed then Minute else Month)
    else if letter == 87 then Some Week
    else if letter == 68 then Some Day
    else if letter == 72 then Some Hour
    else if timed && letter == 83 then Some Second
    else None

-- a number, with no plus, and the letter of its unit
pub record IsPair (unit_of : ℕ → Option TimeUnit) (piece : List ℕ) (c : Count) : Type 0 where
  pub number : List ℕ
  pub letter : ℕ
  pub digits : IsNumber false c.negative c.whole c.fraction number
  pub unit : unit_of letter ≡ Some c.unit
  pub joined : piece ≡ number ++ letter ∷ []

-- The text is `P`, pairs, and then perhaps `T` and pairs, and spells their counts, in order, by what letters mean before the `T`
-- and behind it.
pub record IsIso (units : Bool → ℕ → Option TimeUnit) (text : List ℕ) (counts : List Count)
    : Type 0 where
  pub date : List ℕ
  pub time : List ℕ
  pub rest : List ℕ
  pub date_counts : List Count
  pub time_counts : List Count
  pub dates : IsJoin (IsPair (units false)) date date_counts
  pub times : IsJoin (IsPair (units true)) time time_counts
  pub timed : ((rest ≡ []) × (time ≡ []) × (date ≢ [])) ⊎ (rest ≡ codes "T" ++ time)
  pub joined : text ≡ codes "P" ++ (date ++ rest)
  pub counted : counts ≡ date_counts ++ time_counts
