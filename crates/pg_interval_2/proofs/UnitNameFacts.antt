-- What holds of every name in a set of names holds of every word that names a unit; and the names are letters.
use Rattle.std.proofs.Common.{◌≡◌, Bool, true, false, cond, IsTrue, nat_lt, length, Option, Some, refl}
use Rattle.std.specs.Char.{is_ascii_alphabetic}
use Rattle.std.specs.List.{list_all}
use Rattle.std.proofs.lemmas.Bool.{and_parts, ltb-true}
use Rattle.scan_core.specs.declared.share.Unit.{Unit as TimeUnit}
use Rattle.scan_core.specs.declared.share.Unit.TheVariants.{Year, Month, Week, Day, Hour, Minute, Second}
use Rattle.pg_interval_2.specs.inside.ItemReading.{is_name}
use Rattle.pg_interval_2.specs.inside.NameSets.{names_in}
use Rattle.pg_interval_2.specs.declared.reading.unit_names.NameSet.{NameSet}
use Rattle.pg_interval_2.specs.declared.reading.unit_names.NameSet.TheVariants.{Postgres, Verbose}
use Rattle.pg_interval_2.proofs.UnitsApart.{contains_named, contains_passes}
use Rattle.pg_interval_2.proofs.Verdicts.{AreNames}

pub chosen_unit : (t : Bool) (unit found : TimeUnit) (other : Option TimeUnit) {P : Type 0} → cond t (Some found) other ≡ Some unit
    → (t ≡ true → P) → (other ≡ Some unit → P)
    → P
chosen_unit true unit found other h f g = f refl
chosen_unit false unit found other h f g = g h

set_letters : (set : NameSet) (unit : TimeUnit) → IsTrue (list_all is_name (names_in set unit))
set_letters Postgres Year = refl
set_letters Postgres Month = refl
set_letters Postgres Week = refl
set_letters Postgres Day = refl
set_letters Postgres Hour = refl
set_letters Postgres Minute = refl
set_letters Postgres Second = refl
set_letters Verbose Year = refl
set_letters Verbose Month = refl
set_letters Verbose Week = refl
set_letters Verbose Day = refl
set_letters Verbose Hour = refl
set_letters Verbose Minute = refl
set_letters Verbose Second = refl

-- the names of a set are letters
pub set_names : (set : NameSet) → AreNames (names_in set)
set_names set word unit h =
    let named = contains_named set word unit h in
    let split = and_parts (nat_lt 0 (length word)) (list_all is_ascii_alphabetic word)
    (contains_passes is_name (names_in set unit) word (set_letters set unit) h) in (named, ltb-true 0 _ split.0, split.1)
