-- The sets of names that the readers know, and names told by their packed letters: cited by private contracts alone.
use Rattle.std.specs.Prelude.{ℕ, Bool, ◌==◌, List, Option, Some, None, if◌then◌else◌}
use Rattle.std.specs.List.{list_any}
use Rattle.scan_core.specs.Runs.{packed}
use Rattle.scan_core.specs.declared.share.Unit.{Unit as TimeUnit}
use Rattle.scan_core.specs.declared.share.Unit.TheVariants.{Year, Month, Day, Hour, Minute, Second}
use Rattle.pg_interval_2.specs.declared.reading.unit_names.NameSet.{NameSet}
use Rattle.pg_interval_2.specs.declared.reading.unit_names.NameSet.TheVariants.{Postgres, Verbose}
use Rattle.pg_interval_2.specs.UnitNames.{postgres_names, verbose_names}

-- the names of a set
abbrev pub names_in : NameSet → TimeUnit → List (List ℕ)
names_in Postgres = postgres_names
names_in Verbose = verbose_names

-- packed letters are those of one of the names
abbrev pub is_packed : ℕ → List (List ℕ) → Bool
is_packed letters names = list_any (λ name. letters == packed name) names

-- the unit that packed letters name
unfoldable pub unit_packed : (TimeUnit → List (List ℕ)) → ℕ → Option TimeUnit
unit_packed names letters =
    if is_packed letters (names Year) then Some Year
    else if is_packed letters (names Month) then Some Month
    else if is_packed letters (names Day) then Some Day
    else if is_packed letters (names Hour) then Some Hour
    else if is_packed letters (names Minute) then Some Minute
    else if is_packed letters (names Second) then Some Second else None
