-- The names of units in the texts of PostgreSQL (its manual, sections 8.5.4 and 8.5.5). A style has a set of names for each unit.
use Rattle.std.specs.Prelude.{ℕ, List, [], ◌∷◌, codes}
use Rattle.scan_core.specs.declared.share.Unit.{Unit as TimeUnit}
use Rattle.scan_core.specs.declared.share.Unit.TheVariants.{Year, Month, Week, Day, Hour, Minute, Second}

-- the names that the `postgres` style reads: a week has none
abbrev pub postgres_names : TimeUnit → List (List ℕ)
postgres_names Year = codes "years" ∷ codes "year" ∷ []
postgres_names Month = codes "months" ∷ codes "mons" ∷ codes "mon" ∷ []
postgres_names Week = []
postgres_names Day = codes "days" ∷ codes "day" ∷ []
postgres_names Hour = codes "hours" ∷ codes "hour" ∷ []
postgres_names Minute = codes "minutes" ∷ codes "minute" ∷ []
postgres_names Second = codes "seconds" ∷ codes "second" ∷ []

-- the names that the `postgres_verbose` style reads: those, and short ones of minutes and seconds
abbrev pub verbose_names : TimeUnit → List (List ℕ)
verbose_names Minute = codes "minutes" ∷ codes "minute" ∷ codes "mins" ∷ codes "min" ∷ []
verbose_names Second = codes "seconds" ∷ codes "second" ∷ codes "secs" ∷ codes "sec" ∷ []
verbose_names unit = postgres_names unit
