-- The fixed messages of the refusals.
use Rattle.std.specs.Prelude.{ℕ, List, codes}

-- of a text that isn't in the ISO style
abbrev pub not_iso : List ℕ
not_iso = codes "not an iso interval"

-- of a text that isn't in the `postgres` style
abbrev pub not_postgres : List ℕ
not_postgres = codes "not a postgres interval"

-- of a text that isn't in the `postgres_verbose` style
abbrev pub not_verbose : List ℕ
not_verbose = codes "not a verbose interval"

-- of a text that isn't in the `sql_standard` style
abbrev pub not_sql : List ℕ
not_sql = codes "not a sql interval"

-- of a text that isn't in the strict ISO style
abbrev pub not_iso_strict : List ℕ
not_iso_strict = codes "not a strict iso interval"

-- of months that leave their type of 32 bits
abbrev pub year_month_overflow : List ℕ
year_month_overflow = codes "Invalid year/month interval overflow detected."

-- of days that leave their type of 32 bits
abbrev pub day_overflow : List ℕ
day_overflow = codes "Invalid day interval overflow detected."

-- of microseconds that leave their type of 64 bits
abbrev pub time_overflow : List ℕ
time_overflow = codes "Invalid time interval overflow detected."
