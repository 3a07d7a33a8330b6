-- The shape of the `postgres` style by a name: cited by private contracts alone.
use Rattle.std.specs.Prelude.{ℕ, List}
use Rattle.scan_core.specs.Blanks.{words}
use Rattle.scan_core.specs.Count.{Count}
use Rattle.pg_interval_2.specs.Postgres.{AreItems}
use Rattle.pg_interval_2.specs.UnitNames.{postgres_names}

-- the text is in `postgres` style and spells these counts
abbrev pub IsPostgres : List ℕ → List Count → Type 0
IsPostgres text counts = AreItems postgres_names (words text) counts
