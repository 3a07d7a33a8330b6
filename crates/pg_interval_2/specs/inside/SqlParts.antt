-- Parts of `sql_standard` words that private contracts alone name.
use Rattle.std.specs.Prelude.{◌≡◌, ◌⊎◌, ℕ, Bool, List, []}
use Rattle.scan_core.specs.Count.{Count}
use Rattle.pg_interval_2.specs.Sql.{IsSqlSeconds}

-- seconds, or nothing
abbrev pub HasSeconds : Bool → List ℕ → List Count → Type 0
HasSeconds negative piece counts = ((piece ≡ []) × (counts ≡ [])) ⊎ IsSqlSeconds negative piece counts
