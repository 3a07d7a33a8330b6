-- Parts of texts in `postgres_verbose` style that private contracts alone name.
use Rattle.std.specs.Prelude.{◌≡◌, ◌⊎◌, ℕ, Bool, List, [], ◌∷◌, codes, if◌then◌else◌}
use Rattle.scan_core.specs.Blanks.{words}
use Rattle.scan_core.specs.Count.{Count}
use Rattle.pg_interval_2.specs.Postgres.{AreItems}
use Rattle.pg_interval_2.specs.UnitNames.{verbose_names}

-- `ago`, or nothing
abbrev pub ago_or_none : Bool → List ℕ
ago_or_none ago = if ago then codes "ago" else []

-- the body is `0`, which spells no counts, or items; blanks stand around its words or not
abbrev pub IsBody : List ℕ → List Count → Type 0
IsBody body counts =
    ((words body ≡ codes "0" ∷ []) × (counts ≡ [])) ⊎ AreItems verbose_names (words body) counts
