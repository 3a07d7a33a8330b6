-- A text in `postgres` style has one list of counts.
use Rattle.scan_core.specs.Blanks.{words}
use Rattle.pg_interval_2.specs.inside.PostgresParts.{IsPostgres}
use Rattle.pg_interval_2.specs.UnitNames.{postgres_names}
use Rattle.pg_interval_2.specs.declared.reading.unit_names.NameSet.TheVariants.{Postgres}
use Rattle.pg_interval_2.proofs.Answering.{HasOneList}
use Rattle.pg_interval_2.proofs.BadNames.{one_counts}
use Rattle.pg_interval_2.proofs.UnitNameFacts.{set_names}
use Rattle.pg_interval_2.proofs.Verdicts.{AreNames}

-- the names of the style are letters
pub are_names : AreNames postgres_names
are_names = set_names Postgres

pub one_list : HasOneList IsPostgres
one_list text a b ha hb = one_counts postgres_names are_names (words text) a b ha hb
