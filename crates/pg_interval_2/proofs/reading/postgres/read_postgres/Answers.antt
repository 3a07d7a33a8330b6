-- Answers to the goals of `reading::postgres::read_postgres`.
use Rattle.std.proofs.Common.{ap}
use Rattle.scan_core.specs.Scanning.{Place, ahead}
use Rattle.pg_interval_2.proofs.PostgresReading.{reads, refuses}
use Rattle.pg_interval_2.proofs.reading.postgres.read_postgres.Goals as goal

pub returns-clause-ok : goal.returns-clause-ok
returns-clause-ok g c =
    reads c.args.text.now (ahead c.new-scan.result) c.read_items.result (ap ahead c.new-scan.ensures.place) c.read_items.ensures.ok

pub returns-clause-err : goal.returns-clause-err
returns-clause-err g c =
    refuses c.args.text.now (ahead c.new-scan.result) c.new-scan.result.at c.read_items.result (ap ahead c.new-scan.ensures.place)
    (ap (λ (p : Place). p.at) c.new-scan.ensures.place) c.read_items.ensures.err
