-- Answers to the goals of `reading::verbose::read_verbose`.
use Rattle.pg_interval_2.proofs.VerboseReading.{reads, refuses}
use Rattle.pg_interval_2.proofs.reading.verbose.read_verbose.Goals as goal

pub returns-clause-ok : goal.returns-clause-ok
returns-clause-ok g c =
    reads c.args.text.now c.body_end-body.result.end c.body_end-body.result.ago c.read_behind_at.result c.body_end-body.ensures.ending
    (rw c.up_to-front.ensures at c.read_behind_at.ensures.ok)

pub returns-clause-err : goal.returns-clause-err
returns-clause-err g c =
    refuses c.args.text.now c.body_end-body.result.end c.body_end-body.result.ago c.read_behind_at.result c.body_end-body.ensures.ending
    (rw c.up_to-front.ensures at c.read_behind_at.ensures.err)
