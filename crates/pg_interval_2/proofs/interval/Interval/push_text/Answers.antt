-- Answers to the goals of `Interval::push_text`: what each style's writer pushes is the style's text.
use Rattle.std.proofs.Common.{rules}
use Rattle.pg_interval_2.proofs.TextsInSteps.{in_steps}
use Rattle.pg_interval_2.proofs.interval.Interval.push_text.Goals as goal

pub returns-in-Iso-clause-bytes : goal.returns-in-Iso-clause-bytes
returns-in-Iso-clause-bytes g c = let same = in_steps c.args.style c.args.self.now in
    rw same (search (rules, c.in-Iso.is, c.push_iso.ensures.bytes))

pub returns-in-Postgres-clause-bytes : goal.returns-in-Postgres-clause-bytes
returns-in-Postgres-clause-bytes g c = let same = in_steps c.args.style c.args.self.now in
    rw (same, c.in-Postgres.is) (search (rules, c.push_postgres.ensures.bytes))

pub returns-in-Verbose-clause-bytes : goal.returns-in-Verbose-clause-bytes
returns-in-Verbose-clause-bytes g c = let same = in_steps c.args.style c.args.self.now in
    rw (same, c.in-Verbose.is) (search (rules, c.push_verbose.ensures.bytes))

pub returns-in-Sql-clause-bytes : goal.returns-in-Sql-clause-bytes
returns-in-Sql-clause-bytes g c = let same = in_steps c.args.style c.args.self.now in
    rw (same, c.in-Sql.is) (search (rules, c.push_sql.ensures.bytes))
