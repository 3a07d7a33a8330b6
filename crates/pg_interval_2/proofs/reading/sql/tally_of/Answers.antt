-- Answers to the goals of `reading::sql::tally_of`.
use Rattle.std.proofs.Common.{sym}
use Rattle.pg_interval_2.proofs.SqlShape.{is_sql, not_sql}
use Rattle.pg_interval_2.specs.inside.SqlViews.{text_counts}
use Rattle.pg_interval_2.proofs.reading.sql.tally_of.Goals as goal

pub returns-in_default-clause-none : goal.returns-in_default-clause-none
returns-in_default-clause-none g c = not_sql c.args.text.now (sym c.in_default.ensures.none)

pub returns-clause-some : goal.returns-clause-some
returns-clause-some g c =
    let added = c.add_time.ensures.tallied _ (c.add_days.ensures.tallied _ (c.add_date.ensures.tallied _ c.new-tally.ensures.tallied)) in
    (text_counts c.args.text.now c.in-Some.field-0, is_sql c.args.text.now _ (sym c.in-Some.ensures.read), added)
