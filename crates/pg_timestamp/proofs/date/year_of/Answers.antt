-- Answers to the goals of `date::year_of`.
use Rattle.scan_core.specs.Digits.{number_of}
use Rattle.pg_timestamp.proofs.YearFacts.{capped_below, capped_above}
use Rattle.pg_timestamp.proofs.date.year_of.Goals as goal

pub returns-then-number-lt40000 : goal.returns-then-number-lt40000
returns-then-number-lt40000 c = capped_below (number_of c.args.digits.now) c.capped-number.result c.capped-number.ensures
    c.if-number-lt40000.true

pub returns : goal.returns
returns c = capped_above (number_of c.args.digits.now) c.capped-number.result c.last_four.result c.capped-number.ensures
    c.if-number-lt40000.false c.last_four.ensures
