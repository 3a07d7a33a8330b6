-- Answers to the goals of `date::four`.
use Rattle.pg_timestamp.proofs.YearFacts.{four_year}
use Rattle.pg_timestamp.proofs.date.four.Goals as goal

pub returns : goal.returns
returns c =
    four_year c.args.a c.args.b c.args.c c.args.d c.if-not-is_ascii_digit.ensures.value c.if-not-is_ascii_digit-2.ensures.value
    c.if-not-is_ascii_digit-3.ensures.value c.if-not-is_ascii_digit-4.ensures.value
