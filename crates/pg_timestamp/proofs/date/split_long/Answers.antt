-- Answers to the goals of `date::split_long`.
use Rattle.std.proofs.Common.{arith, subst, sym}
use Rattle.scan_core.specs.Digits.{AreDigits}
use Rattle.scan_core.proofs.FrontFacts.{front_are_digits}
use Rattle.pg_timestamp.proofs.YearFacts.{front_year}
use Rattle.pg_timestamp.proofs.date.split_long.Goals as goal

pub year_of-requires-clause-digits : goal.year_of-requires-clause-digits
year_of-requires-clause-digits c = subst AreDigits (sym c.split_digits.ensures.front) (front_are_digits c.args.text.now)

pub returns-clause-found : goal.returns-clause-found
returns-clause-found c =
    let few = c.if-digits-lt4.false in
    front_year c.args.text.now c.split_digits.result.0.now c.year_of.result c.split_digits.ensures.front
    (λ h. omega (arith, few, h)) c.year_of.ensures
