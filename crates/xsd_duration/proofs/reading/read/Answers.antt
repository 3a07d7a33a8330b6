-- Answers to the goals of `reading::read`.
use Rattle.std.proofs.Common.{ap, rules, Ok}
use Rattle.xsd_duration.specs.declared.error.DurationError.TheVariants.{Range}
use Rattle.xsd_duration.proofs.Denoted.{found_interval, found_micros, found_none, found_range, no_refusal, one_interval}
use Rattle.xsd_duration.proofs.reading.read.Goals as goal

pub sum_of-requires : goal.sum_of-requires
sum_of-requires c = found_micros c.args.text.now c.in-Some.numbers (search rules)

pub returns-in-Some-sum_of-clause-ok : goal.returns-in-Some-sum_of-clause-ok
returns-in-Some-sum_of-clause-ok c = found_interval c.args.text.now c.in-Some.numbers c.in-Some-sum_of.interval (search rules)
    (c.in-Some-sum_of.ensures.fits.0 (search rules)) c.in-Some-sum_of.ensures.sums

pub returns-in-Some-sum_of-clause-all : goal.returns-in-Some-sum_of-clause-all
returns-in-Some-sum_of-clause-all c t d = ap Ok (one_interval c.args.text.now c.in-Some-sum_of.interval t
    (found_interval c.args.text.now c.in-Some.numbers c.in-Some-sum_of.interval (search rules)
    (c.in-Some-sum_of.ensures.fits.0 (search rules)) c.in-Some-sum_of.ensures.sums) d)

pub returns-in-None-sum_of-clause-all : goal.returns-in-None-sum_of-clause-all
returns-in-None-sum_of-clause-all c t d = absurd (no_refusal c.args.text.now t Range d
    (found_range c.args.text.now c.in-Some.numbers (search rules) (λ h. let some = c.in-None-sum_of.ensures.fits.1 h in cc)))

pub returns-in-None-sum_of-clause-err : goal.returns-in-None-sum_of-clause-err
returns-in-None-sum_of-clause-err c =
    found_range c.args.text.now c.in-Some.numbers (search rules) (λ h. let some = c.in-None-sum_of.ensures.fits.1 h in cc)

pub returns-in-None-clause-all : goal.returns-in-None-clause-all
returns-in-None-clause-all c t d = absurd (found_none c.args.text.now (search rules) d.0 d.1)

pub returns-in-None-clause-err : goal.returns-in-None-clause-err
returns-in-None-clause-err c = found_none c.args.text.now (search rules)
