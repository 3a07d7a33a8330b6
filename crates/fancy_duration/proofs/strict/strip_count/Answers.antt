-- Answers to the goals of `strict::strip_count`.
use Rattle.std.proofs.Common.{refl, sym}
use Rattle.fancy_duration.proofs.Counts.{count_stripped, counts_none, counts_other, length-stripped}
use Rattle.fancy_duration.proofs.strict.strip_count.Goals as goal

pub returns-then-behind-text-clause-none : goal.returns-then-behind-text-clause-none
returns-then-behind-text-clause-none c h = counts_none _ _ c.split_digits.ensures.rest c.if-behind-text.true h

pub returns-in-Some-clause-found : goal.returns-in-Some-clause-found
returns-in-Some-clause-found c = count_stripped _ _ _ _ _ _ c.split_digits.ensures.rest c.if-behind-text.false
    (sym c.in-Some.ensures.found) c.in-Some.ensures.rest c.without_blanks.ensures refl

pub returns-in-Some-clause-shorter : goal.returns-in-Some-clause-shorter
returns-in-Some-clause-shorter c = length-stripped _ _ _ _ c.split_digits.ensures.rest c.if-behind-text.false c.in-Some.ensures.rest
    c.without_blanks.ensures

pub returns-in-None-clause-none : goal.returns-in-None-clause-none
returns-in-None-clause-none c h = counts_other _ _ _ c.split_digits.ensures.rest refl c.in-None.ensures.none h
