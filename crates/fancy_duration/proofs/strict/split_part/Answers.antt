-- Answers to the goals of `strict::split_part`.
use Rattle.std.proofs.Common.{◌∙◌, sym}
use Rattle.fancy_duration.proofs.Counts.{named_letter, unit_letter}
use Rattle.fancy_duration.proofs.strict.split_part.Goals as goal

pub returns-in-Some-clause-found : goal.returns-in-Some-clause-found
returns-in-Some-clause-found c =
    let letter = named_letter c.args.text.now c.split_letters.result.0.now c.in-Some.part c.split_letters.ensures.first
    c.in-Some.ensures.found in
    sym (c.split_letters.ensures.unit letter) ∙ c.in-Some.ensures.found

pub returns-in-Some-clause-rest : goal.returns-in-Some-clause-rest
returns-in-Some-clause-rest c =
    c.split_letters.ensures.rest
    (named_letter c.args.text.now c.split_letters.result.0.now c.in-Some.part c.split_letters.ensures.first c.in-Some.ensures.found)

pub returns-in-None-clause-none : goal.returns-in-None-clause-none
returns-in-None-clause-none c part front =
    c.in-None.ensures.none part (c.split_letters.ensures.unit (unit_letter part c.args.text.now front) ∙ front)
