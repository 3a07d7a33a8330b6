-- Answers to the goals of `texts::date`.
use Rattle.iso8601.specs.Dates.{IsDate}
use Rattle.iso8601.proofs.Longest.{longest_of, none_of}
use Rattle.iso8601.proofs.texts.date.Goals as goal

pub returns-in-Ok-clause-value : goal.returns-in-Ok-clause-value
returns-in-Ok-clause-value c = longest_of IsDate c.as_bytes.ensures.value c.in-Ok.ensures.found c.in-Ok.ensures.longest

pub returns-in-Err-clause-none : goal.returns-in-Err-clause-none
returns-in-Err-clause-none c = none_of IsDate c.as_bytes.ensures.value c.in-Err.ensures.none
