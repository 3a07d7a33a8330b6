-- Answers to the goals of `parsers::date::parse_date`.
use Rattle.std.proofs.Common.{rules}
use Rattle.iso8601.specs.Dates.{IsDate}
use Rattle.iso8601.specs.inside.Reading.{read_date}
use Rattle.iso8601.proofs.Longest.{none_longer, none_begins}
use Rattle.iso8601.proofs.DateReading.{date_sound, date_reach}
use Rattle.iso8601.proofs.parsers.date.parse_date.Goals as goal

pub returns-in-Some-clause-found : goal.returns-in-Some-clause-found
returns-in-Some-clause-found c = date_sound c.args.i.now c.in-Some.found.1.now c.in-Some.found.0 (search rules)

pub returns-in-Some-clause-longest : goal.returns-in-Some-clause-longest
returns-in-Some-clause-longest c = none_longer IsDate read_date date_reach c.args.i.now c.in-Some.found.1.now c.in-Some.found.0
    (search rules)

pub returns-in-None-clause-none : goal.returns-in-None-clause-none
returns-in-None-clause-none c = none_begins IsDate read_date date_reach c.args.i.now (search rules)
