-- Answers to the goals of `parsers::time::parse_time`.
use Rattle.std.proofs.Common.{rules}
use Rattle.iso8601.specs.Times.{IsTime}
use Rattle.iso8601.specs.inside.TimeReading.{read_time}
use Rattle.iso8601.proofs.Longest.{none_longer, none_begins}
use Rattle.iso8601.proofs.TimeReading.{time_sound, time_reach}
use Rattle.iso8601.proofs.parsers.time.parse_time.Goals as goal

pub returns-in-Some-clause-found : goal.returns-in-Some-clause-found
returns-in-Some-clause-found c = time_sound c.args.i.now c.in-Some.found.1.now c.in-Some.found.0 (search rules)

pub returns-in-Some-clause-longest : goal.returns-in-Some-clause-longest
returns-in-Some-clause-longest c = none_longer IsTime read_time time_reach c.args.i.now c.in-Some.found.1.now c.in-Some.found.0
    (search rules)

pub returns-in-None-clause-none : goal.returns-in-None-clause-none
returns-in-None-clause-none c = none_begins IsTime read_time time_reach c.args.i.now (search rules)
