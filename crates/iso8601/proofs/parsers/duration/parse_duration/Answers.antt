-- Answers to the goals of `parsers::duration::parse_duration`.
use Rattle.std.proofs.Common.{rules}
use Rattle.iso8601.specs.Durations.{IsDuration}
use Rattle.iso8601.specs.inside.DurationReading.{read_duration}
use Rattle.iso8601.proofs.Longest.{none_longer, none_begins}
use Rattle.iso8601.proofs.DurationReading.{duration_sound, duration_reach}
use Rattle.iso8601.proofs.parsers.duration.parse_duration.Goals as goal

pub returns-in-Some-clause-found : goal.returns-in-Some-clause-found
returns-in-Some-clause-found c = duration_sound c.args.i.now c.in-Some.found.1.now c.in-Some.found.0 (search rules)

pub returns-in-Some-clause-longest : goal.returns-in-Some-clause-longest
returns-in-Some-clause-longest c = none_longer IsDuration read_duration duration_reach c.args.i.now c.in-Some.found.1.now c.in-Some.found.0
    (search rules)

pub returns-in-None-clause-none : goal.returns-in-None-clause-none
returns-in-None-clause-none c = none_begins IsDuration read_duration duration_reach c.args.i.now (search rules)
