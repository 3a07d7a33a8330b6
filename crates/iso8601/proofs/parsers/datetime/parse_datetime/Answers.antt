-- Answers to the goals of `parsers::datetime::parse_datetime`.
use Rattle.std.proofs.Common.{rules}
use Rattle.iso8601.specs.DateTimes.{IsDateTime}
use Rattle.iso8601.specs.inside.DateTimeReading.{read_date_time}
use Rattle.iso8601.proofs.Longest.{none_longer, none_begins}
use Rattle.iso8601.proofs.DateTimeReading.{date_time_sound, date_time_reach}
use Rattle.iso8601.proofs.parsers.datetime.parse_datetime.Goals as goal

pub returns-in-Some-clause-found : goal.returns-in-Some-clause-found
returns-in-Some-clause-found c = date_time_sound c.args.i.now c.in-Some.found.1.now c.in-Some.found.0 (search rules)

pub returns-in-Some-clause-longest : goal.returns-in-Some-clause-longest
returns-in-Some-clause-longest c = none_longer IsDateTime read_date_time date_time_reach c.args.i.now c.in-Some.found.1.now
    c.in-Some.found.0 (search rules)

pub returns-in-None-clause-none : goal.returns-in-None-clause-none
returns-in-None-clause-none c = none_begins IsDateTime read_date_time date_time_reach c.args.i.now (search rules)
