-- Answers to the goals of the law `truncating_twice_is_truncating_once`.
use Rattle.fancy_duration.specs.Times.{nanos_of}
use Rattle.fancy_duration.proofs.Twice.{truncate_twice}
use Rattle.fancy_duration.proofs.laws.truncating_twice_is_truncating_once.Goals as goal

pub returns : goal.returns
returns c limit times = truncate_twice limit (nanos_of times)
