-- Answers to the goals of the law `filtering_twice_is_filtering_once`.
use Rattle.fancy_duration.specs.Times.{nanos_of}
use Rattle.fancy_duration.proofs.Twice.{filter_twice}
use Rattle.fancy_duration.proofs.laws.filtering_twice_is_filtering_once.Goals as goal

pub returns : goal.returns
returns c kept times = filter_twice kept (nanos_of times)
