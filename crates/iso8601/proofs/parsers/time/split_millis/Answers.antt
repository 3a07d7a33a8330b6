-- Answers to the goals of `parsers::time::split_millis`.
use Rattle.scan_core.proofs.FrontFacts.{front_are_digits}
use Rattle.iso8601.proofs.parsers.time.split_millis.Goals as goal

pub millis-requires : goal.millis-requires
millis-requires c = rw c.split_digits.ensures.front (front_are_digits c.args.bytes.now)
