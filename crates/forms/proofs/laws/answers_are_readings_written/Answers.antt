-- Answers to the goals of the law `answers_are_readings_written`.
use Rattle.forms.proofs.Replies.{answers_turned}
use Rattle.forms.proofs.laws.answers_are_readings_written.Goals as goal

pub returns : goal.returns
returns c = answers_turned c.denoted_interval_is_in_range.ensures
