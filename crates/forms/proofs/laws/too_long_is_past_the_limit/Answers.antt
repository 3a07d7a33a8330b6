-- Answers to the goals of the law `too_long_is_past_the_limit`.
use Rattle.forms.proofs.Ends.{too_long_is_past_the_limit}
use Rattle.forms.proofs.laws.too_long_is_past_the_limit.Goals as goal

pub returns : goal.returns
returns c = too_long_is_past_the_limit
