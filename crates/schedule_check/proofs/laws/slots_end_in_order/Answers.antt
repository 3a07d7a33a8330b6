-- Answers to the goals of `laws::slots_end_in_order`.
use Rattle.schedule_check.proofs.OneAnswer.{slots_apart, ends_rise}
use Rattle.schedule_check.proofs.laws.slots_end_in_order.Goals as goal

pub returns : goal.returns
returns c = record { apart = slots_apart; ends = ends_rise }
