-- Answers to the goals of `checking_into::answer_into`.
use Rattle.std.proofs.Common.{take, rules}
use Rattle.forms.specs.Lines.{lines}
use Rattle.whole_input.specs.Numbered.{AreRead}
use Rattle.schedule_check.specs.Slots.{IsSlot}
use Rattle.schedule_check.proofs.Slots.{all_proper}
use Rattle.schedule_check.proofs.checking_into.answer_into.Goals as goal

pub clash_in_order-requires : goal.clash_in_order-requires
clash_in_order-requires c =
    let read : AreRead IsSlot 1 (lines c.args.bytes.now) (take c.read_lines_into-count.result.0 c.read_lines_into-count.new.values) =
    search rules in
    all_proper 1 (lines c.args.bytes.now) (take c.read_lines_into-count.result.0 c.read_lines_into-count.new.values) read
