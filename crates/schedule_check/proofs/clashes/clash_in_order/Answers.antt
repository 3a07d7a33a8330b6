-- Answers to the goals of `clashes::clash_in_order`.
use Rattle.std.proofs.Common.{◌<◌}
use Rattle.std.proofs.lemmas.List.Sorted.{All-permutation}
use Rattle.schedule_check.specs.declared.slot.Slot.{Slot}
use Rattle.schedule_check.proofs.clashes.clash_in_order.Goals as goal

pub first_clash-requires-clause-some : goal.first_clash-requires-clause-some
first_clash-requires-clause-some c =
    All-permutation (λ (s : Slot). s.start < s.end) c.args.slots.now c.order_slots.new.slots c.order_slots.ensures.order.same c.requires
