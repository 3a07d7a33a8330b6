-- Answers to the goals of `report::put_slots`.
use Rattle.std.proofs.Common.{◌++◌, List, ℕ, take, ap, sym, subst, ◌∙◌, arith}
use Rattle.forms.specs.Outside.{AppendsFront}
use Rattle.forms.specs.Waiting.{Moves}
use Rattle.schedule_check.specs.Reports.{slot_lines}
use Rattle.schedule_check.proofs.Reporting.{front_of_lines, on_err, one_more_line}
use Rattle.schedule_check.proofs.report.put_slots.Goals as goal

pub returns-in_err-put_text-clause-err : goal.returns-in_err-put_text-clause-err
returns-in_err-put_text-clause-err g c =
    let before : List ℕ = c.args.batch.now.bytes in
    let lines : List ℕ = slot_lines (take c.loop-slot.slot-index c.args.slots.now) in
    let text = c.as_str.ensures.value ∙ c.slot_line-line.ensures in
    let front = c.waiting_texts_keep_their_order.ensures.next_fails _ _ _ before lines c.loop-slot.batch.bytes c.as_str.result.now
    c.loop-slot.invariant.moved c.in_err-put_text.ensures.err in
    on_err _ c.from_residual.result
    (front_of_lines _ _ before c.args.slots.now c.loop-slot.slot-index _ c.loop-slot-test.true
    (subst (λ (l : List ℕ). AppendsFront (g.K.Sink.held c.args.sink.now) (g.K.Sink.held c.put_text.new.sink) (before ++ (lines ++ l))) text
    front))

pub loop-slot-preserved : goal.loop-slot-preserved
loop-slot-preserved g c =
    let before : List ℕ = c.args.batch.now.bytes in
    let lines : List ℕ = slot_lines (take c.loop-slot.slot-index c.args.slots.now) in
    let text = c.as_str.ensures.value ∙ c.slot_line-line.ensures in
    let all = ap (λ (l : List ℕ). lines ++ l) text ∙ sym (one_more_line c.args.slots.now c.loop-slot.slot-index _ c.loop-slot-test.true) in
    let moved = c.waiting_texts_keep_their_order.ensures.next _ _ _ before lines c.loop-slot.batch.bytes c.as_str.result.now
    c.put_text.new.batch.bytes c.loop-slot.invariant.moved c.in_ok-put_text.ensures.ok in
    record {
      moved = subst (λ (l : List ℕ). Moves (g.K.Sink.held c.args.sink.now)
          (g.K.Sink.held c.put_text.new.sink) before l c.put_text.new.batch.bytes) all moved;
      later = omega (arith, c.loop-slot.invariant.later, c.in_ok-put_text.ensures.cause.later);
    }
