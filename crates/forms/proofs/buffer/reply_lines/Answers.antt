-- Answers to the goals of `buffer::reply_lines`.
use Rattle.std.proofs.Common.{ℕ, ◌-◌, List, length, refl, sym, ap, subst, arith, ◌∙◌}
use Rattle.std.proofs.lemmas.List.{length-append}
use Rattle.forms.specs.Buffers.{AnswersInto}
use Rattle.forms.proofs.Buffers.{filled_none, filled_put, filled_all, filled_length}
use Rattle.forms.proofs.buffer.reply_lines.Goals as goal

pub loop-len-init : goal.loop-len-init
loop-len-init c = record { filled = filled_none c.args.text.now c.args.out.now; room = omega arith; left = omega arith }

pub loop-len-preserved : goal.loop-len-preserved
loop-len-preserved c =
    let put = c.in-Some.ensures.found in
    let filled = filled_put _ _ _ _ _ _ _ _ c.loop-len.invariant.filled put in
    let before = filled_length _ _ _ _ _ c.loop-len.invariant.filled in
    let after = filled_length _ _ _ _ _ filled in
    let split = ap length put.next.first ∙ length-append put.next.line _ in
    record {
      filled = filled;
      room = omega (arith, c.loop-len.invariant.room, put.next.fits, put.count);
      left = omega (arith, c.loop-len.invariant.left);
    }

pub returns : goal.returns
returns c =
    let none = c.in_default.ensures.none in
    let all = filled_all _ _ _ _ _ _ _ c.loop-len.invariant.filled refl none.0 refl in
    subst (λ (l : List ℕ). AnswersInto c.args.text.now c.args.out.now l
    (length c.args.text.now - length c.loop-len.rest.now) c.loop-len.written) (sym none.1) all
