-- Answers to the goals of `writing::write_all`.
use Rattle.std.proofs.Common.{◌≤◌, length, drop, length-drop, arith}
use Rattle.std.proofs.lemmas.List.{take_rest}
use Rattle.forms.proofs.Writes.{appends_more, front_written, on_err}
use Rattle.forms.proofs.writing.write_all.Goals as goal

pub returns-in_err-at-clause-err : goal.returns-in_err-at-clause-err
returns-in_err-at-clause-err g c = on_err _ c.from_residual.result
    (front_written _ _ _ c.args.text.now c.loop-at.at c.loop-at.invariant.written c.in_err-at.ensures.bytes)

pub loop-at-preserved : goal.loop-at-preserved
loop-at-preserved g c =
    let bound : c.in_ok-at.field-0 ≤ length (drop c.loop-at.at c.args.text.now) = rw take_rest at c.in_ok-at.ensures.bound in
    record {
      within = omega (arith, length-drop c.loop-at.at c.args.text.now);
      written = appends_more _ _ _ c.args.text.now c.loop-at.at c.in_ok-at.field-0 c.loop-at.invariant.written
          (rw take_rest at c.in_ok-at.ensures.bytes);
      later = omega (arith, c.in_ok-at.ensures.cause.later);
    }
