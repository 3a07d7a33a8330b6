-- Answers to the goals of `filling::put_values`.
use Rattle.std.proofs.Common.{◌≡◌, ◌+◌, ◌<◌, length, take, suc, ap, ◌∙◌, arith}
use Rattle.std.proofs.lemmas.List.{take_more_set, length-set}
use Rattle.forms.specs.Lines.{lines}
use Rattle.whole_input.proofs.Numbering.{far_more}
use Rattle.whole_input.proofs.SlicesFilled.{behind_later, behind_set}
use Rattle.whole_input.proofs.filling.put_values.Goals as goal

pub loop-line-preserved : goal.loop-line-preserved
loop-line-preserved g c =
    let less : length (lines c.loop-line.rest.now) ≡ suc (length (lines c.in-Some.after.now)) = ap length c.in-Some.ensures.lines in
    let place = c.loop-line.invariant.counted in
    let all = c.loop-line.invariant.len in
    let inside : c.loop-line.done < length c.loop-line.values = omega (arith, less, place, all, c.requires) in
    let IsRead = g.R.ReadLine.is_read c.args.reader.now in
    record {
      far = rw (take_more_set c.loop-line.values c.loop-line.done c.in-Ok.value inside)
          (far_more IsRead c.args.text.now c.loop-line.rest.now c.in-Some.after.now c.in-Some.line.now (c.loop-line.done + 1)
          (take c.loop-line.done c.loop-line.values) c.in-Ok.value c.loop-line.invariant.far c.in-Some.ensures.lines
          c.in-Ok.ensures);
      counted = omega (arith, less, place);
      bound = omega (arith, c.loop-line.invariant.bound, c.in-Some.ensures.shorter);
      len = length-set c.loop-line.values c.loop-line.done c.in-Ok.value ∙ all;
      behind = behind_set c.loop-line.values c.args.values.now c.loop-line.done c.in-Ok.value c.loop-line.invariant.behind;
    }

pub returns-in-Err-clause-behind : goal.returns-in-Err-clause-behind
returns-in-Err-clause-behind g c =
    behind_later c.loop-line.values c.args.values.now c.loop-line.done (length (lines c.args.text.now))
    (let place = c.loop-line.invariant.counted in omega (arith, place)) c.loop-line.invariant.behind
