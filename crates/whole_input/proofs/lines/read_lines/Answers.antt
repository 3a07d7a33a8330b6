-- Answers to the goals of `lines::read_lines`.
use Rattle.std.proofs.Common.{◌≡◌, ◌∷◌, ◌++◌, [], length, suc, ap, arith, rules}
use Rattle.forms.specs.Lines.{lines}
use Rattle.whole_input.proofs.Numbering.{far_more}
use Rattle.whole_input.proofs.lines.read_lines.Goals as goal

pub loop-line-preserved : goal.loop-line-preserved
loop-line-preserved g c =
    let items : c.push.new.self.items ≡ c.loop-line.values.items ++ (c.in-Ok-read_line.value ∷ []) = search rules in
    let less : length (lines c.loop-line.rest.now) ≡ suc (length (lines c.in-Some.after.now)) = ap length c.in-Some.ensures.lines in
    record {
      far = rw items (far_more (g.R.ReadLine.is_read c.args.reader.now) c.args.text.now c.loop-line.rest.now c.in-Some.after.now
          c.in-Some.line.now c.loop-line.number c.loop-line.values.items c.in-Ok-read_line.value c.loop-line.invariant.far
          c.in-Some.ensures.lines c.in-Ok-read_line.ensures);
      room = omega (arith, less, c.loop-line.invariant.room);
      count = omega (arith, c.loop-line.invariant.count, c.in-Some.ensures.shorter);
    }
