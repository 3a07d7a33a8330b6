-- Answers to the goals of `spaced::gap_len`.
use Rattle.std.proofs.Common.{sym, ◌∙◌, arith}
use Rattle.text_lines.proofs.SpacedPlaces.{blank_more}
use Rattle.text_lines.proofs.spaced.gap_len.Goals as goal

pub loop-n-preserved : goal.loop-n-preserved
loop-n-preserved c = record {
  within = omega (arith, c.loop-n-test.true);
  all = blank_more c.args.text.now c.loop-n.n c.loop-n-test.true
      (sym c.is_blank_byte.ensures ∙ c.if-is_blank_byte.true) c.loop-n.invariant.all;
}
