-- Answers to the goals of `breakdown::kept_nanos`.
use Rattle.std.proofs.Common.{sym, ◌∙◌, arith}
use Rattle.fancy_duration.proofs.Breakdowns.{filtered_all, keeps_part, skips_part, kept_in_end, parts_more}
use Rattle.fancy_duration.proofs.breakdown.kept_nanos.Goals as goal
use Rattle.fancy_duration.proofs.breakdown.kept_nanos.Goals.{then-is_among, else-is_among}

pub loop-part-init : goal.loop-part-init
loop-part-init c = record { value = omega (arith, filtered_all c.args.kept.now c.args.nanos); within = omega arith }

pub loop-part-preserved : goal.loop-part-preserved
loop-part-preserved c =
    elim c.if-is_among.branch [
      | then-is_among w ↦
          let among = sym c.is_among.ensures ∙ w.if-is_among.true in
          let step = keeps_part _ _ _ _ _ _ _ _ _ (parts_more c.loop-part.part-index _ c.loop-part-test.true) (c.from.ensures
          ∙ c.nanos.ensures) among w.sum-is
          w.left-is in
          record { value = step ∙ c.loop-part.invariant.value; within = omega arith }
      | else-is_among w ↦
          let other = sym c.is_among.ensures ∙ w.if-is_among.false in
          let step = skips_part _ _ _ _ _ _ _ _ _ (parts_more c.loop-part.part-index _ c.loop-part-test.true) (c.from.ensures
          ∙ c.nanos.ensures) other w.sum-is
          w.left-is in
          record { value = step ∙ c.loop-part.invariant.value; within = omega arith }
    ]

pub returns-clause-value : goal.returns-clause-value
returns-clause-value c = omega (arith, kept_in_end c.args.kept.now c.loop-part.part-index c.loop-part.left c.loop-part-test.false)
