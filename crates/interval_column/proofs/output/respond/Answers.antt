-- Answers to the goals of `output::respond`.
use Rattle.std.proofs.Common.{sym, subst}
use Rattle.interval_column.specs.inside.Ranks.{IsFaultOf}
use Rattle.interval_column.proofs.OneOutput.{fault_part}
use Rattle.interval_column.proofs.output.respond.Goals as goal

pub returns-in-Err-Refused-clause-unwritten : goal.returns-in-Err-Refused-clause-unwritten
returns-in-Err-Refused-clause-unwritten g c failed =
    fault_part c.args.style c.args.input.now _ _ _ c.in-Err-Refused.line _ c.in-Err-Refused.fault _ (sym c.in-Err-Refused.line-is)
    (sym c.in-Err-Refused.fault-is) (subst (IsFaultOf c.args.input.now) c.in-Err-Refused.field-0-is c.in-Err-Refused.ensures.err)
    (c.respond_fault.ensures.unwritten failed)
