-- Answers to the goals of `line::split_line`.
use Rattle.std.proofs.Common.{length, add-one, arith}
use Rattle.std.proofs.Math.Seq.{take-length}
use Rattle.std.proofs.lemmas.List.{take_rest}
use Rattle.forms.proofs.FirstFeed.{no_feed_before, split_at}
use Rattle.forms.proofs.line.split_line.Goals as goal

pub returns-in_err-end-clause-none : goal.returns-in_err-end-clause-none
returns-in_err-end-clause-none c = rw c.from_residual.ensures (rw take-length at
    (no_feed_before c.args.bytes.now (length c.args.bytes.now) (omega arith) c.in_err-end.ensures))

pub returns-clause-found : goal.returns-clause-found
returns-clause-found c =
    let first = c.in_ok-end.ensures in (
      no_feed_before c.args.bytes.now c.in_ok-end.end (omega (arith, first.0.high)) first.0.before,
      rw (take_rest, add-one) (split_at 10 c.args.bytes.now c.in_ok-end.end first.0.high first.1),
    )
