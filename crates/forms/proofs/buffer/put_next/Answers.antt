-- Answers to the goals of `buffer::put_next`.
use Rattle.std.proofs.Common.{◌-◌, ◌<◌, length, refl, arith}
use Rattle.std.proofs.lemmas.Bool.Decides.{nat_tests}
use Rattle.forms.proofs.Buffers.{stops_at_part, stops_at_long}
use Rattle.forms.proofs.buffer.put_next.Goals as goal

pub returns-in_err-line-clause-none : goal.returns-in_err-line-clause-none
returns-in_err-line-clause-none c =
    rw c.from_residual.ensures (stops_at_part c.args.text.now (length c.args.out.now - c.args.at) c.in_err-line.ensures.none, refl)

pub returns-then-out-at-clause-none : goal.returns-then-out-at-clause-none
returns-then-out-at-clause-none c =
    let found = c.in_ok-line.ensures.found in
    let whole = c.push.ensures.ascii (omega arith) in
    let long : length c.args.out.now - c.args.at < length c.push.new.self.bytes = grind (arith, nat_tests) in (
      stops_at_long c.args.text.now c.in_ok-line.line.now c.push.new.self.bytes c.in_ok-line.after.now
          (length c.args.out.now - c.args.at) found.0 found.1
          (c.line_reply-reply.result.bytes, c.line_reply-reply.ensures.reply, whole) long,
      refl,
    )
