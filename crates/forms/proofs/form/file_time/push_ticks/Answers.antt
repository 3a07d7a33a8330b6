-- Answers to the goals of `form::file_time::push_ticks`.
use Rattle.std.proofs.Common.{arith}
use Rattle.std.proofs.lemmas.Fmt.{length-decimal-le}
use Rattle.forms.proofs.form.file_time.push_ticks.Goals as goal

pub push_num-requires : goal.push_num-requires
push_num-requires g c =
    let room = c.requires in
    let short = length-decimal-le 20 c.args.ticks (omega arith) (omega arith) c.ranges.ticks.fits in
    omega arith

pub returns-clause-len : goal.returns-clause-len
returns-clause-len g c =
    let short = length-decimal-le 20 c.args.ticks (omega arith) (omega arith) c.ranges.ticks.fits in
    let len = c.push_num.ensures.len in
    omega arith
