-- Answers to the goals of `front::whole_number`.
use Rattle.std.proofs.Common.{arith}
use Rattle.xsd_duration.proofs.NumberFacts.{cut_few, number_small}
use Rattle.xsd_duration.proofs.front.whole_number.Goals as goal

pub returns-then-digits-le18 : goal.returns-then-digits-le18
returns-then-digits-le18 c =
    let small = number_small 18 c.args.digits.now c.requires.digits (omega arith) in
    let cut = cut_few c.args.digits.now c.requires.digits (omega arith) in
    omega (arith, small, cut, c.requires.number)
