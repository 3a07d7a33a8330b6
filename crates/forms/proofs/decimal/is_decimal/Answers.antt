-- Answers to the goals of `decimal::is_decimal`.
use Rattle.std.proofs.Common.{arith, ap, length, List, ℕ}
use Rattle.std.proofs.lemmas.Fmt.{length-decimal-le}
use Rattle.forms.proofs.decimal.is_decimal.Goals as goal

pub push_num-requires : goal.push_num-requires
push_num-requires c =
    let short = length-decimal-le 20 c.args.number (omega arith) (omega arith) c.ranges.number.fits in
    let none = ap (λ (l : List ℕ). length l) c.new-out.ensures in
    omega arith
