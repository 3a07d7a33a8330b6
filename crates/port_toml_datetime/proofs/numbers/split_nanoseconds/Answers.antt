-- Answers to the goals of `numbers::split_nanoseconds`.
use Rattle.std.proofs.Common.{arith}
use Rattle.port_toml_datetime.proofs.FractionFacts.{front_short, scaled_front}
use Rattle.port_toml_datetime.proofs.numbers.split_nanoseconds.Goals as goal

pub overflow_mul-result : goal.overflow_mul-result
overflow_mul-result c =
    let whole = scaled_front c.args.bytes.now _ _ c.leading_nine-len.ensures.len c.leading_nine-len.ensures.number in
    rw (c.scale.ensures, whole) (omega (arith, front_short c.args.bytes.now))

pub returns-clause-value : goal.returns-clause-value
returns-clause-value c = rw c.scale.ensures (scaled_front c.args.bytes.now _ _ c.leading_nine-len.ensures.len
    c.leading_nine-len.ensures.number)
