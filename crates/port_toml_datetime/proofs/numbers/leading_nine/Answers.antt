-- Answers to the goals of `numbers::leading_nine`.
use Rattle.std.proofs.Common.{◌<◌, ◌-◌, length, get_or, refl, sym, ◌∙◌, arith}
use Rattle.port_toml_datetime.proofs.FractionFacts.{one_more}
use Rattle.port_toml_datetime.proofs.numbers.leading_nine.Goals as goal

pub overflow_mul-value : goal.overflow_mul-value
overflow_mul-value c =
    let i = c.loop-len.invariant in
    let is = sym c.is_ascii_digit.ensures.value ∙ c.if-is_ascii_digit.true in
    omega (
      arith,
      (one_more c.args.bytes.now c.loop-len.len c.loop-len.value (get_or c.args.bytes.now c.loop-len.len 0 - 48) i.front
          (omega (arith, c.loop-len-test.true, c.min-most.ensures))
          (omega (arith, c.loop-len-test.true, c.min-most.ensures)) is i.value refl).small,
    )

pub overflow_add-value : goal.overflow_add-value
overflow_add-value c =
    let i = c.loop-len.invariant in
    let is = sym c.is_ascii_digit.ensures.value ∙ c.if-is_ascii_digit.true in
    omega (
      arith,
      (one_more c.args.bytes.now c.loop-len.len c.loop-len.value c.from.result i.front
          (omega (arith, c.loop-len-test.true, c.min-most.ensures))
          (omega (arith, c.loop-len-test.true, c.min-most.ensures)) is i.value c.from.ensures).small,
    )

pub loop-len-preserved : goal.loop-len-preserved
loop-len-preserved c =
    let i = c.loop-len.invariant in
    let is = sym c.is_ascii_digit.ensures.value ∙ c.if-is_ascii_digit.true in
    let within : c.loop-len.len < length c.args.bytes.now = omega (arith, c.loop-len-test.true, c.min-most.ensures) in
    let few : c.loop-len.len < 9 = omega (arith, c.loop-len-test.true, c.min-most.ensures) in
    let more = one_more c.args.bytes.now c.loop-len.len c.loop-len.value c.from.result i.front within few is i.value c.from.ensures in
    record {
      within = omega (arith, within);
      nine = omega (arith, few);
      front = more.front;
      rest = i.rest ∙ more.rest;
      value = more.next;
    }
