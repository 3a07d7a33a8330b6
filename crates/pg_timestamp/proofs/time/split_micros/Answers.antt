-- Answers to the goals of `time::split_micros`.
use Rattle.std.proofs.Common.{arith}
use Rattle.scan_core.specs.Fronts.{NoDigitFirst}
use Rattle.std.proofs.Common.{drop, ◌∙◌, sym}
use Rattle.pg_timestamp.proofs.MicrosFacts.{after_is, ends_at, micros_are, passed_more, passed_small, seven_in_front}
use Rattle.pg_timestamp.proofs.time.split_micros.Goals as goal
use Rattle.pg_timestamp.proofs.time.split_micros.Goals.{then-loop-len-test+else-is_ascii_digit, else-loop-len-test}

pub returns-then-len-eq6-clause-none : goal.returns-then-len-eq6-clause-none
returns-then-len-eq6-clause-none c =
    let six = c.if-len-eq6.true in
    λ micros. seven_in_front c.args.text.now c.loop-len.number micros (rw six at c.loop-len.invariant) (rw six at c.loop-len-test.true)
    (rw six at c.if-is_ascii_digit.ensures.value)

pub overflow_mul-number : goal.overflow_mul-number
overflow_mul-number c =
    let small = passed_small c.args.text.now c.loop-len.len c.loop-len.number c.loop-len.invariant in omega (arith, small)

pub overflow_add-number : goal.overflow_add-number
overflow_add-number c =
    let small = passed_small c.args.text.now c.loop-len.len c.loop-len.number c.loop-len.invariant in
    let byte = c.type_inv.text c.loop-len.len in omega (arith, small, byte)

pub loop-len-preserved : goal.loop-len-preserved
loop-len-preserved c =
    passed_more c.args.text.now c.loop-len.len c.loop-len.number c.loop-len.invariant c.loop-len-test.true c.if-len-eq6.false
    c.if-is_ascii_digit.ensures.value

pub overflow_mul-result : goal.overflow_mul-result
overflow_mul-result c =
    let ends : NoDigitFirst (drop c.loop-len.len c.args.text.now) = elim c.loop-len-test.branch [
      | then-loop-len-test+else-is_ascii_digit w ↦ ends_at c.args.text.now c.loop-len.len (λ h. sym w.is_ascii_digit.ensures.value
          ∙ w.if-is_ascii_digit.false)
      | else-loop-len-test w ↦ ends_at c.args.text.now c.loop-len.len (λ h. absurd (let no = w.loop-len-test.false in omega (arith, no, h)))
    ] in
    let are = micros_are c.args.text.now c.loop-len.len c.loop-len.number c.scale.result c.loop-len.invariant ends c.if-len-eq0.false
    c.scale.ensures in
    let small = are.1 in omega (arith, small)

pub returns-clause-found : goal.returns-clause-found
returns-clause-found c =
    let ends : NoDigitFirst (drop c.loop-len.len c.args.text.now) = elim c.loop-len-test.branch [
      | then-loop-len-test+else-is_ascii_digit w ↦ ends_at c.args.text.now c.loop-len.len (λ h. sym w.is_ascii_digit.ensures.value
          ∙ w.if-is_ascii_digit.false)
      | else-loop-len-test w ↦ ends_at c.args.text.now c.loop-len.len (λ h. absurd (let no = w.loop-len-test.false in omega (arith, no, h)))
    ] in
    (micros_are c.args.text.now c.loop-len.len c.loop-len.number c.scale.result c.loop-len.invariant ends c.if-len-eq0.false
    c.scale.ensures).0

pub returns-clause-rest : goal.returns-clause-rest
returns-clause-rest c =
    let ends : NoDigitFirst (drop c.loop-len.len c.args.text.now) = elim c.loop-len-test.branch [
      | then-loop-len-test+else-is_ascii_digit w ↦ ends_at c.args.text.now c.loop-len.len (λ h. sym w.is_ascii_digit.ensures.value
          ∙ w.if-is_ascii_digit.false)
      | else-loop-len-test w ↦ ends_at c.args.text.now c.loop-len.len (λ h. absurd (let no = w.loop-len-test.false in omega (arith, no, h)))
    ] in
    c.split_at.ensures.back ∙ after_is c.args.text.now c.loop-len.len c.loop-len.number c.loop-len.invariant ends
