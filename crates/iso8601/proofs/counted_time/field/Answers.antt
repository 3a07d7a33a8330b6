-- Answers to the goals of `counted_time::field`.
use Rattle.std.proofs.Common.{sym, arith}
use Rattle.iso8601.proofs.CountedFacts.{IsShort, field_passed, field_missing}
use Rattle.iso8601.proofs.counted_time.field.Goals as goal

pub returns-then-run-count-clause-none : goal.returns-then-run-count-clause-none
returns-then-run-count-clause-none g c =
    let e = c.digits_up_to-run.ensures in
    let short : IsShort c.args.count c.digits_up_to-run.result c.args.scan.now c.digits_up_to-run.new.self
    = record { is_run = e.run; front = e.front; passed = e.passed } in
    sym (field_missing c.args.count c.args.lo c.args.hi c.digits_up_to-run.result c.args.scan.now c.digits_up_to-run.new.self short
    c.requires.most (λ all least most. c.if-run-count.true all))

pub returns-then-run-from-clause-none : goal.returns-then-run-from-clause-none
returns-then-run-from-clause-none g c =
    let e = c.digits_up_to-run.ensures in
    let short : IsShort c.args.count c.digits_up_to-run.result c.args.scan.now c.digits_up_to-run.new.self
    = record { is_run = e.run; front = e.front; passed = e.passed } in
    sym (field_missing c.args.count c.args.lo c.args.hi c.digits_up_to-run.result c.args.scan.now c.digits_up_to-run.new.self short
    c.requires.most (λ all least most. absurd (omega arith)))

pub returns-then-run-from-2-clause-none : goal.returns-then-run-from-2-clause-none
returns-then-run-from-2-clause-none g c =
    let e = c.digits_up_to-run.ensures in
    let short : IsShort c.args.count c.digits_up_to-run.result c.args.scan.now c.digits_up_to-run.new.self
    = record { is_run = e.run; front = e.front; passed = e.passed } in
    sym (field_missing c.args.count c.args.lo c.args.hi c.digits_up_to-run.result c.args.scan.now c.digits_up_to-run.new.self short
    c.requires.most (λ all least most. absurd (omega arith)))

pub returns-clause-read : goal.returns-clause-read
returns-clause-read g c =
    let e = c.digits_up_to-run.ensures in
    let short : IsShort c.args.count c.digits_up_to-run.result c.args.scan.now c.digits_up_to-run.new.self
    = record { is_run = e.run; front = e.front; passed = e.passed } in
    sym (field_passed c.args.count c.args.lo c.args.hi c.digits_up_to-run.result c.args.scan.now c.digits_up_to-run.new.self short
    c.requires.most (omega arith) (omega arith) (omega arith))
