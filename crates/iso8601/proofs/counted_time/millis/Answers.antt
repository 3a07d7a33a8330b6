-- Answers to the goals of `counted_time::millis`.
use Rattle.std.proofs.Common.{sym}
use Rattle.iso8601.proofs.CountedFacts.{IsShort, millis_passed}
use Rattle.iso8601.proofs.counted_time.millis.Goals as goal

pub returns-then-len-eq0-clause-millis : goal.returns-then-len-eq0-clause-millis
returns-then-len-eq0-clause-millis g c =
    let e = c.digits_up_to-first.ensures in
    let short : IsShort 3 c.digits_up_to-first.result c.args.scan.now c.digits_up_to-first.new.self
    = record { is_run = e.run; front = e.front; passed = e.passed } in
    sym ((millis_passed c.digits_up_to-first.result c.args.scan.now c.digits_up_to-first.new.self short).0 c.if-len-eq0.true)

pub returns-then-len-eq1-clause-millis : goal.returns-then-len-eq1-clause-millis
returns-then-len-eq1-clause-millis g c =
    let e = c.digits_up_to-first.ensures in
    let short : IsShort 3 c.digits_up_to-first.result c.args.scan.now c.digits_up_to-first.new.self
    = record { is_run = e.run; front = e.front; passed = e.passed } in
    sym ((millis_passed c.digits_up_to-first.result c.args.scan.now c.digits_up_to-first.new.self short).1 c.if-len-eq1.true)

pub returns-then-len-eq2-clause-millis : goal.returns-then-len-eq2-clause-millis
returns-then-len-eq2-clause-millis g c =
    let e = c.digits_up_to-first.ensures in
    let short : IsShort 3 c.digits_up_to-first.result c.args.scan.now c.digits_up_to-first.new.self
    = record { is_run = e.run; front = e.front; passed = e.passed } in
    sym ((millis_passed c.digits_up_to-first.result c.args.scan.now c.digits_up_to-first.new.self short).2 c.if-len-eq2.true)

pub returns-else-len-eq2-clause-millis : goal.returns-else-len-eq2-clause-millis
returns-else-len-eq2-clause-millis g c =
    let e = c.digits_up_to-first.ensures in
    let short : IsShort 3 c.digits_up_to-first.result c.args.scan.now c.digits_up_to-first.new.self
    = record { is_run = e.run; front = e.front; passed = e.passed } in
    sym ((millis_passed c.digits_up_to-first.result c.args.scan.now c.digits_up_to-first.new.self short).3 c.if-len-eq0.false
    c.if-len-eq1.false c.if-len-eq2.false)
