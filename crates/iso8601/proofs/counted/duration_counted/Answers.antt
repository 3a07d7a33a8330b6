-- Answers to the goals of `counted::duration_counted`.
use Rattle.std.proofs.Common.{refl}
use Rattle.iso8601.proofs.CountedBodies.{whole_start, whole_body, no_body}
use Rattle.iso8601.proofs.counted.duration_counted.Goals as goal

pub returns-in-Some-clause-value : goal.returns-in-Some-clause-value
returns-in-Some-clause-value g c =
    let start = whole_start c.args.text.now c.new-scan.result c.next_if.new.self c.digits-run.new.self c.digits-run.result
    c.new-scan.ensures.place (c.if-not-next_if.ensures.passed refl) c.digits-run.ensures.start c.digits-run.ensures.passed.same in
    whole_body c.args.text.now _ c.in-Some.duration start c.in-Some.ensures.some

pub returns-in-None-clause-none : goal.returns-in-None-clause-none
returns-in-None-clause-none g c =
    let start = whole_start c.args.text.now c.new-scan.result c.next_if.new.self c.digits-run.new.self c.digits-run.result
    c.new-scan.ensures.place (c.if-not-next_if.ensures.passed refl) c.digits-run.ensures.start c.digits-run.ensures.passed.same in
    no_body c.args.text.now _ start c.in-None.ensures.none
