-- Answers to the goals of `counted::seconds`.
use Rattle.std.proofs.Common.{sym, subst, inl, ◌∙◌}
use Rattle.scan_core.specs.Scanning.{Place, ahead}
use Rattle.iso8601.specs.inside.CountedReading.{BeginsNoPoint, IsPointed}
use Rattle.iso8601.proofs.CountedFacts.{none_passed, some_passed, number_none, seconds_none, seconds_whole, seconds_other, seconds_closed}
use Rattle.iso8601.proofs.CountedFacts.{seconds_open, left_over}
use Rattle.iso8601.proofs.counted.seconds.Goals as goal

pub returns-then-run-clause-read : goal.returns-then-run-clause-read
returns-then-run-clause-read g c =
    let place = c.args.scan.now in
    let all = none_passed c.args.run place c.requires c.if-run.true in
    let read = seconds_none c.args.run place c.requires (number_none place.text c.args.run c.requires.is_run (inl c.if-run.true)) in
    rw all (sym read)

pub returns-in_err-second-clause-none : goal.returns-in_err-second-clause-none
returns-in_err-second-clause-none g c =
    let place = c.args.scan.now in
    let number = sym (c.number_in.ensures place.text c.requires.is_run) ∙ c.in_err-second.was in
    rw c.from_residual.ensures (left_over _ (some_passed c.args.run place c.requires c.if-run.false)
    (seconds_none c.args.run place c.requires number))

pub returns-then-next_if-clause-read : goal.returns-then-next_if-clause-read
returns-then-next_if-clause-read g c =
    let place = c.args.scan.now in
    let number = sym (c.number_in.ensures place.text c.requires.is_run) ∙ c.in_ok-second.was in
    sym (seconds_whole c.args.run place c.next_if.new.self c.in_ok-second.second c.requires number
    (c.next_if.ensures.passed c.if-next_if.true))

pub returns-in_err-millisecond-clause-none : goal.returns-in_err-millisecond-clause-none
returns-in_err-millisecond-clause-none g c =
    let place = c.args.scan.now in
    let number = sym (c.number_in.ensures place.text c.requires.is_run) ∙ c.in_ok-second.was in
    let other = c.next_if.ensures.other c.if-next_if.false in
    let P : Place → Type 0 = λ p. BeginsNoPoint (ahead p) in
    let point : BeginsNoPoint (ahead place) = subst P other.0 c.in_err-millisecond.ensures.none in
    rw c.from_residual-in_err-millisecond.ensures
    (left_over _ (some_passed c.args.run place c.requires c.if-run.false)
    (seconds_other c.args.run place c.in_ok-second.second c.requires number other.1 point))

pub returns-then-next_if-2-clause-read : goal.returns-then-next_if-2-clause-read
returns-then-next_if-2-clause-read g c =
    let place = c.args.scan.now in
    let number = sym (c.number_in.ensures place.text c.requires.is_run) ∙ c.in_ok-second.was in
    let other = c.next_if.ensures.other c.if-next_if.false in
    let P : Place → Type 0 = λ p. IsPointed (ahead p) c.in_ok-millisecond.millisecond (ahead c.point_millis.new.scan) in
    let point : P place = subst P other.0 c.in_ok-millisecond.ensures.some in
    sym (seconds_closed c.args.run place c.point_millis.new.scan c.next_if-2.new.self c.in_ok-second.second c.in_ok-millisecond.millisecond
    c.requires number point (c.next_if-2.ensures.passed c.if-next_if-2.true))

pub returns-else-next_if-2-clause-none : goal.returns-else-next_if-2-clause-none
returns-else-next_if-2-clause-none g c =
    let place = c.args.scan.now in
    let number = sym (c.number_in.ensures place.text c.requires.is_run) ∙ c.in_ok-second.was in
    let other = c.next_if.ensures.other c.if-next_if.false in
    let P : Place → Type 0 = λ p. IsPointed (ahead p) c.in_ok-millisecond.millisecond (ahead c.point_millis.new.scan) in
    let point : P place = subst P other.0 c.in_ok-millisecond.ensures.some in
    let last = c.next_if-2.ensures.other c.if-next_if-2.false in
    left_over _ (some_passed c.args.run place c.requires c.if-run.false)
    (seconds_open c.args.run place c.point_millis.new.scan c.in_ok-second.second c.in_ok-millisecond.millisecond c.requires number point
    last.1)
