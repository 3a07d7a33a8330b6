-- Answers to the goals of `answer::lasting`.
use Rattle.std.proofs.Common.{◌≡◌, ◌%◌, unsigned_abs, inr, rules}
use Rattle.std.proofs.Math.Facts.{to_z-of_z}
use Rattle.recurrence.proofs.Millis.{whole_from_abs}
use Rattle.recurrence.proofs.answer.lasting.Goals as goal

pub returns-then-is_whole-clause-reply : goal.returns-then-is_whole-clause-reply
returns-then-is_whole-clause-reply c out h =
    let e = c.is_whole.ensures.0 c.if-is_whole.true in
    let t : unsigned_abs c.args.step.microseconds % 1000 ≡ 0 = search rules in
    inr (whole_from_abs c.args.step.microseconds t, rw (to_z-of_z c.ranges.start) at h)

pub returns-then-is_whole-clause-fine : goal.returns-then-is_whole-clause-fine
returns-then-is_whole-clause-fine c =
    let e = c.is_whole.ensures.0 c.if-is_whole.true in
    let t : unsigned_abs c.args.step.microseconds % 1000 ≡ 0 = search rules in
    (rw (to_z-of_z c.ranges.start) c.requires, whole_from_abs c.args.step.microseconds t)
