-- Answers to the goals of `instants::timeforms_recurrence_at`.
use Rattle.std.proofs.Common.{rules, refl, ap, Some, None, ◌∙◌, pos, FitsSigned, w64}
use Rattle.std.specs.Prelude.{ℤ}
use Rattle.std.specs.Int.{w128}
use Rattle.std.proofs.Math.Facts.{to_z-of_z}
use Rattle.timeforms_c.specs.Intervals.{nanos_of}
use Rattle.timeforms_c.proofs.Answered.{not_none, not_some, same_some}
use Rattle.timeforms_c.proofs.CivilInstants.{at_again, civil_within}
use Rattle.timeforms_c.proofs.instants.timeforms_recurrence_at.Goals as goal

pub parted-whole-requires : goal.parted-whole-requires
parted-whole-requires c =
    let fits : FitsSigned w128 c.in-Some.instant = search rules in
    let is = (c.in-Some.ensures (Some c.in-Some.instant)).0 refl in
    rw (to_z-of_z fits) (civil_within c.in-Some.instant is.3)

pub returns-in-Some-clause-done : goal.returns-in-Some-clause-done
returns-in-Some-clause-done c instant below is =
    let begin : FitsSigned w128 c.instant_of.result = search rules in
    let fits : FitsSigned w128 c.in-Some.instant = search rules in
    let seconds : FitsSigned w64 c.parted-whole.result.0 = search rules in
    let same = same_some c.in-Some.instant instant ((c.in-Some.ensures (Some instant)).1
    (at_again _ _ _ _ c.args.steps (Some instant) (to_z-of_z begin ∙ c.instant_of.ensures
    ∙ ap (λ (s : ℤ). nanos_of s (pos c.args.nanoseconds)) (to_z-of_z c.ranges.seconds)) c.interval_of.ensures is)) in
    (refl, rw (to_z-of_z seconds) (c.parted-whole.ensures.whole ∙ (to_z-of_z fits ∙ same)), c.parted-whole.ensures.beyond)

pub returns-in-Some-clause-none : goal.returns-in-Some-clause-none
returns-in-Some-clause-none c below is =
    let begin : FitsSigned w128 c.instant_of.result = search rules in
    absurd (not_some c.in-Some.instant ((c.in-Some.ensures None).1
    (at_again _ _ _ _ c.args.steps None (to_z-of_z begin ∙ c.instant_of.ensures
    ∙ ap (λ (s : ℤ). nanos_of s (pos c.args.nanoseconds)) (to_z-of_z c.ranges.seconds)) c.interval_of.ensures is)))

pub returns-in-None-clause-done : goal.returns-in-None-clause-done
returns-in-None-clause-done c instant below is =
    let begin : FitsSigned w128 c.instant_of.result = search rules in
    absurd (not_none instant ((c.in-None.ensures (Some instant)).1
    (at_again _ _ _ _ c.args.steps (Some instant) (to_z-of_z begin ∙ c.instant_of.ensures
    ∙ ap (λ (s : ℤ). nanos_of s (pos c.args.nanoseconds)) (to_z-of_z c.ranges.seconds)) c.interval_of.ensures is)))
