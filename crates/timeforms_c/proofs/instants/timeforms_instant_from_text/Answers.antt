-- Answers to the goals of `instants::timeforms_instant_from_text`.
use Rattle.std.proofs.Common.{rules, refl, sym, ◌∙◌, FitsSigned, w64}
use Rattle.std.specs.Int.{w128}
use Rattle.std.proofs.Math.Facts.{to_z-of_z}
use Rattle.timeforms_c.proofs.Answered.{same_ok, same_some}
use Rattle.timeforms_c.proofs.CivilInstants.{reads_again}
use Rattle.timeforms_c.proofs.instants.timeforms_instant_from_text.Goals as goal

pub returns-in_default-from_utf8-clause-form : goal.returns-in_default-from_utf8-clause-form
returns-in_default-from_utf8-clause-form c none = absurd (none c.in-Some.form
    (sym (to_z-of_z c.ranges.form) ∙ (c.in-Some.ensures c.in-Some.form).0 refl))

pub returns-in-Ok-read_instant-clause-form : goal.returns-in-Ok-read_instant-clause-form
returns-in-Ok-read_instant-clause-form c none = absurd (none c.in-Some.form
    (sym (to_z-of_z c.ranges.form) ∙ (c.in-Some.ensures c.in-Some.form).0 refl))

pub returns-in-Err-clause-form : goal.returns-in-Err-clause-form
returns-in-Err-clause-form c none = absurd (none c.in-Some.form (sym (to_z-of_z c.ranges.form) ∙ (c.in-Some.ensures c.in-Some.form).0 refl))

pub returns-in-Ok-read_instant-clause-done : goal.returns-in-Ok-read_instant-clause-done
returns-in-Ok-read_instant-clause-done c f instant numbered utf8 reads =
    let fits : FitsSigned w128 c.in-Ok-read_instant.instant = search rules in
    let seconds : FitsSigned w64 c.parted-whole.result.0 = search rules in
    let form = same_some c.in-Some.form f ((c.in-Some.ensures f).1 (to_z-of_z c.ranges.form ∙ numbered)) in
    let again = reads_again _ _ _ _ _ form c.in-Ok.ensures.cases.0 reads in
    let same = same_ok c.in-Ok-read_instant.instant instant (c.in-Ok-read_instant.ensures.done instant again) in
    (refl, rw (to_z-of_z seconds) (c.parted-whole.ensures.whole ∙ (to_z-of_z fits ∙ same)), c.parted-whole.ensures.beyond)
