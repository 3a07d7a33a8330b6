-- Answers to the goals of `interval::timeforms_interval_to_text`.
use Rattle.std.proofs.Common.{rules, ◌∙◌, FitsSigned, w32, w64}
use Rattle.std.proofs.Math.Facts.{to_z-of_z}
use Rattle.timeforms_c.proofs.Answered.{same_some}
use Rattle.timeforms_c.proofs.Intervals.{made_of, written_again}
use Rattle.timeforms_c.proofs.Rooms.{leaves_as}
use Rattle.timeforms_c.proofs.interval.timeforms_interval_to_text.Goals as goal

pub returns-clause-text : goal.returns-clause-text
returns-clause-text c f style numbered styled =
    let same = same_some c.in-Some.style style (c.in-Some.ensures.some f style (to_z-of_z c.ranges.form ∙ numbered) styled) in
    let months : FitsSigned w32 c.args.interval.now.months = search rules in
    let days : FitsSigned w32 c.args.interval.now.days = search rules in
    let micros : FitsSigned w64 c.args.interval.now.microseconds = search rules in
    let made = made_of c.new-interval.result _ _ _ months days micros c.new-interval.ensures in
    let text = written_again c.in-Some.style style c.new-interval.result _ c.text.result.bytes same made c.text.ensures.bytes in
    let fits : FitsSigned w32 c.put_text.result = search rules in
    leaves_as c.as_str.result.now _ _ _ c.put_text.result (c.as_str.ensures.value ∙ text) fits c.put_text.ensures
