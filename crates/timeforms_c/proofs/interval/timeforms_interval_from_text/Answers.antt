-- Answers to the goals of `interval::timeforms_interval_from_text`.
use Rattle.std.proofs.Common.{Ok, Err, refl, ◌∙◌, ap, sym}
use Rattle.std.proofs.Math.Facts.{to_z-of_z}
use Rattle.forms.specs.declared.cause.Cause.TheVariants.{Syntax, Range}
use Rattle.timeforms_c.proofs.Answered.{same_some}
use Rattle.timeforms_c.proofs.Intervals.{read_held, found_again, is_no_code, is_no_interval, is_code}
use Rattle.timeforms_c.proofs.interval.timeforms_interval_from_text.Goals as goal

pub returns-in-Ok-read_interval-clause-done : goal.returns-in-Ok-read_interval-clause-done
returns-in-Ok-read_interval-clause-done c f style t numbered styled utf8 denoted =
    let same = same_some c.in-Some.style style (c.in-Some.ensures.some f style (to_z-of_z c.ranges.form ∙ numbered) styled) in
    let text = c.as_bytes.ensures.value ∙ c.in-Ok.ensures.cases.0 in
    let one = found_again c.texts_have_one_interval_or_cause.ensures _ style _ c.args.text.now _ (Ok t) same text
    c.in-Ok-read_interval.ensures denoted in
    let range = c.denoted_interval_is_in_range.ensures style c.args.text.now t denoted in
    let held = read_held c.in-Ok-read_interval.read t one range in
    (refl, held.0, held.1, held.2)

pub returns-in-Ok-read_interval-clause-range : goal.returns-in-Ok-read_interval-clause-range
returns-in-Ok-read_interval-clause-range c f style part numbered styled utf8 misfits =
    let same = same_some c.in-Some.style style (c.in-Some.ensures.some f style (to_z-of_z c.ranges.form ∙ numbered) styled) in
    let text = c.as_bytes.ensures.value ∙ c.in-Ok.ensures.cases.0 in
    absurd (is_no_code _ _ (found_again c.texts_have_one_interval_or_cause.ensures _ style _ c.args.text.now _ (Err Range) same text
    c.in-Ok-read_interval.ensures (part, misfits)))

pub returns-in-Ok-read_interval-clause-syntax : goal.returns-in-Ok-read_interval-clause-syntax
returns-in-Ok-read_interval-clause-syntax c f style numbered styled utf8 none =
    let same = same_some c.in-Some.style style (c.in-Some.ensures.some f style (to_z-of_z c.ranges.form ∙ numbered) styled) in
    let text = c.as_bytes.ensures.value ∙ c.in-Ok.ensures.cases.0 in
    absurd (is_no_code _ _ (found_again c.texts_have_one_interval_or_cause.ensures _ style _ c.args.text.now _ (Err Syntax) same text
    c.in-Ok-read_interval.ensures none))

pub returns-in-Err-clause-done : goal.returns-in-Err-clause-done
returns-in-Err-clause-done c f style t numbered styled utf8 denoted =
    let same = same_some c.in-Some.style style (c.in-Some.ensures.some f style (to_z-of_z c.ranges.form ∙ numbered) styled) in
    let text = c.as_bytes.ensures.value ∙ c.in-Ok.ensures.cases.0 in
    absurd (is_no_interval _ _ (found_again c.texts_have_one_interval_or_cause.ensures _ style _ c.args.text.now _ (Ok t) same text
    c.in-Err.ensures denoted))

pub returns-in-Err-clause-range : goal.returns-in-Err-clause-range
returns-in-Err-clause-range c f style part numbered styled utf8 misfits =
    let same = same_some c.in-Some.style style (c.in-Some.ensures.some f style (to_z-of_z c.ranges.form ∙ numbered) styled) in
    let text = c.as_bytes.ensures.value ∙ c.in-Ok.ensures.cases.0 in
    is_code c.in-Err.cause Range c.code_of.result (found_again c.texts_have_one_interval_or_cause.ensures _ style _ c.args.text.now _
    (Err Range) same text c.in-Err.ensures (part, misfits)) c.code_of.ensures

pub returns-in-Err-clause-syntax : goal.returns-in-Err-clause-syntax
returns-in-Err-clause-syntax c f style numbered styled utf8 none =
    let same = same_some c.in-Some.style style (c.in-Some.ensures.some f style (to_z-of_z c.ranges.form ∙ numbered) styled) in
    let text = c.as_bytes.ensures.value ∙ c.in-Ok.ensures.cases.0 in
    is_code c.in-Err.cause Syntax c.code_of.result (found_again c.texts_have_one_interval_or_cause.ensures _ style _ c.args.text.now _
    (Err Syntax) same text c.in-Err.ensures none) c.code_of.ensures
