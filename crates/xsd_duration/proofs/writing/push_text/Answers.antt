-- Answers to the goals of `writing::push_text`.
use Rattle.std.proofs.Common.{FitsSigned, w32, w64, ◌∙◌, ap, rules, unsigned_abs}
use Rattle.std.proofs.Math.Facts.{to_z-of_z}
use Rattle.pg_interval_2.specs.Ranges.{IsInRange}
use Rattle.xsd_duration.proofs.ReadBack.{appended, text_from}
use Rattle.xsd_duration.proofs.writing.push_text.Goals as goal

pub returns-clause-bytes : goal.returns-clause-bytes
returns-clause-bytes g c =
    let t = c.args.interval in
    let m : FitsSigned w32 t.months = search rules in
    let d : FitsSigned w32 t.days = search rules in
    let u : FitsSigned w64 t.microseconds = search rules in
    let r : IsInRange t = record { months = m; days = d; microseconds = u } in
    appended _ _ _ _ _ _ _ _ _ c.push_sign.ensures.bytes c.push_date.ensures.bytes c.push_time.ensures.bytes
    (text_from t c.has_negative.result c.is_zero.result c.from.result c.from-2.result c.unsigned_abs.result r c.has_negative.ensures
    (c.from.ensures ∙ c.unsigned_abs-months.ensures.value ∙ ap unsigned_abs (to_z-of_z m))
    (c.from-2.ensures ∙ c.unsigned_abs-days.ensures.value ∙ ap unsigned_abs (to_z-of_z d)) c.is_zero.ensures
    (c.unsigned_abs.ensures.value ∙ ap unsigned_abs (to_z-of_z u)))
