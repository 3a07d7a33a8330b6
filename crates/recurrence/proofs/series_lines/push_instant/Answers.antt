-- Answers to the goals of `series_lines::push_instant`.
use Rattle.std.proofs.Math.Facts.{to_z-of_z}
use Rattle.forms.specs.Forms.{Writes}
use Rattle.forms.specs.declared.form.Form.TheVariants.{IsoDateTime}
use Rattle.forms.specs.declared.value.Value.TheVariants.{Instant}
use Rattle.recurrence.proofs.Texts.{has_text, gained, not_refused}
use Rattle.recurrence.proofs.series_lines.push_instant.Goals as goal

pub unreachable-requires : goal.unreachable-requires
unreachable-requires g c =
    let t = has_text c.civil_dates_are_calendar_dates.ensures c.args.instant c.requires.writable in
    not_refused (Writes IsoDateTime (Instant c.args.instant)) (c.values_have_one_writing.ensures IsoDateTime (Instant c.args.instant)) t.0 _
    _ _ t.1 (rw (to_z-of_z c.ranges.instant) at c.in-Err.ensures.answer)

pub returns-clause-written : goal.returns-clause-written
returns-clause-written g c = gained (Writes IsoDateTime (Instant c.args.instant)) _ _
    (rw (to_z-of_z c.ranges.instant) at c.in-Ok.ensures.answer)
