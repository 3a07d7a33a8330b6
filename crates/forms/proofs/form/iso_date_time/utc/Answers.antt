-- Answers to the goals of `form::iso_date_time::utc`.
use Rattle.std.proofs.Common.{◌≤◌, length, subst, sym}
use Rattle.iso8601.specs.Written.{date_text}
use Rattle.iso8601.specs.declared.types.Date.{Date}
use Rattle.forms.proofs.IsoDateTimes.{short_date}
use Rattle.forms.proofs.form.iso_date_time.utc.Goals as goal

pub returns-clause-short : goal.returns-clause-short
returns-clause-short c =
    let P : Date → Type 0 = λ d. length (date_text d) ≤ 28 in
    subst P (sym c.date_of.ensures) (short_date c.args.civil.date)
