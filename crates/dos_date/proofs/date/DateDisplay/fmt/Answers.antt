-- Answers to the goals of `date::DateDisplay::fmt`.
use Rattle.std.proofs.Common.{append_assoc}
use Rattle.dos_date.proofs.TextLemmas.{padded_two}
use Rattle.dos_date.proofs.date.DateDisplay.fmt.Goals as goal

pub returns-clause-writes : goal.returns-clause-writes
returns-clause-writes g c =
    let fields = c.fields-years.ensures in
    let month = padded_two c.fields-years.result.1 in
    let day = padded_two c.fields-years.result.2 in
    let written = rw (c.laid_out.ensures, c.laid_out-2.ensures, month, day, fields.years, fields.month, fields.day) at
    c.write.ensures.writes in
    rw (← c.self.view_is) (simp append_assoc (simp append_assoc at written))
