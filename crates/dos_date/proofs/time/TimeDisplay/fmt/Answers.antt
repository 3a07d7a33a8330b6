-- Answers to the goals of `time::TimeDisplay::fmt`.
use Rattle.std.proofs.Common.{◌*◌, append_assoc}
use Rattle.dos_date.proofs.TextLemmas.{padded_two}
use Rattle.dos_date.proofs.time.TimeDisplay.fmt.Goals as goal

pub returns-clause-writes : goal.returns-clause-writes
returns-clause-writes g c =
    let fields = c.fields-hour.ensures in
    let hour = padded_two c.fields-hour.result.0 in
    let minute = padded_two c.fields-hour.result.1 in
    let second = padded_two (2 * c.fields-hour.result.2) in
    let written = rw (
      c.laid_out.ensures,
      c.laid_out-2.ensures,
      c.laid_out-3.ensures,
      hour,
      minute,
      second,
      fields.hour,
      fields.minute,
      fields.halved,
    ) at c.write.ensures.writes in
    rw (← c.self.view_is) (simp append_assoc (simp append_assoc at written))
