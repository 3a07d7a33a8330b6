-- Answers to the goals of `series_lines::put_instant`.
use Rattle.std.proofs.Math.Facts.{to_z-of_z}
use Rattle.recurrence.proofs.Joined.{on_err, put_behind, front_of_longer}
use Rattle.recurrence.proofs.Texts.{has_line}
use Rattle.recurrence.proofs.series_lines.put_instant.Goals as goal

pub returns-in_err-make_room-clause-err : goal.returns-in_err-make_room-clause-err
returns-in_err-make_room-clause-err g c =
    let line = has_line c.civil_dates_are_calendar_dates.ensures c.args.instant c.requires in
    on_err _ c.from_residual.result (line.0, line.1, front_of_longer _ _ c.args.batch.now.bytes line.0 c.in_err-make_room.ensures.err)

pub returns-clause-ok : goal.returns-clause-ok
returns-clause-ok g c =
    let put = rw (to_z-of_z c.ranges.instant) at c.push_line.ensures in
    (put.0, put.1, put_behind _ _ _ _ put.0 _ c.texts_keep_their_order.ensures c.in_ok-make_room.ensures.ok put.2)
