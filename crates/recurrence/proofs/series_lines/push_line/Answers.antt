-- Answers to the goals of `series_lines::push_line`.
use Rattle.std.proofs.Common.{◌++◌, codes, refl, arith, append_assoc}
use Rattle.std.proofs.Math.Facts.{to_z-of_z}
use Rattle.recurrence.proofs.series_lines.push_line.Goals as goal

pub returns : goal.returns
returns g c =
    let put = rw (to_z-of_z c.ranges.instant) at c.push_instant.ensures.written in
    (put.0 ++ codes "\n", (put.0, put.1, refl), simp (c.push.ensures.ascii (omega arith), put.2, append_assoc) refl)
