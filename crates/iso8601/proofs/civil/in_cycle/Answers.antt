-- Answers to the goals of `civil::in_cycle`.
use Rattle.std.proofs.Common.{rules, FitsSigned}
use Rattle.std.specs.Int.{w32}
use Rattle.std.proofs.lemmas.Int.{to_z-of_z}
use Rattle.iso8601.proofs.Cycle.{ymd_cycled, ymd_civil, week_cycled, week_civil, ordinal_cycled, ordinal_civil}
use Rattle.iso8601.proofs.civil.in_cycle.Goals as goal

pub returns-in-YMD-clause-same : goal.returns-in-YMD-clause-same
returns-in-YMD-clause-same c =
    let f : FitsSigned w32 c.in-YMD.year = search rules in
    let g : FitsSigned w32 c.cycle_year.result = search rules in
    let cycled = simp to_z-of_z at c.cycle_year.ensures.cycled in
    rw c.in-YMD.is (simp to_z-of_z (ymd_cycled c.in-YMD.year c.cycle_year.result c.in-YMD.month c.in-YMD.day cycled))

pub returns-in-YMD-clause-civil : goal.returns-in-YMD-clause-civil
returns-in-YMD-clause-civil c =
    let g : FitsSigned w32 c.cycle_year.result = search rules in
    simp to_z-of_z (ymd_civil c.cycle_year.result c.in-YMD.month c.in-YMD.day c.cycle_year.ensures.range)

pub returns-in-Week-clause-same : goal.returns-in-Week-clause-same
returns-in-Week-clause-same c =
    let f : FitsSigned w32 c.in-Week.year = search rules in
    let g : FitsSigned w32 c.cycle_year-in-Week.result = search rules in
    let cycled = simp to_z-of_z at c.cycle_year-in-Week.ensures.cycled in
    rw c.in-Week.is (simp to_z-of_z (week_cycled c.in-Week.year c.cycle_year-in-Week.result c.in-Week.ww c.in-Week.d cycled))

pub returns-in-Week-clause-civil : goal.returns-in-Week-clause-civil
returns-in-Week-clause-civil c =
    let g : FitsSigned w32 c.cycle_year-in-Week.result = search rules in
    simp to_z-of_z (week_civil c.cycle_year-in-Week.result c.in-Week.ww c.in-Week.d c.cycle_year-in-Week.ensures.range)

pub returns-in-Ordinal-clause-same : goal.returns-in-Ordinal-clause-same
returns-in-Ordinal-clause-same c =
    let f : FitsSigned w32 c.in-Ordinal.year = search rules in
    let g : FitsSigned w32 c.cycle_year-in-Ordinal.result = search rules in
    let cycled = simp to_z-of_z at c.cycle_year-in-Ordinal.ensures.cycled in
    rw c.in-Ordinal.is (simp to_z-of_z (ordinal_cycled c.in-Ordinal.year c.cycle_year-in-Ordinal.result c.in-Ordinal.ddd cycled))

pub returns-in-Ordinal-clause-civil : goal.returns-in-Ordinal-clause-civil
returns-in-Ordinal-clause-civil c =
    let g : FitsSigned w32 c.cycle_year-in-Ordinal.result = search rules in
    simp to_z-of_z (ordinal_civil c.cycle_year-in-Ordinal.result c.in-Ordinal.ddd c.cycle_year-in-Ordinal.ensures.range)
