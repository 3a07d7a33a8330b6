-- Answers to the goals of `DateTime::at`.
use Rattle.std.proofs.Common.{rules, FitsSigned, w64}
use Rattle.std.proofs.lemmas.Int.{to_z-of_z}
use Rattle.internet_dates.proofs.DayFacts.{at_is}
use Rattle.internet_dates.proofs.date_time.DateTime.at.Goals as goal

pub returns-clause-found : goal.returns-clause-found
returns-clause-found c =
    let s : FitsSigned w64 c.args.seconds = c.ranges.seconds in
    let f : FitsSigned w64 c.split_seconds-number.result.0 = search rules in
    let day = simp to_z-of_z at c.split_seconds-number.ensures.day in
    let clock = simp to_z-of_z at c.split_seconds-number.ensures.clock in
    let real = simp to_z-of_z at c.in-Some.ensures.real in
    let name = simp to_z-of_z at c.weekday_of.ensures in
    let time = c.time_of-time.ensures in
    at_is c.args.first c.args.seconds c.split_seconds-number.result.0 c.in-Some.year c.in-Some.month c.in-Some.day
    c.split_seconds-number.result.1 c.time_of-time.result.hour c.time_of-time.result.minute c.time_of-time.result.second
    c.weekday_of.result day clock real time.same time.shown name
