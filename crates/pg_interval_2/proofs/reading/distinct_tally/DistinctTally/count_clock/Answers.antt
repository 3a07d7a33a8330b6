-- Answers to the goals of `reading::distinct_tally::DistinctTally::count_clock`.
use Rattle.std.proofs.Common.{[], ◌++◌, false, subst, take, true}
use Rattle.scan_core.specs.Count.{Count, count_of}
use Rattle.scan_core.specs.declared.share.Unit.TheVariants.{Hour, Minute, Second}
use Rattle.pg_interval_2.specs.inside.DistinctItems.{CountsPerhaps}
use Rattle.pg_interval_2.proofs.DistinctFacts.{clock_first, clock_second, clock_last, nonzero, whole_count, fraction_count}
use Rattle.pg_interval_2.proofs.reading.distinct_tally.DistinctTally.count_clock.Goals as goal

pub returns-then-not-count_nonzero-clause-counted : goal.returns-then-not-count_nonzero-clause-counted
returns-then-not-count_nonzero-clause-counted g c =
    λ fields has counts h.
    let hours = count_of fields.negative fields.hours [] Hour in
    let is_hours = whole_count c.args.text.now c.whole_number-hours.result c.args.clock.negative fields.negative c.args.clock.hours
    fields.hours Hour c.whole_number-hours.ensures.number c.whole_number-hours.ensures.whole c.whole_number-hours.ensures.fraction
    has.negative has.hours in
    let before = subst (λ (x : Count). CountsPerhaps counts x c.count_nonzero.new.self false) is_hours
    (c.if-not-count_nonzero.ensures.counted counts h) in
    clock_first counts hours (count_of fields.negative fields.minutes [] Minute)
    (count_of fields.negative fields.seconds (take 6 fields.fraction) Second) before.0 before.1

pub returns-then-not-count_nonzero-2-clause-counted : goal.returns-then-not-count_nonzero-2-clause-counted
returns-then-not-count_nonzero-2-clause-counted g c =
    λ fields has counts h.
    let hours = count_of fields.negative fields.hours [] Hour in
    let minutes = count_of fields.negative fields.minutes [] Minute in
    let is_hours = whole_count c.args.text.now c.whole_number-hours.result c.args.clock.negative fields.negative c.args.clock.hours
    fields.hours Hour c.whole_number-hours.ensures.number c.whole_number-hours.ensures.whole c.whole_number-hours.ensures.fraction
    has.negative has.hours in
    let is_minutes = whole_count c.args.text.now c.whole_number-minutes.result c.args.clock.negative fields.negative c.args.clock.minutes
    fields.minutes Minute c.whole_number-minutes.ensures.number c.whole_number-minutes.ensures.whole
    c.whole_number-minutes.ensures.fraction has.negative has.minutes in
    let first = subst (λ (x : Count). CountsPerhaps counts x c.count_nonzero.new.self true) is_hours
    (c.if-not-count_nonzero.ensures.counted counts h) in
    let before = subst (λ (x : Count). CountsPerhaps (counts ++ nonzero hours) x c.count_nonzero-2.new.self false) is_minutes
    (c.if-not-count_nonzero-2.ensures.counted (counts ++ nonzero hours) first) in
    clock_second counts hours minutes (count_of fields.negative fields.seconds (take 6 fields.fraction) Second) before.0 before.1

pub returns-clause-counted : goal.returns-clause-counted
returns-clause-counted g c =
    λ fields has counts h.
    let hours = count_of fields.negative fields.hours [] Hour in
    let minutes = count_of fields.negative fields.minutes [] Minute in
    let seconds = count_of fields.negative fields.seconds (take 6 fields.fraction) Second in
    let is_hours = whole_count c.args.text.now c.whole_number-hours.result c.args.clock.negative fields.negative c.args.clock.hours
    fields.hours Hour c.whole_number-hours.ensures.number c.whole_number-hours.ensures.whole c.whole_number-hours.ensures.fraction
    has.negative has.hours in
    let is_minutes = whole_count c.args.text.now c.whole_number-minutes.result c.args.clock.negative fields.negative c.args.clock.minutes
    fields.minutes Minute c.whole_number-minutes.ensures.number c.whole_number-minutes.ensures.whole
    c.whole_number-minutes.ensures.fraction has.negative has.minutes in
    let is_seconds = fraction_count c.args.text.now c.args.clock fields has in
    let first = subst (λ (x : Count). CountsPerhaps counts x c.count_nonzero.new.self true) is_hours
    (c.if-not-count_nonzero.ensures.counted counts h) in
    let second = subst (λ (x : Count). CountsPerhaps (counts ++ nonzero hours) x c.count_nonzero-2.new.self true) is_minutes
    (c.if-not-count_nonzero-2.ensures.counted (counts ++ nonzero hours) first) in
    let third = subst (λ (x : Count). CountsPerhaps ((counts ++ nonzero hours) ++ nonzero minutes) x c.count_nonzero-3.new.self
    c.count_nonzero-3.result) is_seconds (c.count_nonzero-3.ensures.counted ((counts ++ nonzero hours) ++ nonzero minutes) second) in
    clock_last counts hours minutes seconds c.count_nonzero-3.new.self c.count_nonzero-3.result third
