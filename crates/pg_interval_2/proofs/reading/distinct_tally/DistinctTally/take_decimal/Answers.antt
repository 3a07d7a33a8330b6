-- Answers to the goals of `reading::distinct_tally::DistinctTally::take_decimal`.
use Rattle.std.proofs.Common.{ℕ, ◌+◌, ◌<◌, List, ap, arith, inl, length, ◌∙◌}
use Rattle.scan_core.specs.Runs.{digits_of}
use Rattle.scan_core.specs.Scanning.{ahead}
use Rattle.pg_interval_2.specs.inside.Reading.{Numeral}
use Rattle.pg_interval_2.proofs.ClockFacts.{some_digits}
use Rattle.pg_interval_2.proofs.NamedSteps.{digitless, is_turned, named, named_step, nameless}
use Rattle.pg_interval_2.proofs.reading.distinct_tally.DistinctTally.take_decimal.Goals as goal
use Rattle.pg_interval_2.proofs.reading.distinct_tally.DistinctTally.take_decimal.Goals.{else-is_empty-via-then-is_empty+else-is_empty-2}
use Rattle.pg_interval_2.proofs.reading.distinct_tally.DistinctTally.take_decimal.Goals.{else-is_empty-via-else-is_empty}

pub returns-then-is_empty-2-clause-step : goal.returns-then-is_empty-2-clause-step
returns-then-is_empty-2-clause-step g c =
    λ counts h.
    let fraction = c.fraction-fraction in
    inl (digitless c.args.negative c.args.scan.now.text fraction.new.scan.text (ahead c.args.scan.now)
    (ahead fraction.new.scan) c.args.whole fraction.result fraction.ensures.read c.if-is_empty.ensures c.if-is_empty-2.ensures)

pub returns-in-Some-clause-step : goal.returns-in-Some-clause-step
returns-in-Some-clause-step g c =
    λ counts h.
    let fraction = c.fraction-fraction in
    let before = c.args.scan.now.text in
    let whole = digits_of before c.args.whole in
    let digits = digits_of fraction.new.scan.text fraction.result in
    let text = c.name.new.scan.text in
    let seen = c.text.result.now in
    let some : 0 < length whole + length digits =
    elim c.else-is_empty.branch [
      | else-is_empty-via-then-is_empty+else-is_empty-2 w ↦ omega
          (arith, some_digits fraction.new.scan.text fraction.result fraction.ensures.run w.if-is_empty-2.ensures)
      | else-is_empty-via-else-is_empty w ↦ omega (arith, some_digits before c.args.whole c.requires.whole w.if-is_empty.ensures)
    ] in
    let read = named c.args.negative whole (ahead c.args.scan.now) digits (ahead fraction.new.scan) _
    (ahead c.name.new.scan) fraction.ensures.read some c.in-Some.ensures.some c.in-Some.ensures.letters c.in-Some.ensures.rest in
    let number : Numeral = record { negative = c.args.negative; whole = whole; fraction = digits } in
    let is = is_turned c.args.turned c.args.negative c.turn.result whole (digits_of seen c.args.whole) digits
    (digits_of seen fraction.result) c.turn.ensures
    (ap (λ (l : List ℕ). digits_of l c.args.whole) (c.text.ensures ∙ c.name.ensures.same ∙ fraction.ensures.same))
    (ap (λ (l : List ℕ). digits_of l fraction.result) (c.text.ensures ∙ c.name.ensures.same)) in
    named_step c.args.names c.args.turned text seen _ (ahead c.name.new.scan) counts number _ c.in-Some.letters c.count_decimal.new.self
    c.count_decimal.result c.text.ensures read is c.in-Some.ensures.word c.in-Some.ensures.end
    (c.count_decimal.ensures.counted _ h)

pub returns-in-None-clause-step : goal.returns-in-None-clause-step
returns-in-None-clause-step g c =
    λ counts h.
    let fraction = c.fraction-fraction in
    inl (nameless c.args.negative (digits_of c.args.scan.now.text c.args.whole) (ahead c.args.scan.now)
    (digits_of fraction.new.scan.text fraction.result) (ahead fraction.new.scan) fraction.ensures.read c.in-None.ensures.none)
