-- Answers to the goals of `reading::distinct_tally::DistinctTally::take_whole`.
use Rattle.std.proofs.Common.{ℕ, List, [], ap, inl, ◌∙◌}
use Rattle.scan_core.specs.Runs.{digits_of}
use Rattle.scan_core.specs.Scanning.{ahead}
use Rattle.scan_core.proofs.Between.{between_none}
use Rattle.pg_interval_2.specs.inside.Reading.{Numeral}
use Rattle.pg_interval_2.proofs.NamedSteps.{is_turned, named, named_step, nameless, pointless, some_whole}
use Rattle.pg_interval_2.proofs.reading.distinct_tally.DistinctTally.take_whole.Goals as goal

pub returns-in-Some-clause-step : goal.returns-in-Some-clause-step
returns-in-Some-clause-step g c =
    λ counts h.
    let bytes = ahead c.args.scan.now in
    let before = c.args.scan.now.text in
    let whole = digits_of before c.args.whole in
    let text = c.name.new.scan.text in
    let seen = c.text.result.now in
    let code = c.whole_number-number in
    let read = named c.args.negative whole bytes [] bytes _ (ahead c.name.new.scan) (pointless bytes c.requires.point)
    (some_whole before c.args.whole c.requires.whole c.requires.some) c.in-Some.ensures.some c.in-Some.ensures.letters
    c.in-Some.ensures.rest in
    let number : Numeral = record { negative = c.args.negative; whole = whole; fraction = [] } in
    let is = is_turned c.args.turned c.args.negative code.result.negative whole (digits_of seen code.result.whole) []
    (digits_of seen code.result.fraction) (code.ensures.number ∙ c.turn.ensures)
    (ap (digits_of seen) code.ensures.whole ∙ ap (λ (l : List ℕ). digits_of l c.args.whole) (c.text.ensures ∙ c.name.ensures.same))
    (ap (digits_of seen) code.ensures.fraction ∙ between_none seen c.args.whole.end) in
    named_step c.args.names c.args.turned text seen _ (ahead c.name.new.scan) counts number _ c.in-Some.letters c.count_named.new.self
    c.count_named.result c.text.ensures read is c.in-Some.ensures.word c.in-Some.ensures.end
    (c.count_named.ensures.counted _ h)

pub returns-in-None-clause-step : goal.returns-in-None-clause-step
returns-in-None-clause-step g c =
    λ counts h.
    let bytes = ahead c.args.scan.now in
    inl (nameless c.args.negative (digits_of c.args.scan.now.text c.args.whole) bytes [] bytes
    (pointless bytes c.requires.point) c.in-None.ensures.none)
