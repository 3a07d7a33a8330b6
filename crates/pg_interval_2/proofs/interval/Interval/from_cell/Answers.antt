-- Answers to the goals of `interval::Interval::from_cell`.
use Rattle.std.proofs.Common.{rules, ◌≡◌, ◌++◌, ◌∙◌}
use Rattle.std.specs.Int.{w32, w64}
use Rattle.pg_interval_2.specs.Cell.{big_endian}
use Rattle.pg_interval_2.proofs.CellFacts.{sixteen}
use Rattle.pg_interval_2.proofs.interval.Interval.from_cell.Goals as goal

pub returns : goal.returns
returns c =
    let micros : c.new.result.microseconds ≡ c.number_of_8.result = search rules in
    let days : c.new.result.days ≡ c.number_of_4-2.result = search rules in
    let months : c.new.result.months ≡ c.number_of_4.result = search rules in
    (λ i. big_endian w64 (micros i) ++ (big_endian w32 (days i) ++ big_endian w32 (months i)))
    ∙ (λ i. c.number_of_8.ensures i ++ (c.number_of_4-2.ensures i ++ c.number_of_4.ensures i))
    ∙ sixteen c.args.bytes (search rules)
