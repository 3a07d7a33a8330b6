-- Answers to the goals of `summary::summary`.
use Rattle.std.proofs.Common.{◌++◌, List, ℕ, sym, ◌∙◌, ap}
use Rattle.std.specs.Prelude.{Option}
use Rattle.pg_interval_2.specs.declared.interval.Interval.{Interval}
use Rattle.interval_column.specs.Output.{sum_line}
use Rattle.interval_column.proofs.Texts.{four_pushed, some_behind}
use Rattle.interval_column.proofs.summary.summary.Goals as goal

pub returns-in-Some-Some-clause-bytes : goal.returns-in-Some-Some-clause-bytes
returns-in-Some-Some-clause-bytes c =
    some_behind c.args.style c.args.ranks.now c.in-Some-Some.least.now c.in-Some-Some.greatest.now c.push_sum.new.out.bytes
    (sym c.in-Some-Some.ensures.value) (sym c.in-Some-Some.ensures'.value)
    (four_pushed _ _ _ _ _ _ _ _ _ c.new-out.ensures
    (c.push_str.ensures.bytes ∙ ap (λ (l : List ℕ). c.new-out.result.bytes ++ l)
    (c.as_str.ensures.value ∙ c.count_text-count.ensures.bytes))
    c.push_line.ensures.bytes c.push_line-in-Some-Some.ensures.bytes
    (c.push_sum.ensures.bytes ∙ ap (λ (o : Option Interval). c.push_line-in-Some-Some.new.out.bytes ++ sum_line c.args.style o)
    c.total_of.ensures))
