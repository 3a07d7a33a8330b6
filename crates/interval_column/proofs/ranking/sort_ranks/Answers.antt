-- Answers to the goals of `ranking::sort_ranks`.
use Rattle.std.proofs.Common.{rules}
use Rattle.std.proofs.lemmas.List.Sorted.{answers_always, ranks_by}
use Rattle.interval_column.proofs.Total.{order_total}
use Rattle.interval_column.proofs.Ranks.{interval_of, ranks_column}
use Rattle.interval_column.proofs.ranking.sort_ranks.Goals as goal

pub returns : goal.returns
returns c = ranks_column _ _ c.sort_unstable_by.ensures.permutation
    (c.sort_unstable_by.ensures.sorted _ (ranks_by order_total interval_of) (answers_always _ _ _ (λ f a r g called. search rules)))
