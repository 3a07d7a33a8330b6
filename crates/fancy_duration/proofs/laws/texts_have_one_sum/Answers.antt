-- Answers to the goals of the law `texts_have_one_sum`.
use Rattle.std.proofs.Common.{sym, ◌∙◌}
use Rattle.fancy_duration.specs.Sums.{total}
use Rattle.fancy_duration.specs.inside.Reading.{items_of}
use Rattle.fancy_duration.proofs.Totals.{sum_unique, sum_exists}
use Rattle.fancy_duration.proofs.laws.texts_have_one_sum.Goals as goal

pub returns-clause-some : goal.returns-clause-some
returns-clause-some c text = (total (items_of text), sum_exists text)

pub returns-clause-one : goal.returns-clause-one
returns-clause-one c text a b ha hb = sum_unique text a ha ∙ sym (sum_unique text b hb)
