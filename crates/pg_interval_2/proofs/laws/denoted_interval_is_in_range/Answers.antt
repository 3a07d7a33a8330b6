-- Answers to the goals of the law `denoted_interval_is_in_range`.
use Rattle.pg_interval_2.specs.Styles.{Shape}
use Rattle.pg_interval_2.proofs.DenotedRange.{denoted_in_range}
use Rattle.pg_interval_2.proofs.laws.denoted_interval_is_in_range.Goals as goal

pub returns : goal.returns
returns c = λ style. denoted_in_range (Shape style)
