-- Answers to the goals of the law `date_words_and_days_are_one_to_one`.
use Rattle.dos_date.proofs.DateWordLemmas.{one_day, real_date, IsRealDay-date}
use Rattle.dos_date.proofs.laws.date_words_and_days_are_one_to_one.Goals as goal

pub returns-clause-real : goal.returns-clause-real
returns-clause-real c = λ word fits. (real_date word fits, λ has. IsRealDay-date word has.0 has.1)

pub returns-clause-day : goal.returns-clause-day
returns-clause-day c = one_day
