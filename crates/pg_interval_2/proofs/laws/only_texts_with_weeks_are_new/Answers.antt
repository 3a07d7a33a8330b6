-- Answers to the goals of the law `only_texts_with_weeks_are_new`.
use Rattle.pg_interval_2.proofs.IsoWeeks.{old_texts, new_texts}
use Rattle.pg_interval_2.proofs.laws.only_texts_with_weeks_are_new.Goals as goal

pub returns-clause-old : goal.returns-clause-old
returns-clause-old c = old_texts

pub returns-clause-new : goal.returns-clause-new
returns-clause-new c = new_texts
