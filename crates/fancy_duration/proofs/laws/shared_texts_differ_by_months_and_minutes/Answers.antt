-- Answers to the goals of the law `shared_texts_differ_by_months_and_minutes`.
use Rattle.fancy_duration.proofs.SharedTexts.{collisions}
use Rattle.fancy_duration.proofs.laws.shared_texts_differ_by_months_and_minutes.Goals as goal

pub returns : goal.returns
returns c = collisions
