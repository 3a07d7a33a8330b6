-- Answers to the goals of `program::top`.
use Rattle.std.proofs.Common.{refl}
use Rattle.interval_column.proofs.Labels.{some_is, none_is_no_some}
use Rattle.interval_column.proofs.OneOutput.{ended_as, means_as}
use Rattle.interval_column.proofs.program.top.Goals as goal

pub returns-in-Some-clause-words : goal.returns-in-Some-clause-words
returns-in-Some-clause-words g c = (
  λ unknown. absurd (c.answer_whole.ensures.known unknown),
  λ none. absurd (none c.in-Some.style ((c.in-Some.ensures c.in-Some.style).0 refl)),
)

pub returns-in-Some-clause-ended : goal.returns-in-Some-clause-ended
returns-in-Some-clause-ended g c style asks =
    ended_as c.in-Some.style style _ _ _ _ (some_is c.in-Some.style style ((c.in-Some.ensures style).1 asks)) c.answer_whole.ensures.ended

pub returns-in-Some-clause-means : goal.returns-in-Some-clause-means
returns-in-Some-clause-means g c style asks =
    means_as c.in-Some.style style _ _ _ _ (some_is c.in-Some.style style ((c.in-Some.ensures style).1 asks)) c.answer_whole.ensures.means

pub returns-in-None-clause-words : goal.returns-in-None-clause-words
returns-in-None-clause-words g c = (λ unknown style asks. none_is_no_some style ((c.in-None.ensures style).1 asks), λ none. refl)

pub returns-in-None-clause-ended : goal.returns-in-None-clause-ended
returns-in-None-clause-ended g c style asks = absurd (none_is_no_some style ((c.in-None.ensures style).1 asks))

pub returns-in-None-clause-means : goal.returns-in-None-clause-means
returns-in-None-clause-means g c style asks = absurd (none_is_no_some style ((c.in-None.ensures style).1 asks))
