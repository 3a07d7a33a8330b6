-- Answers to the goals of the law `strict_texts_spell_their_sums`.
use Rattle.fancy_duration.proofs.SpelledTexts.{spelled_strict, spelled_sum, strict_spelled}
use Rattle.fancy_duration.proofs.laws.strict_texts_spell_their_sums.Goals as goal

pub returns : goal.returns
returns c text nanos = ((λ h. (spelled_strict text nanos h, spelled_sum text nanos h)), (λ h. strict_spelled text nanos h.0 h.1))
