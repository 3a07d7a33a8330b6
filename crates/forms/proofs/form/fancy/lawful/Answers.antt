-- Answers to the goals of `form::fancy::lawful`.
use Rattle.forms.proofs.ShortDurations.{short_durations}
use Rattle.forms.proofs.form.fancy.lawful.Goals as goal

pub returns : goal.returns
returns c = short_durations c.texts_have_one_sum.ensures.one c.strict_texts_spell_their_sums.ensures c.written_texts_are_strict.ensures
    c.written_texts_are_read_back.ensures c.texts_are_ascii.ensures
