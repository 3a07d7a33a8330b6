-- Answers to the goals of `form::iso_duration::lawful`.
use Rattle.forms.proofs.IsoDurations.{iso_durations}
use Rattle.forms.proofs.form.iso_duration.lawful.Goals as goal

pub returns : goal.returns
returns c = iso_durations c.a_text_has_one_value.ensures.duration c.a_written_text_spells_its_value.ensures.duration
    c.texts_are_ascii.ensures.duration
