-- Answers to the goals of `form::xml_durations::lawful`.
use Rattle.forms.proofs.XmlDurations.{xml_durations}
use Rattle.forms.proofs.form.xml_durations.lawful.Goals as goal

pub returns : goal.returns
returns c = xml_durations c.a_text_has_one_reading.ensures.counts c.a_denoted_interval_is_in_range.ensures
    c.a_written_text_is_read_back.ensures c.texts_are_ascii.ensures
