-- Answers to the goals of `form::timestamps::lawful`.
use Rattle.forms.proofs.PgTimestamps.{timestamps}
use Rattle.forms.proofs.form.timestamps.lawful.Goals as goal

pub returns : goal.returns
returns c = timestamps c.a_text_is_one_timestamp.ensures c.a_value_has_one_text.ensures c.texts_are_read_back.ensures
    c.texts_are_ascii.ensures
