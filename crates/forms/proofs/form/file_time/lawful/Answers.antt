-- Answers to the goals of `form::file_time::lawful`.
use Rattle.forms.proofs.FileTimes.{file_times}
use Rattle.forms.proofs.form.file_time.lawful.Goals as goal

pub returns : goal.returns
returns c = file_times c.texts_write_one_number.ensures.alone c.texts_write_one_number.ensures.digits c.texts_are_ascii.ensures
