-- Answers to the goals of `form::unix::lawful`.
use Rattle.forms.proofs.UnixTimes.{unix_times}
use Rattle.forms.proofs.form.unix.lawful.Goals as goal

pub returns : goal.returns
returns c = unix_times
