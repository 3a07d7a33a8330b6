-- Answers to the goals of `form::http_mail::push_http`.
use Rattle.internet_dates.specs.Written.{http_date_text}
use Rattle.forms.specs.form.InternetDates.{Holds}
use Rattle.forms.proofs.Putting.{puts_held, puts_none}
use Rattle.forms.proofs.form.http_mail.push_http.Goals as goal

pub returns-in-Ok-clause-answer : goal.returns-in-Ok-clause-answer
returns-in-Ok-clause-answer g c = puts_held (Holds 0) http_date_text c.args.value c.in-Ok.date _ _ c.in-Ok.ensures.held
    c.push_text.ensures.bytes

pub returns-in-Err-clause-answer : goal.returns-in-Err-clause-answer
returns-in-Err-clause-answer g c = puts_none (Holds 0) http_date_text c.args.value c.in-Err.cause _ c.in-Err.ensures.held
