-- Answers to the goals of `form::http_mail::lawful`.
use Rattle.internet_dates.specs.HttpDate.{IsHttpDate}
use Rattle.internet_dates.specs.MailDate.{IsMailDate}
use Rattle.internet_dates.specs.Written.{http_date_text, mail_date_text}
use Rattle.forms.specs.declared.form.Form.TheVariants.{HttpDate, MailDate}
use Rattle.forms.proofs.InternetDates.{dates}
use Rattle.forms.proofs.form.http_mail.lawful.Goals as goal

pub returns-clause-http : goal.returns-clause-http
returns-clause-http c = dates HttpDate IsHttpDate http_date_text 0
    (record { reads = λ text a h. h; read = λ text a h. h; writes = λ value a h. h; written = λ value a h. h })
    c.a_text_has_one_reading.ensures.http c.a_moment_has_one_date.ensures c.a_written_text_spells_its_date.ensures.http
    c.civil_dates_are_calendar_dates.ensures.day c.texts_are_ascii.ensures.http

pub returns-clause-mail : goal.returns-clause-mail
returns-clause-mail c = dates MailDate IsMailDate mail_date_text 1900
    (record { reads = λ text a h. h; read = λ text a h. h; writes = λ value a h. h; written = λ value a h. h })
    c.a_text_has_one_reading.ensures.mail c.a_moment_has_one_date.ensures c.a_written_text_spells_its_date.ensures.mail
    c.civil_dates_are_calendar_dates.ensures.day c.texts_are_ascii.ensures.mail
