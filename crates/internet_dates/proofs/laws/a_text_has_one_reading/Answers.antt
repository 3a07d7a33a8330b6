-- Answers to the goals of the law `a_text_has_one_reading`.
use Rattle.internet_dates.proofs.HttpReading.{one_http_date}
use Rattle.internet_dates.proofs.MailReading.{one_mail_date}
use Rattle.internet_dates.proofs.laws.a_text_has_one_reading.Goals as goal

pub returns-clause-http : goal.returns-clause-http
returns-clause-http c = one_http_date

pub returns-clause-mail : goal.returns-clause-mail
returns-clause-mail c = one_mail_date
