-- Answers to the goals of the law `a_written_moment_is_read_back`.
use Rattle.internet_dates.specs.HttpDate.{IsHttpDate}
use Rattle.internet_dates.specs.MailDate.{IsMailDate}
use Rattle.internet_dates.specs.Written.{http_date_text, mail_date_text}
use Rattle.internet_dates.proofs.HttpReading.{one_http_date}
use Rattle.internet_dates.proofs.MailReading.{one_mail_date}
use Rattle.internet_dates.proofs.ReadBack.{http_spelled, mail_spelled, moment_back}
use Rattle.internet_dates.proofs.laws.a_written_moment_is_read_back.Goals as goal

pub returns-clause-http : goal.returns-clause-http
returns-clause-http c = λ seconds t answer at read. moment_back IsHttpDate one_http_date 0 seconds t (http_date_text t) answer
    (http_spelled t at.real at.named at.utc) at read

pub returns-clause-mail : goal.returns-clause-mail
returns-clause-mail c = λ seconds t answer at read. moment_back IsMailDate one_mail_date 1900 seconds t (mail_date_text t) answer
    (mail_spelled t at.real at.named at.utc) at read
