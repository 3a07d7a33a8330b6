-- Answers to the goals of `mail_date::fields`.
use Rattle.internet_dates.specs.MailDate.{IsMailDate}
use Rattle.internet_dates.specs.inside.Reading.{read_mail_date}
use Rattle.internet_dates.proofs.MailReading.{mail_sound, mail_exact}
use Rattle.internet_dates.proofs.Judging.{found_of, none_of}
use Rattle.internet_dates.proofs.mail_date.fields.Goals as goal

pub returns-clause-found : goal.returns-clause-found
returns-clause-found c = found_of c.read_fields.result (read_mail_date c.args.text.now) (IsMailDate c.args.text.now) c.read_fields.ensures
    (mail_sound c.args.text.now)

pub returns-clause-none : goal.returns-clause-none
returns-clause-none c = none_of c.read_fields.result (read_mail_date c.args.text.now) (IsMailDate c.args.text.now) c.read_fields.ensures
    (mail_exact c.args.text.now)
