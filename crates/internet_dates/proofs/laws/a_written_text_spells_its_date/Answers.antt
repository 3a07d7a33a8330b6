-- Answers to the goals of the law `a_written_text_spells_its_date`.
use Rattle.internet_dates.proofs.ReadBack.{http_spelled, mail_spelled}
use Rattle.internet_dates.proofs.laws.a_written_text_spells_its_date.Goals as goal

pub returns-clause-http : goal.returns-clause-http
returns-clause-http c = http_spelled

pub returns-clause-mail : goal.returns-clause-mail
returns-clause-mail c = mail_spelled
