-- Answers to the goals of the law `texts_are_ascii`.
use Rattle.internet_dates.proofs.AsciiTexts.{http_date_ascii, mail_date_ascii}
use Rattle.internet_dates.proofs.laws.texts_are_ascii.Goals as goal

pub returns : goal.returns
returns c = record { http = http_date_ascii; mail = mail_date_ascii }
