-- Answers to the goals of `http_date::fields`.
use Rattle.internet_dates.specs.HttpDate.{IsHttpDate}
use Rattle.internet_dates.specs.inside.Reading.{read_http_date}
use Rattle.internet_dates.proofs.HttpReading.{http_sound, http_exact}
use Rattle.internet_dates.proofs.Judging.{found_of, none_of}
use Rattle.internet_dates.proofs.http_date.fields.Goals as goal

pub returns-clause-found : goal.returns-clause-found
returns-clause-found c = found_of c.read_fields.result (read_http_date c.args.text.now) (IsHttpDate c.args.text.now) c.read_fields.ensures
    (http_sound c.args.text.now)

pub returns-clause-none : goal.returns-clause-none
returns-clause-none c = none_of c.read_fields.result (read_http_date c.args.text.now) (IsHttpDate c.args.text.now) c.read_fields.ensures
    (http_exact c.args.text.now)
