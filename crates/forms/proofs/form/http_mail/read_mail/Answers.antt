-- Answers to the goals of `form::http_mail::read_mail`.
use Rattle.std.proofs.Common.{Result, subst, sym}
use Rattle.internet_dates.specs.MailDate.{IsMailDate}
use Rattle.forms.specs.declared.cause.Cause.{Cause}
use Rattle.forms.specs.declared.value.Value.{Value}
use Rattle.forms.specs.Answers.{ReadsBy}
use Rattle.forms.specs.form.InternetDates.{Worth}
use Rattle.forms.proofs.InternetDates.{reads}
use Rattle.forms.proofs.form.http_mail.read_mail.Goals as goal

pub returns : goal.returns
returns c =
    subst (λ (a : Result Value Cause). ReadsBy IsMailDate (Worth 1900) c.args.text.now a) (sym c.answered.ensures)
    (reads IsMailDate 1900 c.args.text.now c.read.result c.read.ensures)
