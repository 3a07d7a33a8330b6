-- Answers to the goals of `http_date::moment_of`.
use Rattle.std.proofs.Common.{sym, ◌∙◌}
use Rattle.internet_dates.specs.HttpDate.{IsHttpDate}
use Rattle.internet_dates.proofs.HttpReading.{http_sound, http_exact}
use Rattle.internet_dates.proofs.Judging.{read_as}
use Rattle.internet_dates.proofs.http_date.moment_of.Goals as goal

pub returns-in-Some : goal.returns-in-Some
returns-in-Some c = read_as IsHttpDate 0 c.args.text.now c.in-Some.t c.judged.result
    (http_sound c.args.text.now c.in-Some.t (sym c.in-Some.ensures)) c.judged.ensures.syntax
    c.judged.ensures.ok c.judged.ensures.unreal c.judged.ensures.range

pub returns-in-None : goal.returns-in-None
returns-in-None c = λ t spelled. absurd (let found = sym c.in-None.is ∙ (c.read_fields.ensures ∙ http_exact c.args.text.now t spelled) in cc)
