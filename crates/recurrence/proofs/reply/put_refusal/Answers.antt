-- Answers to the goals of `reply::put_refusal`.
use Rattle.std.proofs.Common.{◌∙◌}
use Rattle.std.proofs.lemmas.Result.{on_ok_weaker, on_err_weaker}
use Rattle.recurrence.proofs.reply.put_refusal.Goals as goal

pub returns-clause-ok : goal.returns-clause-ok
returns-clause-ok g c = on_ok_weaker c.put_text.result (λ h. (_, c.as_str.ensures.value ∙ c.refusal_line-line.ensures.line, h))
    c.put_text.ensures.ok

pub returns-clause-err : goal.returns-clause-err
returns-clause-err g c = on_err_weaker c.put_text.result (λ h. (_, c.as_str.ensures.value ∙ c.refusal_line-line.ensures.line, h))
    c.put_text.ensures.err
