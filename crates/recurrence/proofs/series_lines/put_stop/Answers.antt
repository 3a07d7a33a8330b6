-- Answers to the goals of `series_lines::put_stop`.
use Rattle.std.proofs.Common.{◌∙◌, ap, sym}
use Rattle.recurrence.specs.Replies.{stop_text}
use Rattle.std.proofs.lemmas.Result.{on_err_weaker}
use Rattle.recurrence.proofs.series_lines.put_stop.Goals as goal

pub returns-in-Some-clause-err : goal.returns-in-Some-clause-err
returns-in-Some-clause-err g c = on_err_weaker c.put_text.result
    (λ h. (_, c.as_str.ensures.value ∙ (c.stop_line-line.ensures.line ∙ ap stop_text (sym c.in-Some.is)), h)) c.put_text.ensures.err
