-- Answers to the goals of `answer` of `request_lines::Requests`.
use Rattle.forms.proofs.WaitingTexts.{moved_then_put}
use Rattle.forms.proofs.request_lines.RequestsAnswersLines.answer.Goals as goal

pub returns-clause-ok : goal.returns-clause-ok
returns-clause-ok g c =
    let pushed = c.push_reply.ensures in
    (pushed.whole, pushed.reply, moved_then_put _ _ _ _ pushed.whole _ c.in_ok-make_room.ensures.ok pushed.pushed)
