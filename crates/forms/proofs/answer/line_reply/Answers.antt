-- Answers to the goals of `answer::line_reply`.
use Rattle.std.proofs.Common.{◌++◌, List, ℕ, ap, sym, subst, ◌∙◌}
use Rattle.forms.specs.Replies.{IsReply}
use Rattle.forms.proofs.answer.line_reply.Goals as goal

pub returns-clause-reply : goal.returns-clause-reply
returns-clause-reply c =
    let reply = c.push_line_reply.ensures.reply in
    subst (IsReply c.args.line.now) (sym (reply.gained ∙ ap (λ (l : List ℕ). l ++ reply.text) c.new-out.ensures)) reply.is
