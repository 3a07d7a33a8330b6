-- Answers to the goals of `text_reply::push_text_reply`.
use Rattle.forms.proofs.text_reply.push_text_reply.Goals as goal

pub returns-in-Some-clause-reply : goal.returns-in-Some-clause-reply
returns-in-Some-clause-reply g c =
    let replied = c.push_interval_reply.ensures.reply in
    (replied.0, replied.1 c.args.from c.args.to c.in-Some.ensures.0 c.in-Some.ensures.1, replied.2)
