-- Answers to the goals of `text_reply::is_utf8`.
use Rattle.std.proofs.lemmas.Str.{IsUtf8-from_ascii}
use Rattle.forms.proofs.text_reply.is_utf8.Goals as goal

pub returns-then-is_ascii : goal.returns-then-is_ascii
returns-then-is_ascii c = (λ _. IsUtf8-from_ascii c.args.text.now c.if-is_ascii.ensures.cases, λ _. c.if-is_ascii.true)
