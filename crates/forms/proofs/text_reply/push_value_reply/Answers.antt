-- Answers to the goals of `text_reply::push_value_reply`.
use Rattle.std.proofs.Common.{◌++◌, codes, Ok, Err, refl}
use Rattle.forms.specs.ReadBack.{Turns}
use Rattle.forms.proofs.Putting.{gains, refuses}
use Rattle.forms.proofs.TextReplies.{refused_reply, same_cause, turned_reply, turned_utf8}
use Rattle.forms.proofs.text_reply.push_value_reply.Goals as goal

pub returns-in-Ok-clause-reply : goal.returns-in-Ok-clause-reply
returns-in-Ok-clause-reply g c =
    let all = gains (Turns c.args.from c.args.to c.args.text.now) _ _ c.in-Ok.ensures.turned in
    let answer = (c.answers_are_readings_written.ensures c.args.from c.args.to c.args.text.now (Ok all.text)).1 all.is in
    (all.text, turned_reply c.texts_are_ascii.ensures c.args.from c.args.to c.args.text.now all.text all.is answer, all.gained)

pub refusal-requires : goal.refusal-requires
refusal-requires g c other =
    let none = refuses (Turns c.args.from c.args.to c.args.text.now) _ _ c.in-Err.cause c.in-Err.ensures.turned in
    turned_utf8 c.texts_are_ascii.ensures c.args.from c.args.to c.args.text.now (Err c.in-Err.cause) none.0
    (λ e. other (same_cause c.in-Err.cause _ e))

pub returns-in-Err-clause-reply : goal.returns-in-Err-clause-reply
returns-in-Err-clause-reply g c =
    let none = refuses (Turns c.args.from c.args.to c.args.text.now) _ _ c.in-Err.cause c.in-Err.ensures.turned in
    let answer = (c.answers_are_readings_written.ensures c.args.from c.args.to c.args.text.now (Err c.in-Err.cause)).1 none.0 in (
      codes "refused " ++ c.refusal.result.now,
      refused_reply c.args.from c.args.to c.args.text.now c.in-Err.cause c.refusal.result.now answer c.refusal.ensures.word,
      simp (c.push_refusal.ensures.bytes, none.1) refl,
    )
