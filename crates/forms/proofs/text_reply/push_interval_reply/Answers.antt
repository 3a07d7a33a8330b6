-- Answers to the goals of `text_reply::push_interval_reply`.
use Rattle.std.proofs.Common.{◌++◌, codes}
use Rattle.pg_interval_2.specs.Styles.{style_text}
use Rattle.forms.proofs.TextReplies.{interval_reply, no_interval_reply, refused_utf8}
use Rattle.forms.proofs.text_reply.push_interval_reply.Goals as goal

pub returns-in-Ok-clause-reply : goal.returns-in-Ok-clause-reply
returns-in-Ok-clause-reply g c =
    let answers = rw (c.of_bytes.ensures, c.in-Ok.is) at c.read-read.ensures.answers in (
      style_text c.args.to c.in-Ok.interval,
      interval_reply c.texts_are_of_one_alphabet.ensures c.args.from c.args.to c.args.text.now c.in-Ok.interval answers.ok,
      c.push_text.ensures.bytes,
    )

pub refusal-requires : goal.refusal-requires
refusal-requires g c =
    let answers = rw (c.of_bytes.ensures, c.in-Err.is) at c.read-read.ensures.answers in
    let found = c.cause_of.ensures c.args.from c.args.text.now answers.err in
    refused_utf8 c.texts_are_of_one_alphabet.ensures c.args.from c.args.text.now c.cause_of.result found

pub returns-in-Err-clause-reply : goal.returns-in-Err-clause-reply
returns-in-Err-clause-reply g c =
    let answers = rw (c.of_bytes.ensures, c.in-Err.is) at c.read-read.ensures.answers in
    let found = c.cause_of.ensures c.args.from c.args.text.now answers.err in (
      codes "refused " ++ c.refusal.result.now,
      no_interval_reply c.args.from c.args.to c.args.text.now c.cause_of.result c.refusal.result.now found c.refusal.ensures.word,
      c.push_refusal.ensures.bytes,
    )
