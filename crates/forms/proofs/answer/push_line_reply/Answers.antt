-- Answers to the goals of `answer::push_line_reply`.
use Rattle.std.proofs.Common.{codes, inl, refl}
use Rattle.forms.proofs.AsciiNames.{reply_of_names}
use Rattle.forms.proofs.answer.push_line_reply.Goals as goal

pub returns-in-None-clause-reply : goal.returns-in-None-clause-reply
returns-in-None-clause-reply g c = record {
  text = codes "refused Line";
  is = inl (c.in-None.ensures.none, refl);
  gained = c.push_refusal.ensures.bytes;
}

pub returns-in-Some-clause-reply : goal.returns-in-Some-clause-reply
returns-in-Some-clause-reply g c =
    let replied = c.push_text_reply.ensures.reply in
    record {
      text = replied.0;
      is = reply_of_names c.args.line.now c.in-Some.from c.in-Some.to c.in-Some.text.now replied.0 c.push_text_reply.result
          c.in-Some.ensures.found replied.1;
      gained = replied.2;
    }
