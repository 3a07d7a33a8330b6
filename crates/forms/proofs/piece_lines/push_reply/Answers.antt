-- Answers to the goals of `piece_lines::push_reply`.
use Rattle.std.proofs.Common.{◌++◌, arith, codes, refl, append_assoc}
use Rattle.forms.proofs.piece_lines.push_reply.Goals as goal

pub returns : goal.returns
returns c =
    let reply = c.push_line_reply.ensures.reply in
    record {
      whole = reply.text ++ codes "\n";
      reply = (reply.text, reply.is, refl);
      pushed = simp (c.push.ensures.ascii (omega arith), reply.gained, append_assoc) refl;
    }
