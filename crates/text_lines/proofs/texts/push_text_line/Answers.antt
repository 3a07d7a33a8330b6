-- Answers to the goals of `texts::push_text_line`.
use Rattle.std.proofs.Common.{◌++◌, codes, refl, inl, inr, rules, arith}
use Rattle.text_lines.proofs.LineParts.{answered_whole, put_three}
use Rattle.text_lines.proofs.texts.push_text_line.Goals as goal

pub returns-in-Some : goal.returns-in-Some
returns-in-Some c =
    let marked = c.push_mark-rest.ensures.mark in
    let replied = c.push_reply-refused.ensures.reply in (
      marked.0 ++ (replied.0 ++ codes "\r\n"),
      answered_whole c.args.from c.args.to c.args.first c.args.line.now marked.0 c.push_mark-rest.result.now c.in-Some.text.now
          (codes "\r\n") replied.0 c.push_reply-refused.result (search rules) marked.1 (inl (c.in-Some.ensures.found, refl)) replied.1,
      put_three _ _ _ _ marked.0 replied.0 (codes "\r\n") marked.2 replied.2 c.push_str.ensures.bytes,
    )

pub returns-in-None : goal.returns-in-None
returns-in-None c =
    let marked = c.push_mark-rest.ensures.mark in
    let replied = c.push_reply-refused-in-None.ensures.reply in (
      marked.0 ++ (replied.0 ++ codes "\n"),
      answered_whole c.args.from c.args.to c.args.first c.args.line.now marked.0 c.push_mark-rest.result.now c.push_mark-rest.result.now
          (codes "\n") replied.0 c.push_reply-refused-in-None.result (search rules) marked.1
          (inr (c.in-None.ensures.none, refl, refl)) replied.1,
      put_three _ _ _ _ marked.0 replied.0 (codes "\n") marked.2 replied.2 (c.push.ensures.ascii (omega arith)),
    )
