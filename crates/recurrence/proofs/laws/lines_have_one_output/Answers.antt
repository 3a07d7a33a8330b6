-- Answers to the goals of the law `lines_have_one_output`.
use Rattle.std.proofs.Common.{List, ℕ, [], ◌++◌, refl, sym, subst}
use Rattle.recurrence.specs.Replies.{AreReplies}
use Rattle.forms.specs.Lines.{lines}
use Rattle.recurrence.proofs.OneReply.{one_output}
use Rattle.recurrence.proofs.laws.lines_have_one_output.Goals as goal

pub returns-clause-alone : goal.returns-clause-alone
returns-clause-alone c = one_output c.parts_are_one.ensures (lines c.args.text.now)

pub loop-line-preserved : goal.loop-line-preserved
loop-line-preserved c = record {
  so_far = λ rest h.
      let reply = c.a_line_has_one_reply.ensures.some in
      c.loop-line.invariant.so_far (reply.0 ++ rest) (subst (λ (l : List (List ℕ)). AreReplies l (reply.0 ++ rest))
      (sym c.in-Some.ensures.lines) (reply.0, rest, reply.1, h, refl));
}

pub returns-clause-some : goal.returns-clause-some
returns-clause-some c = c.loop-line.invariant.so_far [] (subst (λ (l : List ℕ). AreReplies (lines l) [])
    (sym c.in_default.ensures.none) refl)
