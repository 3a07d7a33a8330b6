-- Answers to the goals of `sample::summary::counts_of`.
use Rattle.std.proofs.Common.{sym, ◌∙◌, arith}
use Rattle.forms.proofs.SampleTold.{first_refused, first_answered, none_left}
use Rattle.forms.proofs.sample.summary.counts_of.Goals as goal

pub loop-reply-preserved-then-starts_with : goal.loop-reply-preserved-then-starts_with
loop-reply-preserved-then-starts_with c =
    let found = c.in-Some.ensures.found in
    let first = first_refused _ c.in-Some.reply.now c.in-Some.after.now found.0 found.1
    (sym c.starts_with.ensures.value ∙ c.if-starts_with.true) in
    let before = c.loop-reply.invariant in
    record {
      ok = omega (arith, before.ok, first.answer);
      refused = omega (arith, before.refused, first.refusal);
      room = omega (arith, before.room, first.shorter);
    }

pub loop-reply-preserved : goal.loop-reply-preserved
loop-reply-preserved c =
    let found = c.in-Some.ensures.found in
    let first = first_answered _ c.in-Some.reply.now c.in-Some.after.now found.0 found.1
    (sym c.starts_with.ensures.value ∙ c.if-starts_with.false) in
    let before = c.loop-reply.invariant in
    record {
      ok = omega (arith, before.ok, first.answer);
      refused = omega (arith, before.refused, first.refusal);
      room = omega (arith, before.room, first.shorter);
    }

pub returns-clause-ok : goal.returns-clause-ok
returns-clause-ok c = let none = none_left _ c.in_default.ensures.none in omega (arith, c.loop-reply.invariant.ok, none.0)

pub returns-clause-refused : goal.returns-clause-refused
returns-clause-refused c = let none = none_left _ c.in_default.ensures.none in omega (arith, c.loop-reply.invariant.refused, none.1)
