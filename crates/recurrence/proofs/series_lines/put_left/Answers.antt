-- Answers to the goals of `series_lines::put_left`.
use Rattle.std.proofs.Common.{refl, ◌∙◌, subst, rules, FitsSigned, arith}
use Rattle.std.specs.Int.{w128}
use Rattle.std.proofs.Math.Facts.{to_z-of_z}
use Rattle.recurrence.specs.inside.Written.{AreWritable}
use Rattle.recurrence.specs.Replies.{IsInstantLine}
use Rattle.recurrence.proofs.Joined.{none_yet, one_more, all_put, fails_at, on_err}
use Rattle.recurrence.proofs.Texts.{have_texts}
use Rattle.recurrence.proofs.series_lines.put_left.Goals as goal

pub loop-instant-init : goal.loop-instant-init
loop-instant-init g c = record {
  so_far = none_yet IsInstantLine (g.K.Sink.held c.args.sink.now) c.args.batch.now.bytes c.args.series.now.left;
  writable = c.requires;
  stop = refl;
  later = omega arith;
}

pub put_instant-requires : goal.put_instant-requires
put_instant-requires g c =
    let f : FitsSigned w128 c.in-Some.instant = search rules in
    let writable = subst AreWritable c.in-Some.ensures.steps.0 c.loop-instant.invariant.writable in
    rw (to_z-of_z f) writable.0

pub loop-instant-preserved : goal.loop-instant-preserved
loop-instant-preserved g c =
    let f : FitsSigned w128 c.in-Some.instant = search rules in
    let steps = c.in-Some.ensures.steps in
    let writable = subst AreWritable steps.0 c.loop-instant.invariant.writable in
    record {
      so_far = one_more IsInstantLine _ _ _ _ _ _ _ _ _ c.in-Some.instant c.texts_keep_their_order.ensures steps.0
          c.loop-instant.invariant.so_far (rw (to_z-of_z f) at c.in_ok-put_instant.ensures.ok);
      writable = writable.1;
      stop = steps.1 ∙ c.loop-instant.invariant.stop;
      later = omega (arith, c.loop-instant.invariant.later, c.in_ok-put_instant.ensures.cause.later);
    }

pub returns-in_err-put_instant-clause-err : goal.returns-in_err-put_instant-clause-err
returns-in_err-put_instant-clause-err g c =
    let f : FitsSigned w128 c.in-Some.instant = search rules in
    let steps = c.in-Some.ensures.steps in
    let writable = subst AreWritable steps.0 c.loop-instant.invariant.writable in
    let rest = have_texts c.civil_dates_are_calendar_dates.ensures _ writable.1 in
    on_err _ c.from_residual.result (fails_at IsInstantLine _ _ _ _ _ _ _ _ c.in-Some.instant c.texts_keep_their_order.ensures steps.0
    rest.0 rest.1 c.loop-instant.invariant.so_far (rw (to_z-of_z f) at c.in_err-put_instant.ensures.err))

pub returns-clause-ok : goal.returns-clause-ok
returns-clause-ok g c = all_put IsInstantLine _ _ _ _ _ _ c.in_default.ensures.steps.0 c.loop-instant.invariant.so_far
