-- Answers to the goals of `output::put_intervals`.
use Rattle.std.proofs.Common.{[], sym, arith}
use Rattle.interval_column.specs.Output.{interval_line}
use Rattle.interval_column.specs.declared.ranked.Ranked.{Ranked}
use Rattle.interval_column.proofs.Putting.{on_err, put_more, put_all, put_fails, over_map, moves_as, fails_as, no_more}
use Rattle.interval_column.proofs.output.put_intervals.Goals as goal

pub returns-in_err-put_interval-clause-err : goal.returns-in_err-put_interval-clause-err
returns-in_err-put_interval-clause-err g c =
    on_err _ c.from_residual.result
    (fails_as _ _ c.args.batch.now.bytes _ _ (sym (over_map (interval_line c.args.style []) (λ (r : Ranked). r.interval) c.args.ranks.now))
    (put_fails c.waiting_texts_keep_their_order.ensures.next_fails
    (λ (r : Ranked). interval_line c.args.style [] r.interval) c.args.ranks.now _ _ _ c.args.batch.now.bytes c.loop-ranked.batch.bytes
    c.loop-ranked.ranked-index c.ranked-item.result c.loop-ranked.invariant.put c.loop-ranked-test.true c.ranked-item.is
    c.in_err-put_interval.ensures.err))

pub loop-ranked-preserved : goal.loop-ranked-preserved
loop-ranked-preserved g c = record {
  put = put_more c.waiting_texts_keep_their_order.ensures.next (λ (r : Ranked). interval_line c.args.style [] r.interval) c.args.ranks.now _
      _ _ c.args.batch.now.bytes c.loop-ranked.batch.bytes _ c.loop-ranked.ranked-index c.ranked-item.result c.loop-ranked.invariant.put
      c.loop-ranked-test.true c.ranked-item.is c.in_ok-put_interval.ensures.ok;
  later = let before = c.loop-ranked.invariant.later in let now = c.in_ok-put_interval.ensures.cause.later in omega (arith, before, now);
}

pub returns-clause-ok : goal.returns-clause-ok
returns-clause-ok g c =
    moves_as _ _ c.args.batch.now.bytes _ _ c.loop-ranked.batch.bytes
    (sym (over_map (interval_line c.args.style []) (λ (r : Ranked). r.interval) c.args.ranks.now))
    (put_all (λ (r : Ranked). interval_line c.args.style [] r.interval) c.args.ranks.now _ _ c.args.batch.now.bytes
    c.loop-ranked.batch.bytes c.loop-ranked.ranked-index c.loop-ranked.invariant.put
    (no_more c.args.ranks.now c.loop-ranked.ranked-index (let end = c.loop-ranked-test.false in omega (arith, end))))
