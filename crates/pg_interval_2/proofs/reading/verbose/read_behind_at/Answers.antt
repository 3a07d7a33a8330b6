-- Answers to the goals of `reading::verbose::read_behind_at`.
use Rattle.std.proofs.Common.{Ok, ap, arith, refl}
use Rattle.std.proofs.lemmas.Bool.{false≢true}
use Rattle.scan_core.specs.Scanning.{Place, ahead, unseen}
use Rattle.pg_interval_2.proofs.VerboseReading.{front_reads, front_refuses, no_at, passed, passed_length, zero_answer}
use Rattle.pg_interval_2.proofs.reading.verbose.read_behind_at.Goals as goal

pub returns-then-not-next_if-clause-err : goal.returns-then-not-next_if-clause-err
returns-then-not-next_if-clause-err g c = (
  no_at c.args.front.now (ahead c.blanks.new.self) (rw (ap ahead c.new-scan.ensures.place) at c.blanks.ensures.rest)
      (c.if-not-next_if.ensures.other refl).1,
  refl,
)

pub returns-then-is_zero-clause-ok : goal.returns-then-is_zero-clause-ok
returns-then-is_zero-clause-ok g c =
    let p = passed c.args.front.now c.new-scan.result c.blanks.new.self c.next_if.new.self c.blanks-2.new.self c.new-scan.ensures.place
    c.blanks.ensures.passed (c.if-not-next_if.ensures.passed refl) c.blanks-2.ensures.passed c.blanks-2.ensures.rest in
    zero_answer c.args.front.now (ahead c.blanks-2.new.self) c.blanks-2.new.self.at c.args.ago (Ok c.new.result) p
    (c.if-is_zero.ensures.0 refl) (refl, c.new.ensures)

pub returns-clause-ok : goal.returns-clause-ok
returns-clause-ok g c =
    let p = passed c.args.front.now c.new-scan.result c.blanks.new.self c.next_if.new.self c.blanks-2.new.self c.new-scan.ensures.place
    c.blanks.ensures.passed (c.if-not-next_if.ensures.passed refl) c.blanks-2.ensures.passed c.blanks-2.ensures.rest in
    front_reads c.args.front.now (ahead c.blanks-2.new.self) c.blanks-2.new.self.at c.args.ago c.read_items.result p
    c.read_items.ensures.ok

pub returns-clause-err : goal.returns-clause-err
returns-clause-err g c =
    let p = passed c.args.front.now c.new-scan.result c.blanks.new.self c.next_if.new.self c.blanks-2.new.self c.new-scan.ensures.place
    c.blanks.ensures.passed (c.if-not-next_if.ensures.passed refl) c.blanks-2.ensures.passed c.blanks-2.ensures.rest in
    front_refuses c.args.front.now (ahead c.blanks-2.new.self) c.blanks-2.new.self.at c.args.ago c.read_items.result p c.requires
    (λ zero. false≢true (c.if-is_zero.ensures.1 zero)) c.read_items.ensures.err

pub returns-clause-most : goal.returns-clause-most
returns-clause-most g c =
    let p = passed c.args.front.now c.new-scan.result c.blanks.new.self c.next_if.new.self c.blanks-2.new.self c.new-scan.ensures.place
    c.blanks.ensures.passed (c.if-not-next_if.ensures.passed refl) c.blanks-2.ensures.passed c.blanks-2.ensures.rest in
    let shorter = passed_length c.args.front.now (ahead c.blanks-2.new.self) c.blanks-2.new.self.at p in
    let start = ap (λ (place : Place). unseen (ahead place)) c.new-scan.ensures.place in
    omega (
      arith,
      shorter,
      start,
      c.new-scan.ensures.ticks,
      c.blanks.ensures.ticks,
      c.next_if.ensures.ticks,
      c.blanks-2.ensures.ticks,
      c.read_items.ensures.spends.most,
    )
