-- Answers to the goals of `scan::Scan::more_blanks`.
use Rattle.std.proofs.Common.{arith, refl, [], ◌∷◌, ◌++◌}
use Rattle.scan_core.specs.Blanks.{is_blank}
use Rattle.scan_core.proofs.Scans.{all_passed, among_more, among_none, front_passed}
use Rattle.scan_core.proofs.scan.Scan.more_blanks.Goals as goal

pub loop-self-init : goal.loop-self-init
loop-self-init g c = record { among = ([], among_none is_blank c.args.self.now); ticks = refl }

pub loop-self-preserved : goal.loop-self-preserved
loop-self-preserved g c =
    let some = c.loop-self.invariant.among in
    record {
      among = (
        some.0 ++ c.in-Some.field-0 ∷ [],
        among_more is_blank some.0 c.args.self.now c.loop-self.self c.next.new.self
            c.in-Some.field-0 some.1 c.in-Some.ensures.some.0 (front_passed c.in-Some.field-0 c.next.result c.loop-self.self c.next.new.self
            c.next.ensures.front c.in-Some.ensures.some.1 c.next.ensures.some),
      );
      ticks = omega (arith, c.next.ensures.ticks, c.loop-self.invariant.ticks);
    }

pub returns-clause-rest : goal.returns-clause-rest
returns-clause-rest g c = (all_passed is_blank _ c.args.self.now _ c.loop-self.invariant.among.1 c.in_default.ensures.none).rest

pub returns-clause-passed : goal.returns-clause-passed
returns-clause-passed g c =
    let all = all_passed is_blank _ c.args.self.now _ c.loop-self.invariant.among.1 c.in_default.ensures.none in
    let front = all.front in
    rw front all.passed
