-- Answers to the goals of `scan::Scan::digits_inside`.
use Rattle.std.proofs.Common.{ℕ, ◌^◌, ◌++◌, [], ◌∷◌, length-append, arith, inl, refl, subst, sym}
use Rattle.std.specs.Char.{is_ascii_digit}
use Rattle.scan_core.specs.Runs.{Knows}
use Rattle.scan_core.proofs.RunFacts.{number_of_push}
use Rattle.scan_core.proofs.Scans.{among_more, among_none, one_passed}
use Rattle.scan_core.proofs.scan.Scan.digits_inside.Goals as goal

pub loop-digit-init : goal.loop-digit-init
loop-digit-init g c = record {
  among = ([], among_none is_ascii_digit c.args.self.now, inl refl, omega arith);
  room = c.requires.room;
  ticks = refl;
}

pub next_inside-requires : goal.next_inside-requires
next_inside-requires g c = omega (arith, c.loop-digit.invariant.room, c.in-Some.ensures.some.0)

pub loop-digit-preserved : goal.loop-digit-preserved
loop-digit-preserved g c =
    let some = c.loop-digit.invariant.among in
    let passed = one_passed c.in-Some.digit c.loop-digit.self c.next_inside.new.self c.in-Some.ensures.some.2 c.next_inside.ensures.passed
    in
    record {
      among = (
        some.0 ++ c.in-Some.digit ∷ [],
        among_more is_ascii_digit some.0 c.args.self.now c.loop-digit.self c.next_inside.new.self c.in-Some.digit some.1
            c.in-Some.ensures.some.1 passed,
        subst (λ (n : ℕ). Knows (10 ^ 18) c.with_digit-value.result n)
            (sym (number_of_push some.0 c.in-Some.digit c.in-Some.ensures.some.1)) (c.with_digit-value.ensures _ some.2),
        (let long = length-append some.0 (c.in-Some.digit ∷ []) in omega (arith, some.3, c.in-Some.ensures.some.0)),
      );
      room = omega (arith, c.loop-digit.invariant.room, c.next_inside.ensures.left, c.in-Some.ensures.some.0);
      ticks = omega (arith, c.next_inside.ensures.ticks, c.loop-digit.invariant.ticks);
    }

pub returns-clause-passed : goal.returns-clause-passed
returns-clause-passed g c =
    let some = c.loop-digit.invariant.among in
    (some.0, omega (arith, some.3), some.1.all, some.1.passed, some.2)
