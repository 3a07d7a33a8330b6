-- Answers to the goals of `scan::Scan::likely_digits`.
use Rattle.std.proofs.Common.{ℕ, ◌++◌, [], ◌∷◌, ◌^◌, arith, subst, sym, ◌∙◌}
use Rattle.std.specs.Char.{is_ascii_digit}
use Rattle.scan_core.specs.Runs.{Knows}
use Rattle.scan_core.proofs.RunFacts.{number_of_push, run_passed}
use Rattle.scan_core.proofs.Scans.{all_passed, among_more, among_of, between_passed, front_passed}
use Rattle.scan_core.proofs.scan.Scan.likely_digits.Goals as goal

pub loop-digit-init : goal.loop-digit-init
loop-digit-init g c =
    let some = c.first_digits-value.ensures.passed in
    record {
      among = (some.0, among_of is_ascii_digit some.0 c.args.self.now c.first_digits-value.new.self some.2 some.3, some.4);
      ticks = c.first_digits-value.ensures.ticks;
    }

pub loop-digit-preserved : goal.loop-digit-preserved
loop-digit-preserved g c =
    let some = c.loop-digit.invariant.among in
    let more = among_more is_ascii_digit some.0 c.args.self.now c.loop-digit.self c.next.new.self c.in-Some.digit some.1
    c.in-Some.ensures.some.0 (front_passed c.in-Some.digit c.next.result c.loop-digit.self c.next.new.self c.next.ensures.front
    c.in-Some.ensures.some.1 c.next.ensures.some) in
    record {
      among = (
        some.0 ++ c.in-Some.digit ∷ [],
        more,
        subst (λ (n : ℕ). Knows (10 ^ 18) c.with_digit-value.result n)
            (sym (number_of_push some.0 c.in-Some.digit c.in-Some.ensures.some.0)) (c.with_digit-value.ensures _ some.2),
      );
      ticks = omega (arith, c.next.ensures.ticks, c.loop-digit.invariant.ticks);
    }

pub returns-clause-run : goal.returns-clause-run
returns-clause-run g c =
    let passed = all_passed is_ascii_digit _ c.args.self.now _ c.loop-digit.invariant.among.1 c.in_default.ensures.none in
    let start = c.at-start.ensures.place in
    let end = c.at.ensures.place in
    rw (start, end) (run_passed c.loop-digit.invariant.among.0 c.args.self.now c.loop-digit.self c.loop-digit.value passed.passed
    (omega (arith, c.at.ensures.within)) passed.all c.loop-digit.invariant.among.2)

pub returns-clause-front : goal.returns-clause-front
returns-clause-front g c =
    let passed = all_passed is_ascii_digit _ c.args.self.now _ c.loop-digit.invariant.among.1 c.in_default.ensures.none in
    let start = c.at-start.ensures.place in
    let end = c.at.ensures.place in
    rw (start, end) (between_passed c.loop-digit.invariant.among.0 c.args.self.now c.loop-digit.self passed.passed ∙ sym passed.front)

pub returns-clause-rest : goal.returns-clause-rest
returns-clause-rest g c = (all_passed is_ascii_digit _ c.args.self.now _ c.loop-digit.invariant.among.1 c.in_default.ensures.none).rest

pub returns-clause-passed : goal.returns-clause-passed
returns-clause-passed g c = let passed = all_passed is_ascii_digit _ c.args.self.now _ c.loop-digit.invariant.among.1
    c.in_default.ensures.none in let front = passed.front in rw front passed.passed
