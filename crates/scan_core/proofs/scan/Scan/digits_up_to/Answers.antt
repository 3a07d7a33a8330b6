-- Answers to the goals of `scan::Scan::digits_up_to`.
use Rattle.std.proofs.Common.{ℕ, ◌+◌, ◌++◌, [], ◌∷◌, ◌^◌, arith, inl, subst, sym, length-append, length, ◌≡◌, ◌⊎◌, ◌≤◌, List, inr, ◌∙◌}
use Rattle.std.specs.Char.{is_ascii_digit}
use Rattle.scan_core.specs.Runs.{Knows}
use Rattle.scan_core.proofs.RunFacts.{number_of_push, run_passed}
use Rattle.scan_core.proofs.Scans.{among_more, among_of, between_passed, front_passed, some_passed}
use Rattle.scan_core.proofs.scan.Scan.digits_up_to.Goals as goal

pub loop-digit-init : goal.loop-digit-init
loop-digit-init g c =
    let some = c.digits_to_end-value.ensures.passed in
    let start = c.at-start.ensures.place in
    let here = c.at.ensures.place in
    record {
      among = (
        some.0,
        among_of is_ascii_digit some.0 c.args.self.now c.digits_to_end-value.new.self some.2 some.3,
        some.4,
        omega (arith, some.1, some.3.at, start, here),
      );
      ticks = c.digits_to_end-value.ensures.ticks;
    }

pub loop-digit-preserved : goal.loop-digit-preserved
loop-digit-preserved g c =
    let some = c.loop-digit.invariant.among in
    let more = among_more is_ascii_digit some.0 c.args.self.now c.loop-digit.self c.next.new.self c.in-Some.digit some.1
    c.in-Some.ensures.some.1 (front_passed c.in-Some.digit c.next.result c.loop-digit.self c.next.new.self c.next.ensures.front
    c.in-Some.ensures.some.2 c.next.ensures.some) in
    record {
      among = (
        some.0 ++ c.in-Some.digit ∷ [],
        more,
        subst (λ (n : ℕ). Knows (10 ^ 18) c.with_digit-value.result n)
            (sym (number_of_push some.0 c.in-Some.digit c.in-Some.ensures.some.1)) (c.with_digit-value.ensures _ some.2),
        (let long = length-append some.0 (c.in-Some.digit ∷ []) in omega (arith, some.3, c.in-Some.ensures.some.0)),
      );
      ticks = omega (arith, c.next.ensures.ticks, c.loop-digit.invariant.ticks);
    }

stops : (bytes rest : List ℕ) (most left : ℕ) → length bytes + left ≡ most → (left ≡ 0) ⊎ (rest ≡ []) → (length bytes ≡ most)
    ⊎ ((length bytes ≤ most) × (rest ≡ []))
stops bytes rest most left h (inl none) = inl (omega arith)
stops bytes rest most left h (inr none) = inr (omega arith, none)

pub returns-clause-run : goal.returns-clause-run
returns-clause-run g c =
    let some = c.loop-digit.invariant.among in
    let start = c.at-start.ensures.place in
    let end = c.at-end.ensures.place in
    let within : c.loop-digit.self.at ≤ length c.loop-digit.self.text = omega (arith, c.at-end.ensures.within) in
    rw (start, end) (run_passed some.0 c.args.self.now c.loop-digit.self c.loop-digit.value some.1.passed within some.1.all some.2)

pub returns-clause-front : goal.returns-clause-front
returns-clause-front g c =
    let some = c.loop-digit.invariant.among in
    let start = c.at-start.ensures.place in
    let end = c.at-end.ensures.place in
    let front = some_passed is_ascii_digit some.0 c.args.self.now c.loop-digit.self c.args.most some.1
    (stops some.0 _ c.args.most c.loop-digit.left some.3 c.in_default.ensures.none) in
    rw (start, end) (between_passed some.0 c.args.self.now c.loop-digit.self some.1.passed ∙ sym front)

pub returns-clause-passed : goal.returns-clause-passed
returns-clause-passed g c =
    let some = c.loop-digit.invariant.among in
    let front = some_passed is_ascii_digit some.0 c.args.self.now c.loop-digit.self c.args.most some.1
    (stops some.0 _ c.args.most c.loop-digit.left some.3 c.in_default.ensures.none) in
    rw front some.1.passed
