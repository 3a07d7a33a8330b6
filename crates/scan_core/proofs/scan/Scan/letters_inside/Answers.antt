-- Answers to the goals of `scan::Scan::letters_inside`.
use Rattle.std.proofs.Common.{ℕ, ◌%◌, ◌^◌, ◌++◌, [], ◌∷◌, length-append, ap, arith, refl, sym, ◌∙◌}
use Rattle.std.specs.Char.{is_ascii_alphabetic}
use Rattle.scan_core.proofs.RunFacts.{packed_push}
use Rattle.scan_core.proofs.Scans.{among_more, among_none, one_passed}
use Rattle.scan_core.proofs.scan.Scan.letters_inside.Goals as goal

pub loop-letter-init : goal.loop-letter-init
loop-letter-init g c = record {
  among = ([], among_none is_ascii_alphabetic c.args.self.now, refl, omega arith);
  room = c.requires.room;
  ticks = refl;
}

pub next_inside-requires : goal.next_inside-requires
next_inside-requires g c = omega (arith, c.loop-letter.invariant.room, c.in-Some.ensures.some.0)

pub loop-letter-preserved : goal.loop-letter-preserved
loop-letter-preserved g c =
    let some = c.loop-letter.invariant.among in
    let passed = one_passed c.in-Some.letter c.loop-letter.self c.next_inside.new.self c.in-Some.ensures.some.2 c.next_inside.ensures.passed
    in
    record {
      among = (
        some.0 ++ c.in-Some.letter ∷ [],
        among_more is_ascii_alphabetic some.0 c.args.self.now c.loop-letter.self c.next_inside.new.self c.in-Some.letter some.1
            c.in-Some.ensures.some.1 passed,
        c.with_letter-value.ensures _ some.2 ∙ ap (λ (n : ℕ). n % 2 ^ 64) (sym (packed_push some.0 c.in-Some.letter)),
        (let long = length-append some.0 (c.in-Some.letter ∷ []) in omega (arith, some.3, c.in-Some.ensures.some.0)),
      );
      room = omega (arith, c.loop-letter.invariant.room, c.next_inside.ensures.left, c.in-Some.ensures.some.0);
      ticks = omega (arith, c.next_inside.ensures.ticks, c.loop-letter.invariant.ticks);
    }

pub returns-clause-passed : goal.returns-clause-passed
returns-clause-passed g c =
    let some = c.loop-letter.invariant.among in
    (some.0, omega (arith, some.3), some.1.all, some.1.passed, some.2)
