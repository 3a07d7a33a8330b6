-- Answers to the goals of `scan::Scan::letters`.
use Rattle.std.proofs.Common.{ℕ, ◌++◌, [], ◌∷◌, ◌%◌, ◌^◌, arith, ap, sym, ◌∙◌}
use Rattle.std.specs.Char.{is_ascii_alphabetic}
use Rattle.scan_core.specs.Runs.{Knows, packed}
use Rattle.scan_core.proofs.PackedFacts.{packed_known}
use Rattle.scan_core.proofs.RunFacts.{packed_push, word_passed}
use Rattle.scan_core.proofs.Scans.{all_passed, among_more, among_of, between_passed, front_passed}
use Rattle.scan_core.proofs.scan.Scan.letters.Goals as goal

pub loop-letter-init : goal.loop-letter-init
loop-letter-init g c =
    let some = c.first_letters-value.ensures.passed in
    record {
      among = (some.0, among_of is_ascii_alphabetic some.0 c.args.self.now c.first_letters-value.new.self some.2 some.3, some.4);
      ticks = c.first_letters-value.ensures.ticks;
    }

pub loop-letter-preserved : goal.loop-letter-preserved
loop-letter-preserved g c =
    let some = c.loop-letter.invariant.among in
    let more = among_more is_ascii_alphabetic some.0 c.args.self.now c.loop-letter.self c.next.new.self c.in-Some.letter some.1
    c.in-Some.ensures.some.0 (front_passed c.in-Some.letter c.next.result c.loop-letter.self c.next.new.self c.next.ensures.front
    c.in-Some.ensures.some.1 c.next.ensures.some) in
    record {
      among = (
        some.0 ++ c.in-Some.letter ∷ [],
        more,
        c.with_letter-value.ensures _ some.2
            ∙ ap (λ (n : ℕ). n % 2 ^ 64) (sym (packed_push some.0 c.in-Some.letter)),
      );
      ticks = omega (arith, c.next.ensures.ticks, c.loop-letter.invariant.ticks);
    }

pub returns-clause-word : goal.returns-clause-word
returns-clause-word g c =
    let passed = all_passed is_ascii_alphabetic _ c.args.self.now _ c.loop-letter.invariant.among.1 c.in_default.ensures.none in
    let start = c.at-start.ensures.place in
    let end = c.at.ensures.place in
    let value = c.loop-letter.invariant.among.2 in
    let known : Knows (2 ^ 56) c.loop-letter.value (packed c.loop-letter.invariant.among.0) = rw value
    (packed_known c.loop-letter.invariant.among.0 passed.all) in
    rw (start, end) (word_passed c.loop-letter.invariant.among.0 c.args.self.now c.loop-letter.self c.loop-letter.value passed.passed
    (omega (arith, c.at.ensures.within)) passed.all known)

pub returns-clause-front : goal.returns-clause-front
returns-clause-front g c =
    let passed = all_passed is_ascii_alphabetic _ c.args.self.now _ c.loop-letter.invariant.among.1 c.in_default.ensures.none in
    let start = c.at-start.ensures.place in
    let end = c.at.ensures.place in
    rw (start, end) (between_passed c.loop-letter.invariant.among.0 c.args.self.now c.loop-letter.self passed.passed ∙ sym passed.front)

pub returns-clause-rest : goal.returns-clause-rest
returns-clause-rest g c = (all_passed is_ascii_alphabetic _ c.args.self.now _ c.loop-letter.invariant.among.1
    c.in_default.ensures.none).rest

pub returns-clause-passed : goal.returns-clause-passed
returns-clause-passed g c = let passed = all_passed is_ascii_alphabetic _ c.args.self.now _ c.loop-letter.invariant.among.1
    c.in_default.ensures.none in let front = passed.front in rw front passed.passed
