-- Answers to the goals of `counted::take`.
use Rattle.std.proofs.Common.{◌≡◌, ℕ, List, refl, sym, ◌∙◌, drop}
use Rattle.iso8601.proofs.CountedFacts.{count_taken, count_other, count_none}
use Rattle.iso8601.proofs.counted.take.Goals as goal

at_mid : (n start at : ℕ) (text mid : List ℕ) → start ≡ at → text ≡ mid → let there : ℕ × List ℕ = (n, drop start text) in
    there ≡ (n, drop at mid)
at_mid n start at text mid p q = rw (p, q) refl

pub returns-then-next_if-clause-taken : goal.returns-then-next_if-clause-taken
returns-then-next_if-clause-taken g c =
    let number = sym (c.number_in.ensures c.args.scan.now.text c.requires.is_run) ∙ c.in-Some.is in
    let taken = count_taken c.args.unit c.args.run c.args.scan.now c.next_if.new.self c.in-Some.number c.requires number
    (c.next_if.ensures.passed c.if-next_if.true) in
    at_mid c.in-Some.number c.digits.result.start c.next_if.new.self.at c.digits.new.self.text c.next_if.new.self.text
    c.digits.ensures.start c.digits.ensures.passed.same ∙ sym taken

pub returns-else-next_if-clause-taken : goal.returns-else-next_if-clause-taken
returns-else-next_if-clause-taken g c =
    let number = sym (c.number_in.ensures c.args.scan.now.text c.requires.is_run) ∙ c.in-Some.is in
    let other = c.next_if.ensures.other c.if-next_if.false in
    rw other.0 (sym (count_other c.args.unit c.args.run c.args.scan.now c.in-Some.number c.requires number other.1))

pub returns-in-None-clause-taken : goal.returns-in-None-clause-taken
returns-in-None-clause-taken g c =
    let number = sym (c.number_in.ensures c.args.scan.now.text c.requires.is_run) ∙ c.in-None.is in
    sym (count_none c.args.unit c.args.run c.args.scan.now c.requires number)
