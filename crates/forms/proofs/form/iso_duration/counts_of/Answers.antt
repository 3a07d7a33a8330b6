-- Answers to the goals of `form::iso_duration::counts_of`.
use Rattle.std.proofs.Common.{Ok, ap, sym, ◌∙◌, arith}
use Rattle.forms.proofs.IsoDurations.{counts_fit, counts_part, counts_beyond}
use Rattle.forms.proofs.form.iso_duration.counts_of.Goals as goal

pub returns-then-months-most : goal.returns-then-months-most
returns-then-months-most c = let beyond = c.if-months-most.true in
    sym (counts_beyond c.args.months c.args.days c.args.micros (λ y d h. omega arith))

pub returns-then-days-most : goal.returns-then-days-most
returns-then-days-most c = let beyond = c.if-days-most.true in sym
    (counts_beyond c.args.months c.args.days c.args.micros (λ y d h. omega arith))

pub returns-then-micros-most : goal.returns-then-micros-most
returns-then-micros-most c = let beyond = c.if-micros-most.true in
    sym (counts_beyond c.args.months c.args.days c.args.micros (λ y d h. omega arith))

pub returns-then-micros-ne0 : goal.returns-then-micros-ne0
returns-then-micros-ne0 c =
    let y = c.if-months-most.false in
    let d = c.if-days-most.false in
    let h = c.if-micros-most.false in
    sym (counts_part c.args.months c.args.days c.args.micros (omega arith) (omega arith) (omega arith) c.if-micros-ne0.true)

pub returns : goal.returns
returns c =
    let y = c.if-months-most.false in
    let d = c.if-days-most.false in
    let h = c.if-micros-most.false in
    ap Ok c.duration_of.ensures ∙ sym (counts_fit c.args.months c.args.days c.args.micros (omega arith) (omega arith)
    (omega arith) c.if-micros-ne0.false)
