-- Answers to the goals of `front::fraction_of`.
use Rattle.std.proofs.Common.{◌*◌, arith, ℕ, ◌∙◌, ap}
use Rattle.xsd_duration.proofs.NumberFacts.{cut_small, scaled}
use Rattle.xsd_duration.proofs.front.fraction_of.Goals as goal

-- so few digits write a small number
pub overflow_mul-result : goal.overflow_mul-result
overflow_mul-result c =
    let small = cut_small 1 c.args.digits.now c.requires.digits (omega arith) (omega arith) in
    record { fits = omega (arith, small, c.requires.number) }

pub overflow_mul-result-in-2 : goal.overflow_mul-result-in-2
overflow_mul-result-in-2 c =
    let small = cut_small 2 c.args.digits.now c.requires.digits (omega arith) (omega arith) in
    record { fits = omega (arith, small, c.requires.number) }

pub overflow_mul-result-in-3 : goal.overflow_mul-result-in-3
overflow_mul-result-in-3 c =
    let small = cut_small 3 c.args.digits.now c.requires.digits (omega arith) (omega arith) in
    record { fits = omega (arith, small, c.requires.number) }

pub overflow_mul-result-in-4 : goal.overflow_mul-result-in-4
overflow_mul-result-in-4 c =
    let small = cut_small 4 c.args.digits.now c.requires.digits (omega arith) (omega arith) in
    record { fits = omega (arith, small, c.requires.number) }

pub overflow_mul-result-in-5 : goal.overflow_mul-result-in-5
overflow_mul-result-in-5 c =
    let small = cut_small 5 c.args.digits.now c.requires.digits (omega arith) (omega arith) in
    record { fits = omega (arith, small, c.requires.number) }

pub returns-in-1 : goal.returns-in-1
returns-in-1 c = ap (λ (n : ℕ). n * 100_000) c.requires.number
    ∙ scaled 1 100_000 c.args.digits.now c.requires.digits (omega arith) (omega arith) (λ n. omega arith)

pub returns-in-2 : goal.returns-in-2
returns-in-2 c = ap (λ (n : ℕ). n * 10_000) c.requires.number
    ∙ scaled 2 10_000 c.args.digits.now c.requires.digits (omega arith) (omega arith) (λ n. omega arith)

pub returns-in-3 : goal.returns-in-3
returns-in-3 c = ap (λ (n : ℕ). n * 1_000) c.requires.number
    ∙ scaled 3 1_000 c.args.digits.now c.requires.digits (omega arith) (omega arith) (λ n. omega arith)

pub returns-in-4 : goal.returns-in-4
returns-in-4 c = ap (λ (n : ℕ). n * 100) c.requires.number
    ∙ scaled 4 100 c.args.digits.now c.requires.digits (omega arith) (omega arith) (λ n. omega arith)

pub returns-in-5 : goal.returns-in-5
returns-in-5 c = ap (λ (n : ℕ). n * 10) c.requires.number
    ∙ scaled 5 10 c.args.digits.now c.requires.digits (omega arith) (omega arith) (λ n. omega arith)

pub returns-in-6 : goal.returns-in-6
returns-in-6 c =
    let exact = scaled 6 1 c.args.digits.now c.requires.digits (omega arith) (omega arith) (λ n. omega arith) in
    omega (arith, c.requires.number, exact)
