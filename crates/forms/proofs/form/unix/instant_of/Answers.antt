-- Answers to the goals of `form::unix::instant_of`.
use Rattle.std.proofs.Common.{Ok, arith, ap, sym, ◌∙◌, ◌≤◌, ◌^◌}
use Rattle.std.specs.Prelude.{ℤ}
use Rattle.std.proofs.lemmas.Int.{ints}
use Rattle.forms.specs.declared.value.Value.TheVariants.{Instant}
use Rattle.forms.proofs.UnixTimes.{worth_few, worth_many}
use Rattle.forms.proofs.form.unix.instant_of.Goals as goal

pub returns-then-nanos-le-MOST_NANOSECONDS : goal.returns-then-nanos-le-MOST_NANOSECONDS
returns-then-nanos-le-MOST_NANOSECONDS c =
    let tested = c.if-nanos-le-MOST_NANOSECONDS.true in
    let few : c.args.nanos ≤ 10 ^ 22 = omega arith in
    let is = c.with_sign.ensures in
    ap (λ (z : ℤ). Ok (Instant z)) (omega (arith, ints)) ∙ sym (worth_few c.args.negative c.args.nanos few)

pub returns-else-nanos-le-MOST_NANOSECONDS : goal.returns-else-nanos-le-MOST_NANOSECONDS
returns-else-nanos-le-MOST_NANOSECONDS c =
    let tested = c.if-nanos-le-MOST_NANOSECONDS.false in
    sym (worth_many c.args.negative c.args.nanos (omega arith))
