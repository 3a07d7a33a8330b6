-- Answers to the goals of `form::unix::push`.
use Rattle.std.proofs.Common.{◌≡◌, ◌++◌, ◌∙◌, ap, arith, to_z, of_z}
use Rattle.std.specs.Prelude.{ℤ}
use Rattle.std.specs.Int.{w128}
use Rattle.std.proofs.lemmas.Int.{ints}
use Rattle.forms.specs.Answers.{Is}
use Rattle.forms.specs.form.Unix.{held, unix_text}
use Rattle.forms.proofs.Putting.{puts_held, puts_none}
use Rattle.forms.proofs.form.unix.push.Goals as goal

pub returns-in-Ok-clause-answer : goal.returns-in-Ok-clause-answer
returns-in-Ok-clause-answer g c =
    let within = c.in-Ok.ensures.within in
    let same : to_z w128 (of_z w128 c.in-Ok.nanos) ≡ c.in-Ok.nanos = omega (arith, ints) in
    puts_held (Is held) unix_text c.args.value c.in-Ok.nanos c.args.out.now.bytes c.push_instant.new.out.bytes c.in-Ok.ensures.held
    (c.push_instant.ensures.bytes ∙ ap (λ (z : ℤ). c.args.out.now.bytes ++ unix_text z) same)

pub returns-in-Err-clause-answer : goal.returns-in-Err-clause-answer
returns-in-Err-clause-answer g c = puts_none (Is held) unix_text c.args.value c.in-Err.cause _ c.in-Err.ensures.held
