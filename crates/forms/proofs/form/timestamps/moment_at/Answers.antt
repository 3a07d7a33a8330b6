-- Answers to the goals of `form::timestamps::moment_at`.
use Rattle.std.proofs.Common.{rules, ap, ℤ}
use Rattle.pg_timestamp.specs.declared.value.Value.TheVariants.{Moment}
use Rattle.forms.proofs.PgTimestamps.{same_parts}
use Rattle.forms.proofs.form.timestamps.moment_at.Goals as goal

pub returns : goal.returns
returns c = same_parts _ _ _ _ _ c.whole.ensures (ap (λ (z : ℤ). Moment z) (search rules)) (search rules)
