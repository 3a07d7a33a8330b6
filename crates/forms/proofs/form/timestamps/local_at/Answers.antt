-- Answers to the goals of `form::timestamps::local_at`.
use Rattle.std.proofs.Common.{rules, ap₂, ℕ, ℤ}
use Rattle.std.proofs.Math.Facts.{to_z-of_z}
use Rattle.pg_timestamp.specs.declared.value.Value.TheVariants.{Local}
use Rattle.forms.proofs.PgTimestamps.{same_parts}
use Rattle.forms.proofs.form.timestamps.local_at.Goals as goal

pub returns : goal.returns
returns c = same_parts _ _ _ _ _ c.whole.ensures (ap₂ (λ (d : ℤ) (m : ℕ). Local d m) (to_z-of_z c.ranges.day) (search rules)) (search rules)
