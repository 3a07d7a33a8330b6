-- Answers to the goals of `form::http_mail::date_at`.
use Rattle.std.proofs.Common.{rules, ◌≡◌, ℕ, ℤ, Result, subst}
use Rattle.internet_dates.specs.declared.date_time.DateTime.{DateTime}
use Rattle.forms.specs.declared.cause.Cause.{Cause}
use Rattle.forms.specs.form.InternetDates.{HoldsSecond}
use Rattle.forms.proofs.form.http_mail.date_at.Goals as goal

same_parts : (first : ℕ) (seconds other nanos later : ℤ) (held : Result DateTime Cause) → HoldsSecond first seconds nanos held
    → seconds ≡ other → nanos ≡ later → HoldsSecond first other later held
same_parts first seconds other nanos later held h second rest =
    subst (λ (z : ℤ). HoldsSecond first other z held) rest (subst (λ (z : ℤ). HoldsSecond first z nanos held) second h)

pub returns-clause-held : goal.returns-clause-held
returns-clause-held c = same_parts _ _ _ _ _ _ c.date_in_second.ensures.held (search rules) (search rules)
