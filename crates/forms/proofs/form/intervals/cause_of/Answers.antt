-- Answers to the goals of `form::intervals::cause_of`.
use Rattle.std.proofs.Common.{◌≡◌, true, false, sym, ◌∙◌}
use Rattle.pg_interval_2.specs.Styles.{IsBadPlace, not_in}
use Rattle.forms.proofs.Intervals.{error_says}
use Rattle.forms.proofs.form.intervals.cause_of.Goals as goal

pub returns-then-is_range : goal.returns-then-is_range
returns-then-is_range c style text refused =
    (error_says style (IsBadPlace style) (not_in style) text c.args.error.now refused).range (c.is_range.ensures.0 c.if-is_range.true)

pub returns-else-is_range : goal.returns-else-is_range
returns-else-is_range c style text refused =
    (error_says style (IsBadPlace style) (not_in style) text c.args.error.now refused).no_range
    (λ range. absurd (let clash : true ≡ false = sym (c.is_range.ensures.1 range) ∙ c.if-is_range.false in cc))
