-- Answers to the goals of `breakdown::have_months_alone`.
use Rattle.std.proofs.Common.{arith}
use Rattle.std.proofs.lemmas.Bool.Decides.{nat_tests}
use Rattle.fancy_duration.proofs.MonthsAlone.{alone_by_seconds}
use Rattle.fancy_duration.proofs.breakdown.have_months_alone.Goals as goal

pub returns-then-below_years-month : goal.returns-then-below_years-month
returns-then-below_years-month c nanos below =
    let by = alone_by_seconds c.args.seconds nanos below in
    (λ e. by.0 (grind (arith, nat_tests), grind (arith, nat_tests)), λ alone. let parts = by.1 alone in grind (arith, nat_tests))

pub returns-else-below_years-month : goal.returns-else-below_years-month
returns-else-below_years-month c nanos below =
    let by = alone_by_seconds c.args.seconds nanos below in
    (λ e. absurd (grind (arith, nat_tests)), λ alone. let parts = by.1 alone in absurd (grind (arith, nat_tests)))
