-- Answers to the goals of `totals::Totals::fits`.
use Rattle.std.proofs.Common.{ap, refl, rules}
use Rattle.scan_core.specs.Sums.{Added}
use Rattle.scan_core.proofs.totals.Totals.fits.Goals as goal

pub returns-clause-fits : goal.returns-clause-fits
returns-clause-fits c =
    let months = ap (λ (sums : Added). sums.months) c.self.view_is in
    let days = ap (λ (sums : Added). sums.days) c.self.view_is in
    let micros = ap (λ (sums : Added). sums.micros) c.self.view_is in
    (λ _. (rw (← months) (search rules), rw (← days) (search rules), rw (← micros) (search rules)), λ _. refl)
