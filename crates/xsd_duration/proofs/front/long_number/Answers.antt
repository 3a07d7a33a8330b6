-- Answers to the goals of `front::long_number`.
use Rattle.std.proofs.Common.{◌≡◌, ◌∙◌, rules}
use Rattle.scan_core.specs.Digits.{number_of}
use Rattle.xsd_duration.proofs.NumberFacts.{cut_above, cut_below}
use Rattle.xsd_duration.proofs.front.long_number.Goals as goal

pub returns-in-Some : goal.returns-in-Some
returns-in-Some c = let cut = cut_below c.args.digits.now (c.digits_u64.ensures.fits.0 (search rules)) in
    let value : c.in-Some.number ≡ number_of c.args.digits.now = search rules in
    value ∙ cut

pub returns-in-None : goal.returns-in-None
returns-in-None c = cut_above c.args.digits.now (λ h. let some = c.digits_u64.ensures.fits.1 h in search rules)
