-- Answers to the goals of `reading::numbers_in`.
use Rattle.std.proofs.Common.{ℕ, Bool, List, ◌∙◌, ap}
use Rattle.xsd_duration.specs.inside.Fronts.{unsigned_counted}
use Rattle.xsd_duration.proofs.Passes.{numbers_are}
use Rattle.xsd_duration.proofs.reading.numbers_in.Goals as goal

pub returns : goal.returns
returns c = c.split_unsigned.ensures ∙ ap (λ (r : Bool × List ℕ). unsigned_counted r.0 r.1) c.split_sign-negative.ensures
    ∙ numbers_are c.args.text.now
