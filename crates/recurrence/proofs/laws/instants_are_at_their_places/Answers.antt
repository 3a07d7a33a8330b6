-- Answers to the goals of the law `instants_are_at_their_places`.
use Rattle.std.proofs.Common.{◌≡◌, ◌+◌, ℕ, Some, subst, arith}
use Rattle.recurrence.specs.Instants.{IsAt}
use Rattle.recurrence.proofs.SeriesLaws.{at_places}
use Rattle.recurrence.proofs.laws.instants_are_at_their_places.Goals as goal

pub returns : goal.returns
returns c start step last instants stop series k instant is =
    let here : 0 + k ≡ k = omega arith in
    subst (λ (n : ℕ). IsAt start step n (Some instant)) here (at_places start step 0 instants series.each k instant is)
