-- Answers to the goals of `duration::timeforms_duration_from_text`.
use Rattle.std.proofs.Common.{ℕ, refl, sym, ap, subst, List}
use Rattle.fancy_duration.specs.Meanings.{Denotes}
use Rattle.timeforms_c.proofs.Answered.{not_ok, same_ok}
use Rattle.timeforms_c.proofs.duration.timeforms_duration_from_text.Goals as goal

pub returns-in-Ok-parse_to_ns-clause-done : goal.returns-in-Ok-parse_to_ns-clause-done
returns-in-Ok-parse_to_ns-clause-done c times utf8 strict denoted =
    let again = subst (λ (text : List ℕ). Denotes text times) (sym c.in-Ok.ensures.cases.0) denoted in
    let same = same_ok (c.in-Ok-parse_to_ns.whole, c.in-Ok-parse_to_ns.beyond) times (c.in-Ok-parse_to_ns.ensures.all times again) in
    (refl, ap (λ (pair : ℕ × ℕ). pair.0) same, ap (λ (pair : ℕ × ℕ). pair.1) same)

pub returns-in-Err-clause-done : goal.returns-in-Err-clause-done
returns-in-Err-clause-done c times utf8 strict denoted =
    let again = subst (λ (text : List ℕ). Denotes text times) (sym c.in-Ok.ensures.cases.0) denoted in
    absurd (not_ok times c.in-Err.field-0 (c.in-Err.ensures.all times again))
