-- Answers to the goals of `Timestamp::value`.
use Rattle.std.proofs.Common.{◌≡◌, rules, FitsSigned, w32}
use Rattle.std.proofs.lemmas.Int.{to_z-of_z}
use Rattle.pg_timestamp.specs.Values.{IsRealTimestamp, IsWithinBounds, value_of}
use Rattle.pg_timestamp.proofs.ValueFacts.{no_number, not_within, within, worth}
use Rattle.pg_timestamp.proofs.timestamp.Timestamp.value.Goals as goal

pub returns-in-Err-clause-refusal : goal.returns-in-Err-clause-refusal
returns-in-Err-clause-refusal c = no_number c.years_and_weeks_follow_each_other.ensures.civil c.args.self.now c.in-Err.cause (search rules)
    c.in-Err.ensures

pub returns-then-not-is_within_bounds-clause-refusal : goal.returns-then-not-is_within_bounds-clause-refusal
returns-then-not-is_within_bounds-clause-refusal c =
    let f : FitsSigned w32 c.in-Ok.day = search rules in
    let real : IsRealTimestamp c.args.self.now = search rules in
    let made = simp to_z-of_z at c.value_at-value.ensures in
    let is : c.value_at-value.result ≡ value_of c.args.self.now = worth c.args.self.now c.in-Ok.day c.value_at-value.result made
    c.in-Ok.ensures.2 in
    let no : IsWithinBounds c.value_at-value.result → ⊥ = search rules in
    (real, not_within c.args.self.now c.value_at-value.result is no)

pub returns-clause-range : goal.returns-clause-range
returns-clause-range c =
    let f : FitsSigned w32 c.in-Ok.day = search rules in
    let made = simp to_z-of_z at c.value_at-value.ensures in
    let is : c.value_at-value.result ≡ value_of c.args.self.now = worth c.args.self.now c.in-Ok.day c.value_at-value.result made
    c.in-Ok.ensures.2 in
    let inside : IsWithinBounds c.value_at-value.result = search rules in
    within c.years_and_weeks_follow_each_other.ensures.civil c.args.self.now c.value_at-value.result is inside c.in-Ok.ensures.1

pub returns-clause-value : goal.returns-clause-value
returns-clause-value c =
    let f : FitsSigned w32 c.in-Ok.day = search rules in
    let made = simp to_z-of_z at c.value_at-value.ensures in
    worth c.args.self.now c.in-Ok.day c.value_at-value.result made c.in-Ok.ensures.2
