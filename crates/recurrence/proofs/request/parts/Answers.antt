-- Answers to the goals of `request::parts`.
use Rattle.std.proofs.Common.{◌≡◌, List, ℕ, sym, subst, length, ◌<◌, ◌∙◌, rules}
use Rattle.scan_core.specs.Digits.{AreDigits}
use Rattle.recurrence.proofs.Asking.{digits_no_slash, one_split, same_rest, unsplit}
use Rattle.recurrence.proofs.request.parts.Goals as goal

pub returns-in_err-digits-clause-none : goal.returns-in_err-digits-clause-none
returns-in_err-digits-clause-none c =
    rw c.from_residual-in_err-digits.ensures (λ digits start step h. unsplit 47 c.in_ok-rest.rest.now digits _ c.in_err-digits.ensures.none
    (same_rest c.args.text.now c.in_ok-rest.rest.now digits start step c.in_ok-rest.ensures.found h))

pub returns-in_err-start-clause-none : goal.returns-in_err-start-clause-none
returns-in_err-start-clause-none c =
    rw c.from_residual-in_err-start.ensures (λ digits start step h.
    let split = c.in_ok-digits.ensures.found in
    let both = one_split 47 c.in_ok-digits.digits.now c.in_ok-digits.tail.now digits _ split.first (digits_no_slash digits h.digits_alone)
    (sym split.joined ∙ same_rest c.args.text.now c.in_ok-rest.rest.now digits start step c.in_ok-rest.ensures.found h) in
    unsplit 47 c.in_ok-digits.tail.now start step c.in_err-start.ensures.none both.1)

pub returns-else-are_digits-clause-none : goal.returns-else-are_digits-clause-none
returns-else-are_digits-clause-none c digits start step h =
    let split = c.in_ok-digits.ensures.found in
    let both = one_split 47 c.in_ok-digits.digits.now c.in_ok-digits.tail.now digits _ split.first (digits_no_slash digits h.digits_alone)
    (sym split.joined ∙ same_rest c.args.text.now c.in_ok-rest.rest.now digits start step c.in_ok-rest.ensures.found h) in
    let same : c.as_bytes.result.now ≡ digits = c.as_bytes.ensures.value ∙ both.0 in
    let is = c.are_digits.ensures.1 (subst (λ (l : List ℕ). 0 < length l) (sym same) h.some, subst AreDigits (sym same) h.digits_alone) in
    search rules
