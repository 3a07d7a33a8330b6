-- What is real and in range, what isn't real, and what is out of range: one answer.
use Rattle.std.proofs.Common.{◌≡◌, ◌⊎◌, Result, Ok, Err, sym, ◌∙◌, ap, subst, inl, inr}
use Rattle.forms.specs.declared.cause.Cause.{Cause}
use Rattle.forms.specs.declared.cause.Cause.TheVariants.{NoSuchMoment, Range}
use Rattle.forms.specs.declared.value.Value.{Value}
use Rattle.forms.specs.Answers.{Judged}
use Rattle.forms.specs.Values.{IsWithinBounds}

pub one_judged : (Real InRange : Type 0) (value : Value) (a b : Result Value Cause) → Judged Real InRange value a
    → Judged Real InRange value b → a ≡ b
one_judged Real InRange value a b (inl h) (inl k) = h.2 ∙ sym k.2
one_judged Real InRange value a b (inl h) (inr (inl k)) = absurd (k.0 h.0)
one_judged Real InRange value a b (inl h) (inr (inr k)) = absurd (k.1 h.1)
one_judged Real InRange value a b (inr (inl h)) (inl k) = absurd (h.0 k.0)
one_judged Real InRange value a b (inr (inl h)) (inr (inl k)) = h.1 ∙ sym k.1
one_judged Real InRange value a b (inr (inl h)) (inr (inr k)) = absurd (h.0 k.0)
one_judged Real InRange value a b (inr (inr h)) (inl k) = absurd (h.1 k.1)
one_judged Real InRange value a b (inr (inr h)) (inr (inl k)) = absurd (k.0 h.0)
one_judged Real InRange value a b (inr (inr h)) (inr (inr k)) = h.2 ∙ sym k.2

-- a value is within the bounds where it is so when it is real and in range
pub judged_within : (Real InRange : Type 0) (made value : Value) → (Real → InRange → IsWithinBounds made)
    → Judged Real InRange made (Ok value) → IsWithinBounds value
judged_within Real InRange made value bound (inl h) = let same : made ≡ value = (let e = h.2 in cc) in
    subst IsWithinBounds same (bound h.0 h.1)
judged_within Real InRange made value bound (inr (inl h)) = absurd (let e : Ok value ≡ Err NoSuchMoment = h.1 in cc)
judged_within Real InRange made value bound (inr (inr h)) = absurd (let e : Ok value ≡ Err Range = h.2 in cc)

-- what has no value is judged by whether it is real
pub judged_none : (Real InRange : Type 0) (made : Value) (cause : Cause) → (Real → InRange → ⊥)
    → (Real × (cause ≡ Range)) ⊎ ((Real → ⊥) × (cause ≡ NoSuchMoment)) → Judged Real InRange made (Err cause)
judged_none Real InRange made cause isnt (inl h) = inr (inr (h.0, isnt h.0, ap Err h.1))
judged_none Real InRange made cause isnt (inr h) = inr (inl (h.0, ap Err h.1))
