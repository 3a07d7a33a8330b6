-- The parsers of ISO 8601 take the longest prefix: a whole text is in a grammar exactly where nothing is left behind it.
use Rattle.std.proofs.Common.{◌≡◌, ℕ, ◌==◌, Bool, true, false, List, [], ◌++◌, length, Err, refl, sym, ◌∙◌, ap, subst, inl, inr, append-nil}
use Rattle.std.proofs.Common.{arith}
use Rattle.std.specs.Prelude.{Result}
use Rattle.std.proofs.lemmas.Bool.Decides.{nat_tests}
use Rattle.std.proofs.lemmas.List.{nil_from_length}
use Rattle.iso8601.specs.Prefixes.{Begins, NoneLonger, NoneBegins}
use Rattle.forms.specs.declared.cause.Cause.{Cause}
use Rattle.forms.specs.declared.cause.Cause.TheVariants.{Syntax}
use Rattle.forms.specs.declared.value.Value.{Value}
use Rattle.forms.specs.Answers.{ReadsBy}

whole : {V : Type 0} (Spells : List ℕ → V → Type 0) (text rest : List ℕ) (value : V) → Begins Spells text value rest → length rest ≡ 0
    → Spells text value
whole {V} Spells text rest value h none =
    let P : List ℕ → Type 0 = λ l. Spells l value in
    let same : h.0 ≡ text = sym (h.2 ∙ (ap (λ (l : List ℕ). h.0 ++ l) (nil_from_length rest none) ∙ append-nil h.0)) in
    subst P same h.1

is_none : (n : ℕ) (test : Bool) → test ≡ (n == 0) → test ≡ true → n ≡ 0
is_none n test e h = let zero : (n == 0) ≡ true = sym e ∙ h in grind (arith, nat_tests)

is_some : (n : ℕ) (test : Bool) → test ≡ (n == 0) → test ≡ false → n ≡ 0 → ⊥
is_some n test e h = let some : (n == 0) ≡ false = sym e ∙ h in grind (arith, nat_tests)

-- a text that is read whole
pub reads_whole : {V : Type 0} (Spells : List ℕ → V → Type 0) (Worth : V → Result Value Cause → Type 0) (text rest : List ℕ)
    (value : V) (answer : Result Value Cause) (empty : Bool) → Begins Spells text value rest → empty ≡ (length rest == 0)
    → empty ≡ true → Worth value answer → ReadsBy Spells Worth text answer
reads_whole Spells Worth text rest value answer empty h test none worth =
    inl (value, whole Spells text rest value h (is_none (length rest) empty test none), worth)

-- a text with something left behind the longest prefix
pub reads_part : {V : Type 0} (Spells : List ℕ → V → Type 0) (Worth : V → Result Value Cause → Type 0) (text rest : List ℕ)
    (empty : Bool) → NoneLonger Spells text rest → empty ≡ (length rest == 0) → empty ≡ false
    → ReadsBy Spells Worth text (Err Syntax)
reads_part Spells Worth text rest empty longest test some =
    let none_left = is_some (length rest) empty test some in
    inr (λ value spelled. let less = longest value [] (text, spelled, sym (append-nil text)) in none_left (omega arith), refl)

-- a text without a prefix in the grammar
pub reads_no_front : {V : Type 0} (Spells : List ℕ → V → Type 0) (Worth : V → Result Value Cause → Type 0) (text : List ℕ)
    → NoneBegins Spells text → ReadsBy Spells Worth text (Err Syntax)
reads_no_front Spells Worth text none = inr (λ value spelled. none value [] (text, spelled, sym (append-nil text)), refl)
