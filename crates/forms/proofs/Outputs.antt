-- Outputs behind outputs, and fronts of them.
use Rattle.std.proofs.Common.{◌≡◌, ℕ, List, [], ◌∷◌, ◌++◌, Option, refl, sym, ◌∙◌, ap, subst, append_assoc, append-nil}
use Rattle.std.proofs.KnownBytes.{Appends-trans}
use Rattle.std.specs.Io.KnownBytes.{Appends}
use Rattle.forms.specs.Outside.{AppendsFront}
use Rattle.forms.specs.Outputs.{AreOutputs, GainsOutputs, GainsOutputsFront}

pub outputs_append : {A : Type 0} (Says : A → List ℕ → List ℕ → A → Type 0) (s t u : A) (xs ys : List (List ℕ)) (a b : List ℕ)
    → AreOutputs Says s xs a t → AreOutputs Says t ys b u
    → AreOutputs Says s (xs ++ ys) (a ++ b) u
outputs_append {A} Says s t u [] ys a b h k =
    subst (λ (l : List ℕ). AreOutputs Says s ys (l ++ b) u) (sym h.0) (subst (λ (m : A). AreOutputs Says m ys b u) h.1 k)
outputs_append {A} Says s t u (x ∷ xs) ys a b h k =
    (h.0, h.1 ++ b, h.2, h.3, outputs_append Says h.2 t u xs ys h.1 b h.4 k, ap (λ (l : List ℕ). l ++ b) h.5 ∙ append_assoc h.0 h.1 b)

pub outputs_push : {A : Type 0} (Says : A → List ℕ → List ℕ → A → Type 0) (s t u : A) (xs : List (List ℕ)) (line a text : List ℕ)
    → AreOutputs Says s xs a t → Says t line text u
    → AreOutputs Says s (xs ++ line ∷ []) (a ++ text) u
outputs_push Says s t u xs line a text h k =
    outputs_append Says s t u xs (line ∷ []) a text h (text, [], u, k, (refl, refl), sym (append-nil text))

-- what was written and a front of what waits is a front of the outputs
pub front_at : {A : Type 0} (Says : A → List ℕ → List ℕ → A → Type 0) (s t : A) (all xs others : List (List ℕ)) (written waits : List ℕ)
    (a b c : Option (List ℕ))
    → AreOutputs Says s xs (written ++ waits) t → all ≡ xs ++ others → Appends a b written → AppendsFront b c waits
    → GainsOutputsFront Says s all a c
front_at Says s t all xs others written waits a b c h split gained f =
    let same : written ++ waits ≡ (written ++ f.front) ++ f.back = ap (λ (l : List ℕ). written ++ l) f.split
    ∙ sym (append_assoc written f.front f.back) in (
      written ++ f.front,
      record {
        answered = xs;
        others = others;
        back = f.back;
        last = t;
        split = split;
        outputs = subst (λ (l : List ℕ). AreOutputs Says s xs l t) same h;
      },
      Appends-trans a b c written f.front gained f.written,
    )

-- what was written, what waits and the next output
pub next_same : (written before text front after : List ℕ) → before ++ text ≡ front ++ after
    → (written ++ before) ++ text ≡ (written ++ front) ++ after
next_same written before text front after split =
    append_assoc written before text ∙ (ap (λ (l : List ℕ). written ++ l) split ∙ sym (append_assoc written front after))

pub gains-more : {A : Type 0} (Says : A → List ℕ → List ℕ → A → Type 0) (s t u : A) (xs ys : List (List ℕ)) (a b c : Option (List ℕ))
    → GainsOutputs Says s xs t a b → GainsOutputs Says t ys u b c
    → GainsOutputs Says s (xs ++ ys) u a c
gains-more Says s t u xs ys a b c h k = (h.0 ++ k.0, outputs_append Says s t u xs ys h.0 k.0 h.1 k.1, Appends-trans a b c h.0 k.0 h.2 k.2)

pub gains-front : {A : Type 0} (Says : A → List ℕ → List ℕ → A → Type 0) (s t : A) (xs ys : List (List ℕ)) (a b c : Option (List ℕ))
    → GainsOutputs Says s xs t a b → GainsOutputsFront Says t ys b c
    → GainsOutputsFront Says s (xs ++ ys) a c
gains-front Says s t xs ys a b c h k =
    let f = k.1 in (
      h.0 ++ k.0,
      record {
        answered = xs ++ f.answered;
        others = f.others;
        back = f.back;
        last = f.last;
        split = ap (λ (l : List (List ℕ)). xs ++ l) f.split ∙ sym (append_assoc xs f.answered f.others);
        outputs = subst (λ (l : List ℕ). AreOutputs Says s (xs ++ f.answered) l f.last) (sym (append_assoc h.0 k.0 f.back))
            (outputs_append Says s t f.last xs f.answered h.0 (k.0 ++ f.back) h.1 f.outputs);
      },
      Appends-trans a b c h.0 k.0 h.2 k.2,
    )
