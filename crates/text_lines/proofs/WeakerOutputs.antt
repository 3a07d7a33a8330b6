-- Outputs by one relation are outputs by a weaker one.
use Rattle.std.proofs.Common.{ℕ, List, [], ◌∷◌, ◌++◌, Option, inl, inr, ⊎_elim}
use Rattle.forms.specs.Ends.{Streams}
use Rattle.forms.specs.Outputs.{AreOutputs, GainsOutputs, GainsOutputsFront, StandsBy, EndedBy}
use Rattle.forms.specs.declared.run_end.RunEnd.{RunEnd}
use Rattle.forms.specs.declared.run_end.RunEnd.TheVariants.{Done, ReadFault, WriteFault, TooLong, NoMemory}

-- what one relation says the other says
abbrev pub Implies : {A : Type 0} → (A → List ℕ → List ℕ → A → Type 0) → (A → List ℕ → List ℕ → A → Type 0) → Type 0
Implies {A} P Q = (s : A) (line out : List ℕ) (t : A) → P s line out t → Q s line out t

outputs_weaker : {A : Type 0} (P Q : A → List ℕ → List ℕ → A → Type 0) → Implies P Q → (s t : A) (xs : List (List ℕ)) (out : List ℕ)
    → AreOutputs P s xs out t → AreOutputs Q s xs out t
outputs_weaker P Q f s t [] out h = h
outputs_weaker P Q f s t (x ∷ xs) out h = (h.0, h.1, h.2, f s x h.0 h.2 h.3, outputs_weaker P Q f h.2 t xs h.1 h.4, h.5)

gains_weaker : {A : Type 0} (P Q : A → List ℕ → List ℕ → A → Type 0) → Implies P Q → (s t : A) (xs : List (List ℕ)) (a b : Option (List ℕ))
    → GainsOutputs P s xs t a b → GainsOutputs Q s xs t a b
gains_weaker P Q f s t xs a b h = (h.0, outputs_weaker P Q f s t xs h.0 h.1, h.2)

front_weaker : {A : Type 0} (P Q : A → List ℕ → List ℕ → A → Type 0) → Implies P Q → (s : A) (xs : List (List ℕ)) (a b : Option (List ℕ))
    → GainsOutputsFront P s xs a b → GainsOutputsFront Q s xs a b
front_weaker P Q f s xs a b h =
    let k = h.1 in (
      h.0,
      record {
        answered = k.answered;
        others = k.others;
        back = k.back;
        last = k.last;
        split = k.split;
        outputs = outputs_weaker P Q f s k.last k.answered (h.0 ++ k.back) k.outputs;
      },
      h.2,
    )

stands_weaker : {A : Type 0} (P Q : A → List ℕ → List ℕ → A → Type 0) → Implies P Q
    → (limit : ℕ) (given : List ℕ) (s t : A) (old new : Streams) (end : RunEnd) → StandsBy P limit given s t old new end
    → StandsBy Q limit given s t old new end
stands_weaker P Q f limit given s t old new Done h = (h.0, h.1, gains_weaker P Q f s t _ old.held new.held h.2)
stands_weaker P Q f limit given s t old new ReadFault h = (h.0, h.1, gains_weaker P Q f s t _ old.held new.held h.2)
stands_weaker P Q f limit given s t old new WriteFault h = (
  h.0,
  ⊎_elim (λ k. inl (front_weaker P Q f s _ old.held new.held k))
      (λ k. inr (k.0, k.1, front_weaker P Q f s _ old.held new.held k.2)) h.1,
)
stands_weaker P Q f limit given s t old new TooLong h = (h.0, gains_weaker P Q f s t _ old.held new.held h.1)
stands_weaker P Q f limit given s t old new NoMemory h = h

pub ended_weaker : {A : Type 0} (P Q : A → List ℕ → List ℕ → A → Type 0) → Implies P Q
    → (limit : ℕ) (s t : A) (old new : Streams) (end : RunEnd) → EndedBy P limit s t old new end → EndedBy Q limit s t old new end
ended_weaker P Q f limit s t old new end h = record {
  gave = h.gave;
  stands = stands_weaker P Q f limit h.gave.given s t old new end h.stands;
  reads_later = h.reads_later;
  writes_later = h.writes_later;
}
