-- A text cut at its spaces and joined again.
use Rattle.std.proofs.Common.{◌≡◌, ℕ, true, false, not, nat_eq, List, [], ◌∷◌, ◌++◌, map, filter, Result, Ok, Err, Option, String, IfOk}
use Rattle.std.proofs.Common.{MatchResult, refl, ◌∙◌, ap}
use Rattle.std.specs.Prelude.{⊤}
use Rattle.std.specs.String.{string_bytes}
use Rattle.std.specs.List.{slice_split, onto_first, flat_map, concat}
use Rattle.std.specs.Iterator.{DrainsIf}
use Rattle.std.proofs.lemmas.Iterator.{YieldsList, items_from_drains}
use denote.Ref.{Bor}

concat-onto_first : (b : ℕ) (parts : List (List ℕ)) → concat (onto_first b parts) ≡ b ∷ concat parts
concat-onto_first b [] = refl
concat-onto_first b (part ∷ parts) = refl

pub concat-slice_split : (bs : List ℕ)
    → concat (slice_split (λ b. nat_eq b 32) bs) ≡ filter (λ b. not (nat_eq b 32)) bs
concat-slice_split [] = refl
concat-slice_split (b ∷ bs) =
    elim (nat_eq b 32) as (λ t. nat_eq b 32 ≡ t → concat (slice_split (λ b. nat_eq b 32) (b ∷ bs))
    ≡ filter (λ b. not (nat_eq b 32)) (b ∷ bs)) [
      | true ↦ λ e. simp e (concat-slice_split bs)
      | false ↦ λ e. simp e (concat-onto_first b (slice_split (λ b. nat_eq b 32) bs) ∙ ap (λ xs. b ∷ xs) (concat-slice_split bs))
    ] refl

flat_map-now : (xs : List (Bor (List ℕ))) → flat_map (λ x. x.now) xs ≡ concat (map (λ x. x.now) xs)
flat_map-now [] = refl
flat_map-now (x ∷ xs) = ap (λ ys. x.now ++ ys) (flat_map-now xs)

-- the pieces that were collected are all pieces
pub text_from_pieces : {S Z E : Type 0} {steps : S → Option (Bor (List ℕ)) → S → Type 0} {s : S} {all : List (List ℕ)}
    (r : Result (String Z) E)
    → MatchResult r (λ w. (xs : List (Bor (List ℕ))) × DrainsIf steps ⊤ s xs × (string_bytes w ≡ flat_map (λ x. x.now) xs)) (λ _. ⊤)
    → YieldsList steps (λ x. x.now) s all → IfOk r (λ w. string_bytes w ≡ concat all)
text_from_pieces (Err e) h yields = tt
text_from_pieces (Ok w) h yields = h.2 ∙ flat_map-now h.0 ∙ ap concat (items_from_drains h.0 h.1 yields)
