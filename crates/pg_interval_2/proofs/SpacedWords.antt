-- Words behind spaces.
use Rattle.std.proofs.Common.{◌≡◌, ℕ, List, [], ◌∷◌, ◌++◌, refl, sym, ◌∙◌, ap, append_assoc}
use Rattle.scan_core.specs.Blanks.{words, EndsWord}
use Rattle.scan_core.proofs.WordFacts.{words-blank}
use Rattle.pg_interval_2.specs.inside.VerboseSteps.{behind_spaces}
use Rattle.pg_interval_2.proofs.ItemWords.{words_in_front}
use Rattle.pg_interval_2.proofs.Spaces.{AreWords}

pub behind_spaces-append : (xs ys : List (List ℕ)) → behind_spaces (xs ++ ys) ≡ behind_spaces xs ++ behind_spaces ys
behind_spaces-append [] ys = refl
behind_spaces-append (x ∷ xs) ys =
    ap (λ (l : List ℕ). 32 ∷ (x ++ l)) (behind_spaces-append xs ys)
    ∙ ap (λ (l : List ℕ). 32 ∷ l) (sym (append_assoc x (behind_spaces xs) (behind_spaces ys)))

spaces_end : (ws : List (List ℕ)) (rest : List ℕ) → EndsWord rest → EndsWord (behind_spaces ws ++ rest)
spaces_end [] rest ends = ends
spaces_end (w ∷ ws) rest ends = refl

-- the words of words behind spaces are these words
pub words-spaces : (ws : List (List ℕ)) (rest : List ℕ) → AreWords ws → EndsWord rest → words (behind_spaces ws ++ rest) ≡ ws ++ words rest
words-spaces [] rest are ends = refl
words-spaces (w ∷ ws) rest are ends =
    words-blank 32 ((w ++ behind_spaces ws) ++ rest) refl
    ∙ ap words (append_assoc w (behind_spaces ws) rest)
    ∙ words_in_front w (behind_spaces ws ++ rest) are.0 are.1 (spaces_end ws rest ends)
    ∙ ap (λ (l : List (List ℕ)). w ∷ l) (words-spaces ws rest are.2 ends)
