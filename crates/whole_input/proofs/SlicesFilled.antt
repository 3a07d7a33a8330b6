-- Slices that are filled from the front.
use Rattle.std.proofs.Common.{◌≡◌, ℕ, ◌+◌, ◌-◌, ◌≤◌, List, drop, set, ap, sym, ◌∙◌, arith}
use Rattle.std.proofs.lemmas.List.{drop-drop, drop-set-lt}

-- where slices are the same from a place on, they are from a later one on
pub behind_later : {X : Type 0} → (xs ys : List X) (m n : ℕ) → m ≤ n → drop m xs ≡ drop m ys → drop n xs ≡ drop n ys
behind_later {X} xs ys m n upto same =
    let far : n ≡ m + (n - m) = omega (arith, upto) in
    let split : (l : List X) → drop n l ≡ drop (n - m) (drop m l) = λ l. ap (λ i. drop i l) far ∙ sym (drop-drop (n - m) m l) in
    split xs ∙ (ap (drop (n - m)) same ∙ sym (split ys))

-- so they are behind a place in which one of them gets a value
pub behind_set : {X : Type 0} → (xs ys : List X) (n : ℕ) (value : X) → drop n xs ≡ drop n ys → drop (n + 1) (set xs n value) ≡ drop (n + 1) ys
behind_set xs ys n value same =
    drop-set-lt (n + 1) xs n value (omega arith) ∙ behind_later xs ys n (n + 1) (omega arith) same
