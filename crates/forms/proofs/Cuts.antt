-- The first bytes of a line that comes in pieces.
use Rattle.std.proofs.Common.{◌≡◌, ℕ, zero, suc, ◌+◌, ◌-◌, ◌<◌, ◌≤◌, min, List, [], ◌∷◌, ◌++◌, length, take, refl, sym, ◌∙◌, ap, arith}
use Rattle.std.proofs.Math.Seq.{take-append-add}
use Rattle.std.proofs.lemmas.List.{take_min}

pub take_nil : (n : ℕ) → ◌≡◌ {A = List ℕ} (take n []) []
take_nil zero = refl
take_nil (suc n) = refl

-- what stands behind the first bytes doesn't count
pub take_front : (n : ℕ) (a b : List ℕ) → take n (take n a ++ b) ≡ take n (a ++ b)
take_front zero a b = refl
take_front (suc n) [] b = refl
take_front (suc n) (byte ∷ a) b = ap (λ (l : List ℕ). byte ∷ l) (take_front n a b)

-- where some first bytes were kept, the next ones are those for which there is room
pub take_kept : (n count : ℕ) (a b : List ℕ) → length a ≤ n → count ≡ min (length b) (n - length a) → a ++ take count b ≡ take n (a ++ b)
take_kept n count a b within is =
    let place : n ≡ length a + (n - length a) = omega (arith, within) in
    let here : count ≡ min (n - length a) (length b) = omega (arith, is) in
    ap (λ (l : List ℕ). a ++ l) (ap (λ k. take k b) here ∙ take_min (n - length a) b)
    ∙ sym (ap (λ k. take k (a ++ b)) place ∙ take-append-add a b (n - length a))

-- where nothing was kept there is nothing
pub none_kept : (n : ℕ) (part : List ℕ) → 0 < n → [] ≡ take n part → part ≡ []
none_kept zero part some h = absurd (omega (arith, some))
none_kept (suc n) [] some h = refl
none_kept (suc n) (byte ∷ part) some h = absurd (let sizes : 0 ≡ suc (length (take n part)) = ap length h in omega (arith, sizes))

-- where something was kept there is something
pub some_kept : (n : ℕ) (kept part : List ℕ) → kept ≡ take n part → 0 < length kept → 0 < length part
some_kept zero kept part h some = absurd (let none : length kept ≡ 0 = ap length h in omega (arith, none, some))
some_kept (suc n) kept [] h some = absurd (let none : length kept ≡ 0 = ap length h in omega (arith, none, some))
some_kept (suc n) kept (byte ∷ part) h some = omega arith
