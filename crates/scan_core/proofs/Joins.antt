-- A join is read in one way: where a reader finds each piece at the front of whatever follows it, two joins of one list have the same
-- values.
use Rattle.std.proofs.Common.{◌≡◌, List, [], ◌∷◌, ◌++◌, Option, Some, None, refl, sym, ◌∙◌, ap, append_assoc, append-nil}
use Rattle.scan_core.specs.Join.{IsJoin}

-- the reader answers a piece's value and what follows the piece
abbrev pub Finds : {A C : Type 0} → (List A → C → Type 0) → (List A → Option (C × List A)) → Type 0
Finds {A} {C} IsPiece read = (piece rest : List A) (c : C) → IsPiece piece c → read (piece ++ rest) ≡ Some (c, rest)

-- what the reader answers at the front of a join that isn't empty
found_first : {A C : Type 0} (IsPiece : List A → C → Type 0) (read : List A → Option (C × List A)) → Finds IsPiece read
    → (x s : List A) (c : C) (cs : List C) (h : IsJoin IsPiece x (c ∷ cs)) → read (x ++ s) ≡ Some (c, h.1 ++ s)
found_first IsPiece read finds x s c cs h =
    let split : x ++ s ≡ h.0 ++ (h.1 ++ s) = ap (λ (l : List _). l ++ s) h.4 ∙ append_assoc h.0 h.1 s in
    ap read split ∙ finds h.0 (h.1 ++ s) c h.2

-- two joins, each followed by something that begins with no piece
pub join_same : {A C : Type 0} (IsPiece : List A → C → Type 0) (read : List A → Option (C × List A)) → Finds IsPiece read
    → (x y s t : List A) (cs ds : List C) → IsJoin IsPiece x cs → IsJoin IsPiece y ds → x ++ s ≡ y ++ t → read s ≡ None → read t ≡ None
    → (cs ≡ ds) × (s ≡ t)
join_same IsPiece read finds x y s t [] [] hx hy e ns nt =
    (refl, sym (ap (λ (l : List _). l ++ s) hx) ∙ e ∙ ap (λ (l : List _). l ++ t) hy)
join_same {A} {C} IsPiece read finds x y s t [] (d ∷ ds) hx hy e ns nt =
    let same : s ≡ y ++ t = sym (ap (λ (l : List _). l ++ s) hx) ∙ e in
    let found : read (y ++ t) ≡ Some (d, hy.1 ++ t) = found_first IsPiece read finds y t d ds hy in
    let at : read s ≡ Some (d, hy.1 ++ t) = ap read same ∙ found in
    let clash : ◌≡◌ {A = Option (C × List A)} None (Some (d, hy.1 ++ t)) = sym ns ∙ at in cc
join_same {A} {C} IsPiece read finds x y s t (c ∷ cs) [] hx hy e ns nt =
    let same : t ≡ x ++ s = sym (ap (λ (l : List _). l ++ t) hy) ∙ sym e in
    let found : read (x ++ s) ≡ Some (c, hx.1 ++ s) = found_first IsPiece read finds x s c cs hx in
    let at : read t ≡ Some (c, hx.1 ++ s) = ap read same ∙ found in
    let clash : ◌≡◌ {A = Option (C × List A)} None (Some (c, hx.1 ++ s)) = sym nt ∙ at in cc
join_same {A} {C} IsPiece read finds x y s t (c ∷ cs) (d ∷ ds) hx hy e ns nt =
    let left = found_first IsPiece read finds x s c cs hx in
    let right = found_first IsPiece read finds y t d ds hy in
    let both : ◌≡◌ {A = Option (C × List A)} (Some (c, hx.1 ++ s)) (Some (d, hy.1 ++ t)) = sym left ∙ ap read e ∙ right in
    let pairs : ◌≡◌ {A = C × List A} (c, hx.1 ++ s) (d, hy.1 ++ t) = cc in
    let heads : c ≡ d = ap (λ (p : C × List A). p.0) pairs in
    let tails : hx.1 ++ s ≡ hy.1 ++ t = ap (λ (p : C × List A). p.1) pairs in
    let below = join_same IsPiece read finds hx.1 hy.1 s t cs ds hx.3 hy.3 tails ns nt in
    let values : cs ≡ ds = below.0 in
    (cc, below.1)

-- a join has one list of values
pub join_values : {A C : Type 0} (IsPiece : List A → C → Type 0) (read : List A → Option (C × List A)) → Finds IsPiece read → read [] ≡ None
    → (x : List A) (cs ds : List C) → IsJoin IsPiece x cs → IsJoin IsPiece x ds → cs ≡ ds
join_values IsPiece read finds none x cs ds hx hy = (join_same IsPiece read finds x x [] [] cs ds hx hy refl none none).0

-- two joins in a row are one
pub IsJoin-append : {A C : Type 0} (IsPiece : List A → C → Type 0) (a b : List A) (xs ys : List C) → IsJoin IsPiece a xs
    → IsJoin IsPiece b ys
    → IsJoin IsPiece (a ++ b) (xs ++ ys)
IsJoin-append IsPiece a b [] ys h k = rw h k
IsJoin-append IsPiece a b (x ∷ xs) ys h k =
    (h.0, h.1 ++ b, h.2, IsJoin-append IsPiece h.1 b xs ys h.3 k, ap (λ (all : List _). all ++ b) h.4 ∙ append_assoc h.0 h.1 b)

-- a piece is a join of itself
pub IsJoin-one : {A C : Type 0} (IsPiece : List A → C → Type 0) (piece : List A) (x : C) → IsPiece piece x → IsJoin IsPiece piece (x ∷ [])
IsJoin-one IsPiece piece x h = (piece, [], h, refl, sym (append-nil piece))

-- one more piece at the end
pub join_push : {A C : Type 0} (IsPiece : List A → C → Type 0) (x piece : List A) (cs : List C) (c : C) → IsJoin IsPiece x cs
    → IsPiece piece c
    → IsJoin IsPiece (x ++ piece) (cs ++ c ∷ [])
join_push IsPiece x piece cs c hx h = IsJoin-append IsPiece x piece cs (c ∷ []) hx (IsJoin-one IsPiece piece c h)
