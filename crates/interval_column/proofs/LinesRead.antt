-- Lines that are read one by one have one list of intervals, or one first fault.
use Rattle.std.proofs.Common.{◌≡◌, ℕ, suc, ◌+◌, List, [], ◌∷◌, ◌++◌, length, Result, Ok, Err, refl, sym, ◌∙◌, ap, subst, arith}
use Rattle.whole_input.specs.Numbered.{AreRead, IsFirstFault}
use Rattle.pg_interval_2.specs.declared.interval.Interval.{Interval}
use Rattle.interval_column.specs.declared.fault.LineFault.{LineFault}
use Rattle.interval_column.specs.Lines.{IsLineRead, IsRead, HasFault}

-- a line is read in one way
abbrev pub OneLine : Type 0
OneLine = (line : List ℕ) (a b : Result Interval LineFault) → IsLineRead line a → IsLineRead line b → a ≡ b

ok_one : (a b : Interval) → ◌≡◌ {A = Result Interval LineFault} (Ok a) (Ok b) → a ≡ b
ok_one a b h = cc

err_one : (a b : LineFault) → ◌≡◌ {A = Result Interval LineFault} (Err a) (Err b) → a ≡ b
err_one a b h = cc

never : (a : Interval) (b : LineFault) → ◌≡◌ {A = Result Interval LineFault} (Ok a) (Err b) → ⊥
never a b h = cc

pub read_one : OneLine → (n m : ℕ) (lines : List (List ℕ)) (xs ys : List Interval) → AreRead IsRead n lines xs → AreRead IsRead m lines ys
    → xs ≡ ys
read_one one n m [] xs ys h k = h ∙ sym k
read_one one n m (line ∷ lines) xs ys h k =
    let first = ok_one h.0 k.0 (one line (Ok h.0) (Ok k.0) h.2 k.2) in
    let rest = read_one one (n + 1) (m + 1) lines h.1 k.1 h.3 k.3 in
    let a = h.4 in let b = k.4 in
    cc

fault_one : OneLine → (n m : ℕ) (before other : List (List ℕ)) (line line' : List ℕ) (after after' : List (List ℕ)) (xs ys : List Interval)
    (f g : LineFault)
    → before ++ line ∷ after ≡ other ++ line' ∷ after' → AreRead IsRead n before xs → AreRead IsRead m other ys → IsLineRead line (Err f)
    → IsLineRead line' (Err g)
    → (length before ≡ length other) × (f ≡ g)
fault_one one n m [] [] line line' after after' xs ys f g same h k bad bad' =
    let here : line ≡ line' = cc in
    (refl, err_one f g (one line' (Err f) (Err g) (subst (λ (l : List ℕ). IsLineRead l (Err f)) here bad) bad'))
fault_one one n m [] (text ∷ other) line line' after after' xs ys f g same h k bad bad' =
    let here : line ≡ text = cc in
    absurd (never k.0 f (one text (Ok k.0) (Err f) k.2 (subst (λ (l : List ℕ). IsLineRead l (Err f)) here bad)))
fault_one one n m (text ∷ before) [] line line' after after' xs ys f g same h k bad bad' =
    let here : line' ≡ text = cc in
    absurd (never h.0 g (one text (Ok h.0) (Err g) h.2 (subst (λ (l : List ℕ). IsLineRead l (Err g)) here bad')))
fault_one one n m (text ∷ before) (text' ∷ other) line line' after after' xs ys f g same h k bad bad' =
    let tails : before ++ line ∷ after ≡ other ++ line' ∷ after' = cc in
    let rest = fault_one one (n + 1) (m + 1) before other line line' after after' h.1 k.1 f g tails h.3 k.3 bad bad' in
    (ap suc rest.0, rest.1)

pub one_fault : OneLine → (lines : List (List ℕ)) (n m : ℕ) (f g : LineFault) → IsFirstFault IsRead lines n f
    → IsFirstFault IsRead lines m g → (n ≡ m) × (f ≡ g)
one_fault one lines n m f g h k =
    let both = fault_one one 1 1 h.before k.before h.line k.line h.after k.after h.values k.values f g
    (sym h.split ∙ k.split) h.read k.read h.faulty k.faulty in
    (let a = h.counted in let b = k.counted in let e = both.0 in omega (arith, a, b, e), both.1)

read_at : (n : ℕ) (before : List (List ℕ)) (line : List ℕ) (after : List (List ℕ)) (xs : List Interval)
    → AreRead IsRead n (before ++ line ∷ after) xs → (t : Interval) × IsLineRead line (Ok t)
read_at n [] line after xs h = (h.0, h.2)
read_at n (text ∷ before) line after xs h = read_at (n + 1) before line after h.1 h.3

-- lines that are all read have no fault
pub no_fault : OneLine → (n : ℕ) (lines : List (List ℕ)) (xs : List Interval) → AreRead IsRead n lines xs → HasFault lines → ⊥
no_fault one n lines xs h (before, line, after, fault, split, bad) =
    let good = read_at n before line after xs (subst (λ (l : List (List ℕ)). AreRead IsRead n l xs) split h) in
    never good.0 fault (one line (Ok good.0) (Err fault) good.1 bad)

pub first_is_fault : (lines : List (List ℕ)) (n : ℕ) (fault : LineFault) → IsFirstFault IsRead lines n fault → HasFault lines
first_is_fault lines n fault h = (h.before, h.line, h.after, fault, h.split, h.faulty)
