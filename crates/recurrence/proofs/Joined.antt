-- Texts that are put behind what waits, one for each value of a list.
use Rattle.std.proofs.Common.{◌≡◌, ℕ, List, [], ◌∷◌, ◌++◌, Option, Result, Ok, Err, OnErr, refl, sym, ◌∙◌, ap, ap₂, subst, append_assoc}
use Rattle.std.proofs.Common.{append-nil}
use Rattle.std.proofs.KnownBytes.{Appends-nil}
use Rattle.scan_core.specs.Join.{IsJoin}
use Rattle.forms.specs.Outside.{AppendsFront}
use Rattle.forms.specs.Waiting.{Moves}
use Rattle.recurrence.specs.inside.Waiting.{KeepOrder, Puts, Fails}

-- nothing was put
kept : (a : Option (List ℕ)) (before : List ℕ) → Moves a a before [] before
kept a before = record { front = []; split = append-nil before; gained = Appends-nil a }

-- what waits moved, and a text was put behind the rest
pub put_behind : (a b : Option (List ℕ)) (before between text after : List ℕ) → KeepOrder → Moves a b before [] between
    → after ≡ between ++ text → Moves a b before text after
put_behind a b before between text after order moved put =
    order.next a b b before [] between text after moved (record { front = []; split = sym put; gained = Appends-nil b })

-- a front of a text is a front of a longer one
pub front_of_longer : (a b : Option (List ℕ)) (text more : List ℕ) → AppendsFront a b text → AppendsFront a b (text ++ more)
front_of_longer a b text more h = record {
  front = h.front;
  back = h.back ++ more;
  split = ap (λ (l : List ℕ). l ++ more) h.split ∙ append_assoc h.front h.back more;
  written = h.written;
}

-- a text was put, and with the text of the values that are left it is the text of all
abbrev pub IsSoFar : {C : Type 0} → (List ℕ → C → Type 0) → Option (List ℕ) → Option (List ℕ) → List ℕ → List ℕ → List C → List C → Type 0
IsSoFar IsPiece old new before after left all =
    (text : List ℕ) × Moves old new before text after
    × ((rest : List ℕ) → IsJoin IsPiece rest left → IsJoin IsPiece (text ++ rest) all)

pub none_yet : {C : Type 0} (IsPiece : List ℕ → C → Type 0) (a : Option (List ℕ)) (before : List ℕ) (all : List C)
    → IsSoFar IsPiece a a before before all all
none_yet IsPiece a before all = ([], kept a before, λ rest h. h)

pub one_more : {C : Type 0} (IsPiece : List ℕ → C → Type 0) (a b c : Option (List ℕ)) (before between after : List ℕ)
    (left more all : List C) (x : C) → KeepOrder → left ≡ x ∷ more → IsSoFar IsPiece a b before between left all
    → Puts (λ text. IsPiece text x) b c between after → IsSoFar IsPiece a c before after more all
one_more IsPiece a b c before between after left more all x order is s p = (
  s.0 ++ p.0,
  order.next a b c before s.0 between p.0 after s.1 p.2,
  λ rest h. subst (λ (l : List ℕ). IsJoin IsPiece l all) (sym (append_assoc s.0 p.0 rest))
      (s.2 (p.0 ++ rest) (subst (IsJoin IsPiece (p.0 ++ rest)) (sym is) (p.0, rest, p.1, h, refl))),
)

pub all_put : {C : Type 0} (IsPiece : List ℕ → C → Type 0) (a b : Option (List ℕ)) (before after : List ℕ) (left all : List C) → left ≡ []
    → IsSoFar IsPiece a b before after left all → Puts (λ text. IsJoin IsPiece text all) a b before after
all_put IsPiece a b before after left all is s = (
  s.0,
  subst (λ (l : List ℕ). IsJoin IsPiece l all) (append-nil s.0)
      (s.2 [] (subst (IsJoin IsPiece []) (sym is) refl)),
  s.1,
)

-- the sink failed at the next text, and those behind it have a text too
pub fails_at : {C : Type 0} (IsPiece : List ℕ → C → Type 0) (a b c : Option (List ℕ)) (before between : List ℕ) (left more all : List C)
    (x : C) → KeepOrder → left ≡ x ∷ more → (rest : List ℕ) → IsJoin IsPiece rest more → IsSoFar IsPiece a b before between left all
    → Fails (λ text. IsPiece text x) b c between → Fails (λ text. IsJoin IsPiece text all) a c before
fails_at IsPiece a b c before between left more all x order is rest others s f = (
  s.0 ++ (f.0 ++ rest),
  s.2 (f.0 ++ rest) (subst (IsJoin IsPiece (f.0 ++ rest)) (sym is) (f.0, rest, f.1, others, refl)),
  order.next_fails a b c before s.0 between (f.0 ++ rest) s.1 (subst (AppendsFront b c) (append_assoc between f.0 rest)
      (front_of_longer b c (between ++ f.0) rest f.2)),
)

-- values have one text, where each has
pub one_join : {C : Type 0} (IsPiece : List ℕ → C → Type 0) → ((x : C) (a b : List ℕ) → IsPiece a x → IsPiece b x → a ≡ b)
    → (all : List C) (a b : List ℕ) → IsJoin IsPiece a all → IsJoin IsPiece b all → a ≡ b
one_join IsPiece one [] a b h k = h ∙ sym k
one_join IsPiece one (x ∷ more) a b (p, rest, is, others, joined) (q, rest₂, is₂, others₂, joined₂) =
    joined ∙ (ap₂ (λ (s t : List ℕ). s ++ t) (one x p q is is₂) (one_join IsPiece one more rest rest₂ others others₂) ∙ sym joined₂)

-- a fact that holds holds of a call that failed, and of one that didn't
pub on_err : {T E : Type 0} (P : Type 0) (r : Result T E) → P → OnErr r P
on_err P (Ok x) h = tt
on_err P (Err e) h = h
