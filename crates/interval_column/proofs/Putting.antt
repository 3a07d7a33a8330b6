-- Lines that are put one behind another.
use Rattle.std.proofs.Common.{◌≡◌, ℕ, ◌+◌, ◌<◌, ◌≤◌, List, [], ◌∷◌, ◌++◌, length, drop, get_or, map, flat_map, Option, Result, Ok, Err}
use Rattle.std.proofs.Common.{OnErr, refl, sym, ◌∙◌, ap, subst, append_assoc, append-nil}
use Rattle.std.proofs.KnownBytes.{Appends-nil}
use Rattle.std.proofs.lemmas.List.{drop_more, drop_all}
use Rattle.forms.specs.Outside.{AppendsFront}
use Rattle.forms.specs.Waiting.{Moves}

-- a fact that holds holds of a call that failed, and of one that didn't
pub on_err : {T E : Type 0} (P : Type 0) (r : Result T E) → P → OnErr r P
on_err P (Ok x) h = tt
on_err P (Err e) h = h

-- one text behind another moves as both
abbrev pub InTurn : Type 0
InTurn = (a b c : Option (List ℕ)) (before first between second after : List ℕ) → Moves a b before first between
    → Moves b c between second after → Moves a c before (first ++ second) after

-- the sink fails at the second of two texts
abbrev pub FailsInTurn : Type 0
FailsInTurn = (a b c : Option (List ℕ)) (before first between second : List ℕ) → Moves a b before first between
    → AppendsFront b c (between ++ second) → AppendsFront a c (before ++ (first ++ second))

-- a front of a text is a front of a longer one
pub front_of_longer : (a b : Option (List ℕ)) (before text more : List ℕ) → AppendsFront a b (before ++ text)
    → AppendsFront a b (before ++ (text ++ more))
front_of_longer a b before text more h = record {
  front = h.front;
  back = h.back ++ more;
  split = sym (append_assoc before text more) ∙ (ap (λ (l : List ℕ). l ++ more) h.split ∙ append_assoc h.front h.back more);
  written = h.written;
}

-- the texts of the elements up to a place were put
pub record ArePut {T : Type 0} (text_of : T → List ℕ) (xs : List T) (old new : Option (List ℕ)) (before after : List ℕ)
    (i : ℕ) : Type 0 where
  pub text : List ℕ
  pub moves : Moves old new before text after
  pub left : text ++ flat_map text_of (drop i xs) ≡ flat_map text_of xs

pub none_put : {T : Type 0} (text_of : T → List ℕ) (xs : List T) (a : Option (List ℕ)) (before : List ℕ)
    → ArePut text_of xs a a before before 0
none_put text_of xs a before = record {
  text = [];
  moves = record { front = []; split = append-nil before; gained = Appends-nil a };
  left = refl;
}

next_left : {T : Type 0} (text_of : T → List ℕ) (xs : List T) (i : ℕ) (x : T) → i < length xs → x ≡ get_or xs i x
    → flat_map text_of (drop i xs) ≡ text_of x ++ flat_map text_of (drop (i + 1) xs)
next_left text_of xs i x inside at = ap (flat_map text_of) (drop_more xs i x inside)
    ∙ ap (λ (y : _). text_of y ++ flat_map text_of (drop (i + 1) xs)) (sym at)

pub put_more : {T : Type 0} → InTurn → (text_of : T → List ℕ) (xs : List T) (a b c : Option (List ℕ)) (before between after : List ℕ)
    (i : ℕ) (x : T) → ArePut text_of xs a b before between i → i < length xs → x ≡ get_or xs i x
    → Moves b c between (text_of x) after → ArePut text_of xs a c before after (i + 1)
put_more turn text_of xs a b c before between after i x h inside at more = record {
  text = h.text ++ text_of x;
  moves = turn a b c before h.text between (text_of x) after h.moves more;
  left =
      append_assoc h.text (text_of x) (flat_map text_of (drop (i + 1) xs))
      ∙ (ap (λ (l : List ℕ). h.text ++ l) (sym (next_left text_of xs i x inside at)) ∙ h.left);
}

pub put_all : {T : Type 0} (text_of : T → List ℕ) (xs : List T) (a b : Option (List ℕ)) (before after : List ℕ) (i : ℕ)
    → ArePut text_of xs a b before after i → drop i xs ≡ [] → Moves a b before (flat_map text_of xs) after
put_all text_of xs a b before after i h end =
    subst (λ (l : List ℕ). Moves a b before l after) (sym (append-nil h.text)
    ∙ (ap (λ (l : List _). h.text ++ flat_map text_of l) (sym end) ∙ h.left)) h.moves

pub put_fails : {T : Type 0} → FailsInTurn → (text_of : T → List ℕ) (xs : List T) (a b c : Option (List ℕ)) (before between : List ℕ)
    (i : ℕ) (x : T) → ArePut text_of xs a b before between i → i < length xs → x ≡ get_or xs i x
    → AppendsFront b c (between ++ text_of x) → AppendsFront a c (before ++ flat_map text_of xs)
put_fails turn text_of xs a b c before between i x h inside at failed =
    let rest : List ℕ = flat_map text_of (drop (i + 1) xs) in
    subst (λ (l : List ℕ). AppendsFront a c (before ++ l))
    (ap (λ (l : List ℕ). h.text ++ l) (sym (next_left text_of xs i x inside at)) ∙ h.left)
    (turn a b c before h.text between (text_of x ++ rest) h.moves (front_of_longer b c between (text_of x) rest failed))

pub over_map : {T U A : Type 0} (f : U → List A) (g : T → U) (xs : List T) → flat_map f (map g xs) ≡ flat_map (λ x. f (g x)) xs
over_map f g [] = refl
over_map f g (x ∷ xs) = ap (λ (l : List _). f (g x) ++ l) (over_map f g xs)

-- a text that is equal
pub moves_as : (a b : Option (List ℕ)) (before text same after : List ℕ) → text ≡ same → Moves a b before text after
    → Moves a b before same after
moves_as a b before text same after is h = subst (λ (l : List ℕ). Moves a b before l after) is h

pub fails_as : (a b : Option (List ℕ)) (before text same : List ℕ) → text ≡ same → AppendsFront a b (before ++ text)
    → AppendsFront a b (before ++ same)
fails_as a b before text same is h = subst (λ (l : List ℕ). AppendsFront a b (before ++ l)) is h

pub no_more : {T : Type 0} (xs : List T) (i : ℕ) → length xs ≤ i → drop i xs ≡ []
no_more xs i h = drop_all i xs h
