-- Texts that are put behind what waits, and what is written of them.
use Rattle.std.proofs.Common.{◌≡◌, ℕ, List, [], ◌++◌, Option, sym, ◌∙◌, ap, subst, append_assoc}
use Rattle.std.proofs.KnownBytes.{Appends-nil, Appends-trans}
use Rattle.std.specs.Io.KnownBytes.{Appends}
use Rattle.forms.specs.Outside.{AppendsFront}
use Rattle.forms.specs.Waiting.{Moves}

-- one text was put behind another
pub moves_more : (a b c : Option (List ℕ)) (before first between second after : List ℕ) → Moves a b before first between
    → Moves b c between second after → Moves a c before (first ++ second) after
moves_more a b c before first between second after h k = record {
  front = h.front ++ k.front;
  split = sym (append_assoc before first second) ∙ (ap (λ (l : List ℕ). l ++ second) h.split
      ∙ (append_assoc h.front between second ∙ (ap (λ (l : List ℕ). h.front ++ l) k.split ∙ sym (append_assoc h.front k.front after))));
  gained = Appends-trans a b c h.front k.front h.gained k.gained;
}

-- and the sink failed at a front of the second
pub fails_later : (a b c : Option (List ℕ)) (before first between second : List ℕ) → Moves a b before first between
    → AppendsFront b c (between ++ second) → AppendsFront a c (before ++ (first ++ second))
fails_later a b c before first between second h k = record {
  front = h.front ++ k.front;
  back = k.back;
  split = sym (append_assoc before first second) ∙ (ap (λ (l : List ℕ). l ++ second) h.split
      ∙ (append_assoc h.front between second ∙ (ap (λ (l : List ℕ). h.front ++ l) k.split ∙ sym (append_assoc h.front k.front k.back))));
  written = Appends-trans a b c h.front k.front h.gained k.written;
}

-- all that waits was written
pub flushed_all : (a b c : Option (List ℕ)) (before text after : List ℕ) → Moves a b before text after → Appends b c after
    → Appends a c (before ++ text)
flushed_all a b c before text after h k =
    subst (λ (l : List ℕ). Appends a c l) (sym h.split) (Appends-trans a b c h.front after h.gained k)

-- or a front of it
pub flushed_front : (a b c : Option (List ℕ)) (before text after : List ℕ) → Moves a b before text after → AppendsFront b c after
    → AppendsFront a c (before ++ text)
flushed_front a b c before text after h k = record {
  front = h.front ++ k.front;
  back = k.back;
  split = h.split ∙ (ap (λ (l : List ℕ). h.front ++ l) k.split ∙ sym (append_assoc h.front k.front k.back));
  written = Appends-trans a b c h.front k.front h.gained k.written;
}

-- a front of a text is a front of a longer one
pub front_of_longer : (a b : Option (List ℕ)) (text more : List ℕ) → AppendsFront a b text → AppendsFront a b (text ++ more)
front_of_longer a b text more h = record {
  front = h.front;
  back = h.back ++ more;
  split = ap (λ (l : List ℕ). l ++ more) h.split ∙ append_assoc h.front h.back more;
  written = h.written;
}

-- what waits moved, and a text was put behind the rest
pub moved_then_put : (a b : Option (List ℕ)) (before between text after : List ℕ) → Moves a b before [] between → after ≡ between ++ text
    → Moves a b before text after
moved_then_put a b before between text after h put =
    moves_more a b b before [] between text after h (record { front = []; split = sym put; gained = Appends-nil b })

-- all that waits was written, and nothing waits
pub flushed_to_none : (a b : Option (List ℕ)) (before after : List ℕ) → Appends a b before → after ≡ [] → Moves a b before [] after
flushed_to_none a b before after h none = record { front = before; split = ap (λ (l : List ℕ). before ++ l) (sym none); gained = h }
