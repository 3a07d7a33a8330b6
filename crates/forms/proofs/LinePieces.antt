-- Lemmas on lines whose bytes come in pieces.
use Rattle.std.proofs.Common.{◌≡◌, ℕ, ◌<◌, ◌==◌, Bool, true, false, List, [], ◌∷◌, ◌++◌, cond, length, codes, refl, ◌∙◌, ap, arith}
use Rattle.std.proofs.Common.{append_assoc}
use Rattle.std.specs.List.{onto_first}
use Rattle.forms.specs.Lines.{lines, onto_line, whole_lines}
use Rattle.forms.specs.inside.Pieces.{NoFeed, AreWhole}

pub no_feed-append : (a b : List ℕ) → NoFeed a → NoFeed b → NoFeed (a ++ b)
no_feed-append [] b h k = k
no_feed-append (byte ∷ a) b h k = (h.0, no_feed-append a b h.1 k)

-- ---- whole lines, and what follows them

feed_line : (line rest : List ℕ) → NoFeed line → lines (line ++ (codes "\n" ++ rest)) ≡ line ∷ lines rest
feed_line [] rest h = refl
feed_line (byte ∷ line) rest h = rw (h.0, feed_line line rest h.1) refl

pub feed_whole : (line rest : List ℕ) → NoFeed line → whole_lines (line ++ (codes "\n" ++ rest)) ≡ line ∷ whole_lines rest
feed_whole [] rest h = refl
feed_whole (byte ∷ line) rest h = rw (h.0, feed_whole line rest h.1) refl

-- the first of whole lines in front of a rest
first_ended : (line piece more front rest : List ℕ) → piece ≡ line ++ codes "\n" → front ≡ piece ++ more
    → front ++ rest ≡ line ++ (codes "\n" ++ (more ++ rest))
first_ended line piece more front rest ended joined =
    ap (λ (l : List ℕ). l ++ rest) (joined ∙ ap (λ (l : List ℕ). l ++ more) ended)
    ∙ (ap (λ (l : List ℕ). l ++ rest) (append_assoc line (codes "\n") more) ∙ append_assoc line (codes "\n" ++ more) rest)

pub lines_behind : (whole : List (List ℕ)) (front rest : List ℕ) → AreWhole whole front → lines (front ++ rest) ≡ whole ++ lines rest
lines_behind [] front rest h = rw h refl
lines_behind (line ∷ whole) front rest h =
    ap lines (first_ended line h.0 h.1 front rest h.2.1 h.4)
    ∙ (feed_line line (h.1 ++ rest) h.2.0 ∙ ap (λ (l : List (List ℕ)). line ∷ l) (lines_behind whole h.1 rest h.3))

pub whole_lines_behind : (whole : List (List ℕ)) (front rest : List ℕ) → AreWhole whole front
    → whole_lines (front ++ rest) ≡ whole ++ whole_lines rest
whole_lines_behind [] front rest h = rw h refl
whole_lines_behind (line ∷ whole) front rest h =
    ap whole_lines (first_ended line h.0 h.1 front rest h.2.1 h.4)
    ∙ (feed_whole line (h.1 ++ rest) h.2.0 ∙ ap (λ (l : List (List ℕ)). line ∷ l) (whole_lines_behind whole h.1 rest h.3))

-- ---- a part of a line without its line feed

pub part_alone : (part : List ℕ) → NoFeed part → 0 < length part → lines part ≡ part ∷ []
part_alone [] h some = absurd (omega arith)
part_alone (byte ∷ []) h some = rw h.0 refl
part_alone (byte ∷ next ∷ part) h some = rw (h.0, part_alone (next ∷ part) h.1 (omega arith)) refl

pub part_not_whole : (part : List ℕ) → NoFeed part → whole_lines part ≡ []
part_not_whole [] h = refl
part_not_whole (byte ∷ part) h = rw (h.0, part_not_whole part h.1) refl

-- ---- whole lines at the front of more bytes

begin_if : (t : Bool) (byte : ℕ) (all whole more : List (List ℕ)) → all ≡ whole ++ more
    → (rest : List (List ℕ)) × (cond t ([] ∷ all) (onto_first byte all) ≡ cond t ([] ∷ whole) (onto_line byte whole) ++ rest)
begin_if true byte all whole more h = (more, ap (λ (l : List (List ℕ)). [] ∷ l) h)
begin_if false byte all [] more h = (onto_first byte more, ap (onto_first byte) h)
begin_if false byte all (line ∷ whole) more h = (more, ap (onto_first byte) h)

-- the whole lines of a front are the first lines of all
pub lines_begin : (front rest : List ℕ) → (more : List (List ℕ)) × (lines (front ++ rest) ≡ whole_lines front ++ more)
lines_begin [] rest = (lines rest, refl)
lines_begin (byte ∷ front) rest =
    let below = lines_begin front rest in
    begin_if (byte == 10) byte (lines (front ++ rest)) (whole_lines front) below.0 below.1
