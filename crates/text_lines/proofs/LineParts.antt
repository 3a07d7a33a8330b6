-- The parts of a line, and its output by them.
use Rattle.std.proofs.Common.{◌≡◌, ℕ, zero, suc, ◌+◌, ◌<◌, ◌≤◌, Bool, true, false, List, [], ◌++◌, codes, length, take, drop}
use Rattle.std.proofs.Common.{refl, sym, ◌∙◌, ap, inl, inr, length-append, append_assoc, append-nil, arith}
use Rattle.std.proofs.lemmas.List.{take_at, drop_at}
use Rattle.forms.specs.declared.form.Form.{Form}
use Rattle.text_lines.specs.declared.place.Place.{Place}
use Rattle.text_lines.specs.declared.place.Place.TheVariants.{Whole, Field, Word}
use Rattle.text_lines.specs.Spaced.{IsFirstWord, IsWord}
use Rattle.text_lines.specs.Places.{IsPlace, HasNoPlace}
use Rattle.forms.specs.TextReplies.{IsTextReply}
use Rattle.text_lines.specs.Outputs.{line_limit, mark, IsBehindMark, IsBeforeEnd, IsOutput}

pub marked : (first : Bool) (line rest : List ℕ) → first ≡ true → line ≡ mark ++ rest → IsBehindMark first line mark rest
marked true line rest is h = inl (h, refl)
marked false line rest is h = absurd (let clash : false ≡ true = is in cc)

-- ---- outputs

pub too_long : (from to : Form) (place : Place) (first : Bool) (line : List ℕ) → line_limit < length line
    → IsOutput from to place first line (codes "refused Line\n") true
too_long from to place first line long = inl (long, refl, refl)

pub refused_whole : (from to : Form) (place : Place) (first : Bool) (line front rest body end : List ℕ) → length line ≤ line_limit
    → IsBehindMark first line front rest → IsBeforeEnd rest body end → HasNoPlace place body
    → IsOutput from to place first line (codes "refused Line" ++ end) true
refused_whole from to place first line front rest body end fits unmarked ended none = inr (
  fits,
  record {
    front = front;
    body = body;
    end = end;
    parts = record { rest = rest; unmarked = unmarked; ended = ended };
    answered = inl (record { none = none; told = refl }, refl);
  },
)

pub answered_there : (from to : Form) (place : Place) (first : Bool) (line front rest body end before text after reply : List ℕ)
    (refused : Bool) → length line ≤ line_limit → IsBehindMark first line front rest → IsBeforeEnd rest body end
    → IsPlace place body before text after → IsTextReply from to text reply refused
    → IsOutput from to place first line (front ++ (before ++ (reply ++ (after ++ end)))) refused
answered_there from to place first line front rest body end before text after reply refused fits unmarked ended placed replied = inr (
  fits,
  record {
    front = front;
    body = body;
    end = end;
    parts = record { rest = rest; unmarked = unmarked; ended = ended };
    answered = inr (record { before = before; text = text; after = after; reply = reply; placed = placed; replied = replied; told = refl });
  },
)

-- the whole line is the text
pub answered_whole : (from to : Form) (first : Bool) (line front rest body end reply : List ℕ) (refused : Bool) → length line ≤ line_limit
    → IsBehindMark first line front rest → IsBeforeEnd rest body end → IsTextReply from to body reply refused
    → IsOutput from to Whole first line (front ++ (reply ++ end)) refused
answered_whole from to first line front rest body end reply refused fits unmarked ended replied =
    answered_there from to Whole first line front rest body end [] body [] reply refused fits unmarked ended (refl, refl, refl) replied

-- three texts were put, one behind another
pub put_three : (a b c d x y z : List ℕ) → b ≡ a ++ x → c ≡ b ++ y → d ≡ c ++ z → d ≡ a ++ (x ++ (y ++ z))
put_three a b c d x y z one two three =
    three ∙ (ap (λ (l : List ℕ). l ++ z) (two ∙ ap (λ (l : List ℕ). l ++ y) one) ∙ (append_assoc (a ++ x) y z ∙ append_assoc a x (y ++ z)))

-- ---- the parts of a line joined

pub mark_joined : (first : Bool) (line front rest : List ℕ) → IsBehindMark first line front rest → line ≡ front ++ rest
mark_joined false line front rest h = sym (h.1) ∙ ap (λ (l : List ℕ). l ++ rest) (sym h.0)
mark_joined true line front rest (inl h) = h.0 ∙ ap (λ (l : List ℕ). l ++ rest) (sym h.1)
mark_joined true line front rest (inr h) = sym h.2 ∙ ap (λ (l : List ℕ). l ++ rest) (sym h.1)

-- a line's end is the CR, where there is one, and the line feed
pub end_joined : (line body end : List ℕ) → IsBeforeEnd line body end → (cr : List ℕ) × (line ≡ body ++ cr) × (end ≡ cr ++ codes "\n")
end_joined line body end (inl h) = (codes "\r", h.0, h.1)
end_joined line body end (inr h) = ([], sym h.1 ∙ sym (append-nil body), h.2)

first_joined : (line gap word rest : List ℕ) → IsFirstWord line gap word rest → line ≡ gap ++ (word ++ rest)
first_joined line gap word rest h = h.joined

word_joined : (n : ℕ) (line before text after : List ℕ) → IsWord n line before text after → line ≡ before ++ (text ++ after)
word_joined zero line before text after h = h.joined
word_joined (suc n) line before text after h =
    let below = word_joined n h.2 h.3 text after h.5 in
    let tail : List ℕ = text ++ after in
    h.4.joined ∙ (ap (λ (l : List ℕ). h.0 ++ (h.1 ++ l)) below
    ∙ (ap (λ (l : List ℕ). h.0 ++ l) (sym (append_assoc h.1 h.3 tail))
    ∙ (sym (append_assoc h.0 (h.1 ++ h.3) tail) ∙ ap (λ (l : List ℕ). l ++ tail) (sym h.6))))

pub place_joined : (place : Place) (line before text after : List ℕ) → IsPlace place line before text after
    → line ≡ before ++ (text ++ after)
place_joined Whole line before text after h =
    sym h.1 ∙ (sym (append-nil text) ∙ (ap (λ (l : List ℕ). text ++ l) (sym h.2) ∙ ap (λ (l : List ℕ). l ++ (text ++ after)) (sym h.0)))
place_joined (Field n) line before text after h = h.joined
place_joined (Word n) line before text after h = word_joined n line before text after h

-- what stands in front of a text, and behind it
pub record AreAround (line front rest before text after cr end : List ℕ) : Type 0 where
  pub all : line ≡ (front ++ before) ++ (text ++ (after ++ cr))
  pub behind : rest ≡ (before ++ text) ++ (after ++ cr)
  pub closed : end ≡ cr ++ codes "\n"

pub around : (place : Place) (first : Bool) (line front rest body end before text after : List ℕ) → IsBehindMark first line front rest
    → IsBeforeEnd rest body end → IsPlace place body before text after
    → (cr : List ℕ) × AreAround line front rest before text after cr end
around place first line front rest body end before text after unmarked ended placed =
    let e = end_joined rest body end ended in
    let cr : List ℕ = e.0 in
    let inner : rest ≡ before ++ (text ++ (after ++ cr)) =
    e.1 ∙ (ap (λ (l : List ℕ). l ++ cr) (place_joined place body before text after placed)
    ∙ (append_assoc before (text ++ after) cr ∙ ap (λ (l : List ℕ). before ++ l) (append_assoc text after cr))) in (
      cr,
      record {
        all = mark_joined first line front rest unmarked ∙ (ap (λ (l : List ℕ). front ++ l) inner
            ∙ sym (append_assoc front before (text ++ (after ++ cr))));
        behind = inner ∙ sym (append_assoc before text (after ++ cr));
        closed = e.2;
      },
    )

-- the lengths of the parts
pub around_sizes : (line front rest before text after cr end : List ℕ) → AreAround line front rest before text after cr end
    → (length front + length before ≤ length line) × (length before + length text ≤ length rest) × (length rest ≤ length line)
    × (length front + (length before + (length after + length cr)) ≤ length line)
around_sizes line front rest before text after cr end h =
    let one = length-append (front ++ before) (text ++ (after ++ cr)) in
    let two = length-append front before in
    let three = length-append text (after ++ cr) in
    let four = length-append after cr in
    let five = length-append (before ++ text) (after ++ cr) in
    let six = length-append before text in
    let all : length line ≡ length ((front ++ before) ++ (text ++ (after ++ cr))) = ap length h.all in
    let behind : length rest ≡ length ((before ++ text) ++ (after ++ cr)) = ap length h.behind in (
      omega (arith, all, one, two),
      omega (arith, behind, five, six),
      omega (arith, all, behind, one, two, three, four, five, six),
      omega (arith, all, one, two, three, four),
    )

pub front_there : (line front rest before text after cr end : List ℕ) → AreAround line front rest before text after cr end
    → take (length front + length before) line ≡ front ++ before
front_there line front rest before text after cr end h =
    ap (take (length front + length before)) h.all ∙ take_at (front ++ before) (text ++ (after ++ cr)) (length front + length before)
    (length-append front before)

pub back_there : (line front rest before text after cr end : List ℕ) → AreAround line front rest before text after cr end
    → drop (length before + length text) rest ≡ after ++ cr
back_there line front rest before text after cr end h =
    ap (drop (length before + length text)) h.behind ∙ drop_at (before ++ text) (after ++ cr) (length before + length text)
    (length-append before text)

-- the output was put
pub put_around : (line front rest before text after cr end reply a b c d e : List ℕ) → AreAround line front rest before text after cr end
    → b ≡ a ++ (front ++ before) → c ≡ b ++ reply → d ≡ c ++ (after ++ cr) → e ≡ d ++ codes "\n"
    → e ≡ a ++ (front ++ (before ++ (reply ++ (after ++ end))))
put_around line front rest before text after cr end reply a b c d e h one two three four =
    let feed : List ℕ = codes "\n" in
    let last : e ≡ c ++ (after ++ end) =
    four ∙ (ap (λ (l : List ℕ). l ++ feed) three ∙ (append_assoc c (after ++ cr) feed
    ∙ ap (λ (l : List ℕ). c ++ l) (append_assoc after cr feed ∙ ap (λ (l : List ℕ). after ++ l) (sym h.closed)))) in
    put_three a b c e (front ++ before) reply (after ++ end) one two last
    ∙ ap (λ (l : List ℕ). a ++ l) (append_assoc front before (reply ++ (after ++ end)))
