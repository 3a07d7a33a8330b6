-- A line has one reply: one request is in it, and one answer is to that.
use Rattle.std.proofs.Common.{◌≡◌, ℕ, List, [], ◌∷◌, ◌++◌, codes, Option, Some, Result, refl, sym, ◌∙◌, ap, subst, inl, inr}
use Rattle.std.specs.Prelude.{unwrap_or}
use Rattle.forms.specs.declared.form.Form.{Form}
use Rattle.forms.specs.declared.cause.Cause.{Cause}
use Rattle.forms.specs.Names.{name_of}
use Rattle.forms.specs.Replies.{IsRequest, IsAnswer, answer_text, IsReply, AreReplies}
use Rattle.forms.specs.Buffers.{IsReplyLine}
use Rattle.forms.specs.inside.Reading.{behind, IsNamed}
use Rattle.forms.proofs.Requests.{by_tail}
use Rattle.forms.proofs.Words.{one_name, tail_behind}
use Rattle.forms.proofs.NamedForms.{one_form}
use Rattle.forms.specs.ReadBack.{Turns}
use Rattle.forms.specs.inside.Lawful.{Lawful}
use Rattle.forms.proofs.Lawful.{one_turn}

-- the parts of a request
pub record IsAsked (line : List ℕ) (from to : Form) (text : List ℕ) : Type 0 where
  pub rest : Option (List ℕ)
  pub first : IsNamed line from (Some (name_of to ++ behind rest))
  pub end : text ≡ unwrap_or rest []

asked : (line : List ℕ) (from to : Form) (text : List ℕ) → IsRequest line from to text → IsAsked line from to text
asked line from to text h =
    let parts = by_tail line from to text h in
    let tail = tail_behind text parts.tail parts.rest in
    record {
      rest = tail.0;
      first = parts.joined ∙ ap (λ (l : List ℕ). name_of from ++ (codes " " ++ (name_of to ++ l))) tail.1;
      end = tail.2;
    }

one_request : (line : List ℕ) (f g : Form) (s : List ℕ) (h k : Form) (t : List ℕ) → IsRequest line f g s → IsRequest line h k t → (f ≡ h)
    × (g ≡ k) × (s ≡ t)
one_request line f g s h k t a b =
    let p = asked line f g s a in
    let q = asked line h k t b in
    let first = one_name line (Some (name_of g ++ behind p.rest)) (Some (name_of k ++ behind q.rest)) f h p.first q.first in
    let rests : name_of g ++ behind p.rest ≡ name_of k ++ behind q.rest = let both = first.1 in cc in
    let second = one_name (name_of k ++ behind q.rest) p.rest q.rest g k (sym rests) refl in
    (one_form f h first.0, one_form g k second.0, p.end ∙ (ap (λ (r : Option (List ℕ)). unwrap_or r []) second.1 ∙ sym q.end))

-- a text has one answer between any two forms
abbrev pub OneAnswer : Type 0
OneAnswer = (from to : Form) (text : List ℕ) (a b : Result (List ℕ) Cause) → IsAnswer from to text a → IsAnswer from to text b → a ≡ b

pub one_answer : ((form : Form) → Lawful form) → ((from to : Form) (text : List ℕ) (answer : Result (List ℕ) Cause)
    → IsAnswer from to text answer → Turns from to text answer) → OneAnswer
one_answer lawful turns from to text a b h k = one_turn from to (lawful from) (lawful to) text a b (turns from to text a h)
    (turns from to text b k)

pub one_reply : OneAnswer → (line a b : List ℕ) → IsReply line a → IsReply line b → a ≡ b
one_reply one line a b (inl h) (inl k) = h.1 ∙ sym k.1
one_reply one line a b (inl h) (inr (from, to, text, answer, is_asked, is, told)) = absurd (h.0 from to text is_asked)
one_reply one line a b (inr (from, to, text, answer, is_asked, is, told)) (inl k) = absurd (k.0 from to text is_asked)
one_reply one line a b (inr (from, to, text, answer, first, is, told)) (inr (from', to', text', answer', second, is', told')) =
    let parts = one_request line from to text from' to' text' first second in
    let P : Form → Type 0 = λ f. IsAnswer f to' text' answer in
    let Q : Form → Type 0 = λ f. IsAnswer from f text' answer in
    let R : List ℕ → Type 0 = λ l. IsAnswer from to l answer in
    let moved = subst P parts.0 (subst Q parts.1 (subst R parts.2 is)) in
    told ∙ (ap answer_text (one from' to' text' answer answer' moved is') ∙ sym told')

one_whole : OneAnswer → (line a b : List ℕ) → IsReplyLine a line → IsReplyLine b line → a ≡ b
one_whole one line a b h k = h.2 ∙ (ap (λ (l : List ℕ). l ++ codes "\n") (one_reply one line h.0 k.0 h.1 k.1) ∙ sym k.2)

pub one_output : OneAnswer → (lines : List (List ℕ)) (a b : List ℕ) → AreReplies lines a → AreReplies lines b → a ≡ b
one_output one [] a b h k = h ∙ sym k
one_output one (line ∷ more) a b h k =
    let first : h.0 ≡ k.0 = one_whole one line h.0 k.0 h.2 k.2 in
    let rest : h.1 ≡ k.1 = one_output one more h.1 k.1 h.3 k.3 in
    let whole = h.4 in
    let other = k.4 in
    cc
