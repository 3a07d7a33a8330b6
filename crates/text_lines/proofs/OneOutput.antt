-- A line has one output: one body, one text at a place, and one reply to it.
use Rattle.std.proofs.Common.{◌≡◌, ◌⊎◌, ◌||◌, ℕ, zero, suc, Bool, true, false, List, [], ◌∷◌, ◌++◌, codes, Result}
use Rattle.std.proofs.Common.{refl, sym, ◌∙◌, ap, subst, inl, inr, append_assoc, append-nil, arith}
use Rattle.std.proofs.lemmas.List.{append_cancel_left, append_cancel_right}
use Rattle.whole_input.specs.Parts.{HasNo}
use Rattle.forms.specs.declared.form.Form.{Form}
use Rattle.forms.specs.declared.cause.Cause.{Cause}
use Rattle.forms.specs.Replies.{IsAnswer, answer_text, is_refusal}
use Rattle.text_lines.specs.declared.place.Place.{Place}
use Rattle.text_lines.specs.declared.place.Place.TheVariants.{Whole, Field, Word}
use Rattle.text_lines.specs.Fields.{AreTabbed, IsTabEnd, IsField}
use Rattle.text_lines.specs.Spaced.{IsWord}
use Rattle.text_lines.specs.Places.{IsPlace}
use Rattle.forms.specs.TextReplies.{IsTextReply}
use Rattle.text_lines.specs.Outputs.{mark, IsBehindMark, IsBeforeEnd, HasBody, RefusesLine, AnswersInPlace, AnswersLine}
use Rattle.text_lines.specs.Outputs.{IsOutput}
use Rattle.text_lines.specs.Ends.{AreJudged}
use Rattle.text_lines.proofs.FieldPlaces.{no_split, split_same, split_front}
use Rattle.text_lines.proofs.SpacedPlaces.{first_same}

-- a text has one answer between any two forms
abbrev pub OneAnswer : Type 0
OneAnswer = (from to : Form) (text : List ℕ) (a b : Result (List ℕ) Cause) → IsAnswer from to text a → IsAnswer from to text b → a ≡ b

pub one_reply : OneAnswer → (from to : Form) (text a b : List ℕ) (r s : Bool) → IsTextReply from to text a r → IsTextReply from to text b s
    → (a ≡ b) × (r ≡ s)
one_reply one from to text a b r s (inl h) (inl k) = (h.1 ∙ sym k.1, h.2 ∙ sym k.2)
one_reply one from to text a b r s (inl h) (inr k) = absurd (h.0 k.1)
one_reply one from to text a b r s (inr h) (inl k) = absurd (k.0 h.1)
one_reply one from to text a b r s (inr h) (inr k) =
    let same = one from to text h.0 k.0 h.2 k.2 in
    (h.3 ∙ (ap answer_text same ∙ sym k.3), h.4 ∙ (ap is_refusal same ∙ sym k.4))

-- ---- the mark and the CR

one_unmarked : (first : Bool) (line f r g s : List ℕ) → IsBehindMark first line f r → IsBehindMark first line g s → (f ≡ g) × (r ≡ s)
one_unmarked false line f r g s h k = (h.0 ∙ sym k.0, h.1 ∙ sym k.1)
one_unmarked true line f r g s (inl h) (inl k) = (h.1 ∙ sym k.1, append_cancel_left mark r s (sym h.0 ∙ k.0))
one_unmarked true line f r g s (inl h) (inr k) = absurd (k.0 r h.0)
one_unmarked true line f r g s (inr h) (inl k) = absurd (h.0 s k.0)
one_unmarked true line f r g s (inr h) (inr k) = (h.1 ∙ sym k.1, h.2 ∙ sym k.2)

pub one_end : (line b e c f : List ℕ) → IsBeforeEnd line b e → IsBeforeEnd line c f → (b ≡ c) × (e ≡ f)
one_end line b e c f (inl h) (inl k) = (append_cancel_right b c (codes "\r") (sym h.0 ∙ k.0), h.1 ∙ sym k.1)
one_end line b e c f (inl h) (inr k) = absurd (k.0 b h.0)
one_end line b e c f (inr h) (inl k) = absurd (h.0 c k.0)
one_end line b e c f (inr h) (inr k) = (h.1 ∙ sym k.1, h.2 ∙ sym k.2)

pub one_body : (first : Bool) (line f b e g c d : List ℕ) → HasBody first line f b e → HasBody first line g c d → (f ≡ g) × (b ≡ c)
    × (e ≡ d)
one_body first line f b e g c d h k =
    let rests = one_unmarked first line f h.rest g k.rest h.unmarked k.unmarked in
    let ends = one_end k.rest b e c d (subst (λ (l : List ℕ). IsBeforeEnd l b e) rests.1 h.ended) k.ended in
    (rests.0, ends.0, ends.1)

-- ---- a field

tabbed_same : (n : ℕ) (x y r s : List ℕ) → AreTabbed n x → AreTabbed n y → x ++ r ≡ y ++ s → (x ≡ y) × (r ≡ s)
tabbed_same zero x y r s h k same =
    (h ∙ sym k, ap (λ (l : List ℕ). l ++ r) (sym h) ∙ (same ∙ ap (λ (l : List ℕ). l ++ s) k))
tabbed_same (suc n) x y r s h k same =
    let left : x ++ r ≡ h.0 ++ 9 ∷ (h.1 ++ r) = ap (λ (l : List ℕ). l ++ r) h.2.joined ∙ append_assoc h.0 (9 ∷ h.1) r in
    let right : y ++ s ≡ k.0 ++ 9 ∷ (k.1 ++ s) = ap (λ (l : List ℕ). l ++ s) k.2.joined ∙ append_assoc k.0 (9 ∷ k.1) s in
    let both : h.0 ++ 9 ∷ (h.1 ++ r) ≡ k.0 ++ 9 ∷ (k.1 ++ s) = sym left ∙ (same ∙ right) in
    let rests : h.1 ++ r ≡ k.1 ++ s = split_same 9 h.0 k.0 (h.1 ++ r) (k.1 ++ s) refl h.2.first k.2.first both in
    let below = tabbed_same n h.1 k.1 r s h.3 k.3 rests in
    let fields : h.0 ≡ k.0 = split_front 9 h.0 k.0 (h.1 ++ r) (k.1 ++ s) rests both in
    (h.2.joined ∙ (ap (λ (l : List ℕ). l ++ 9 ∷ h.1) fields ∙ (ap (λ (l : List ℕ). k.0 ++ 9 ∷ l) below.0 ∙ sym k.2.joined)), below.1)

tab_end_same : (x y a b : List ℕ) → HasNo 9 x → HasNo 9 y → IsTabEnd a → IsTabEnd b → x ++ a ≡ y ++ b → (x ≡ y) × (a ≡ b)
tab_end_same x y a b hx hy (inl h) (inl k) same =
    (sym (append-nil x) ∙ (ap (λ (l : List ℕ). x ++ l) (sym h) ∙ (same ∙ (ap (λ (l : List ℕ). y ++ l) k ∙ append-nil y))), h ∙ sym k)
tab_end_same x y a b hx hy (inl h) (inr k) same =
    absurd (no_split 9 x y k.0 refl hx (sym (append-nil x) ∙ (ap (λ (l : List ℕ). x ++ l) (sym h)
    ∙ (same ∙ ap (λ (l : List ℕ). y ++ l) k.1))))
tab_end_same x y a b hx hy (inr h) (inl k) same =
    absurd (no_split 9 y x h.0 refl hy (sym (append-nil y) ∙ (ap (λ (l : List ℕ). y ++ l) (sym k)
    ∙ (sym same ∙ ap (λ (l : List ℕ). x ++ l) h.1))))
tab_end_same x y a b hx hy (inr h) (inr k) same =
    let both : x ++ 9 ∷ h.0 ≡ y ++ 9 ∷ k.0 = ap (λ (l : List ℕ). x ++ l) (sym h.1) ∙ (same ∙ ap (λ (l : List ℕ). y ++ l) k.1) in
    let rests : h.0 ≡ k.0 = split_same 9 x y h.0 k.0 refl hx hy both in
    (split_front 9 x y h.0 k.0 rests both, h.1 ∙ (ap (λ (l : List ℕ). 9 ∷ l) rests ∙ sym k.1))

-- what three texts are
abbrev pub Same : List ℕ → List ℕ → List ℕ → List ℕ → List ℕ → List ℕ → Type 0
Same b t a c u d = (b ≡ c) × (t ≡ u) × (a ≡ d)

one_field : (n : ℕ) (line b t a c u d : List ℕ) → IsField n line b t a → IsField n line c u d → Same b t a c u d
one_field n line b t a c u d h k =
    let fronts = tabbed_same n b c (t ++ a) (u ++ d) h.skipped k.skipped (sym h.joined ∙ k.joined) in
    let ends = tab_end_same t u a d h.alone k.alone h.behind k.behind fronts.1 in
    (fronts.0, ends.0, ends.1)

one_word : (n : ℕ) (line b t a c u d : List ℕ) → IsWord n line b t a → IsWord n line c u d → Same b t a c u d
one_word zero line b t a c u d h k = first_same line b t a c u d h k
one_word (suc n) line b t a c u d h k =
    let first = first_same line h.0 h.1 h.2 k.0 k.1 k.2 h.4 k.4 in
    let below = one_word n k.2 h.3 t a k.3 u d (subst (λ (l : List ℕ). IsWord n l h.3 t a) first.2 h.5) k.5 in
    let fronts : b ≡ c = h.6 ∙ (ap (λ (l : List ℕ). l ++ (h.1 ++ h.3)) first.0
    ∙ (ap (λ (l : List ℕ). k.0 ++ (l ++ h.3)) first.1 ∙ (ap (λ (l : List ℕ). k.0 ++ (k.1 ++ l)) below.0 ∙ sym k.6))) in
    (fronts, below.1, below.2)

pub one_place : (place : Place) (line b t a c u d : List ℕ) → IsPlace place line b t a → IsPlace place line c u d → Same b t a c u d
one_place Whole line b t a c u d h k = (h.0 ∙ sym k.0, h.1 ∙ sym k.1, h.2 ∙ sym k.2)
one_place (Field n) line b t a c u d h k = one_field n line b t a c u d h k
one_place (Word n) line b t a c u d h k = one_word n line b t a c u d h k

-- ---- a line

one_in_place : OneAnswer → (from to : Form) (place : Place) (front body end a b : List ℕ) (r s : Bool)
    → AnswersInPlace from to place front body end a r → AnswersInPlace from to place front body end b s → (a ≡ b) × (r ≡ s)
one_in_place one from to place front body end a b r s h k =
    let parts = one_place place body h.before h.text h.after k.before k.text k.after h.placed k.placed in
    let replies = one_reply one from to k.text h.reply k.reply r s
    (subst (λ (l : List ℕ). IsTextReply from to l h.reply r) parts.1 h.replied) k.replied in (
      h.told ∙ (ap (λ (l : List ℕ). front ++ (l ++ (h.reply ++ (h.after ++ end)))) parts.0
          ∙ (ap (λ (l : List ℕ). front ++ (k.before ++ (l ++ (h.after ++ end)))) replies.0
          ∙ (ap (λ (l : List ℕ). front ++ (k.before ++ (k.reply ++ (l ++ end)))) parts.2 ∙ sym k.told))),
      replies.1,
    )

abbrev Answered : Form → Form → Place → List ℕ → List ℕ → List ℕ → List ℕ → Bool → Type 0
Answered from to place front body end out r = (RefusesLine place body end out × (r ≡ true))
    ⊎ AnswersInPlace from to place front body end out r

one_answered : OneAnswer → (from to : Form) (place : Place) (front body end a b : List ℕ) (r s : Bool)
    → Answered from to place front body end a r → Answered from to place front body end b s → (a ≡ b) × (r ≡ s)
one_answered one from to place front body end a b r s (inl h) (inl k) = (h.0.told ∙ sym k.0.told, h.1 ∙ sym k.1)
one_answered one from to place front body end a b r s (inl h) (inr k) = absurd (h.0.none k.before k.text k.after k.placed)
one_answered one from to place front body end a b r s (inr h) (inl k) = absurd (k.0.none h.before h.text h.after h.placed)
one_answered one from to place front body end a b r s (inr h) (inr k) = one_in_place one from to place front body end a b r s h k

one_line : OneAnswer → (from to : Form) (place : Place) (first : Bool) (line a b : List ℕ) (r s : Bool)
    → AnswersLine from to place first line a r → AnswersLine from to place first line b s → (a ≡ b) × (r ≡ s)
one_line one from to place first line a b r s h k =
    let same = one_body first line h.front h.body h.end k.front k.body k.end h.parts k.parts in
    let moved : Answered from to place k.front k.body k.end a r =
    subst (λ (l : List ℕ). Answered from to place k.front k.body l a r) same.2
    (subst (λ (l : List ℕ). Answered from to place k.front l h.end a r) same.1
    (subst (λ (l : List ℕ). Answered from to place l h.body h.end a r) same.0 h.answered)) in
    one_answered one from to place k.front k.body k.end a b r s moved k.answered

pub one_output : OneAnswer → (from to : Form) (place : Place) (first : Bool) (line a b : List ℕ) (r s : Bool)
    → IsOutput from to place first line a r → IsOutput from to place first line b s → (a ≡ b) × (r ≡ s)
one_output one from to place first line a b r s (inl h) (inl k) = (h.1 ∙ sym k.1, h.2 ∙ sym k.2)
one_output one from to place first line a b r s (inl h) (inr k) = absurd (omega (arith, h.0, k.0))
one_output one from to place first line a b r s (inr h) (inl k) = absurd (omega (arith, h.0, k.0))
one_output one from to place first line a b r s (inr h) (inr k) = one_line one from to place first line a b r s h.1 k.1

-- ---- lines

pub one_judgement : OneAnswer → (from to : Form) (place : Place) (first : Bool) (xs : List (List ℕ)) (a b : List ℕ) (r s : Bool)
    → AreJudged (IsOutput from to place) first xs a r → AreJudged (IsOutput from to place) first xs b s → (a ≡ b) × (r ≡ s)
one_judgement one from to place first [] a b r s h k = (h.0 ∙ sym k.0, h.1 ∙ sym k.1)
one_judgement one from to place first (x ∷ xs) a b r s h k =
    let here = one_output one from to place first x h.0 k.0 h.2 k.2 h.4 k.4 in
    let later = one_judgement one from to place false xs h.1 k.1 h.3 k.3 h.5 k.5 in (
      h.6 ∙ (ap (λ (l : List ℕ). l ++ h.1) here.0 ∙ (ap (λ (l : List ℕ). k.0 ++ l) later.0 ∙ sym k.6)),
      h.7 ∙ (ap (λ (t : Bool). t || h.3) here.1 ∙ (ap (λ (t : Bool). k.2 || t) later.1 ∙ sym k.7)),
    )
