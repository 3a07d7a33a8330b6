-- Lines that are answered or refused one by one, without the states of what answers them.
use Rattle.std.proofs.Common.{◌≡◌, ◌||◌, ℕ, ◌+◌, ◌≤◌, Bool, true, false, List, [], ◌∷◌, length, take, refl, sym, ◌∙◌, ap}
use Rattle.std.proofs.Common.{subst, inl, inr, ⊎_elim, arith}
use Rattle.std.proofs.lemmas.List.{take_all, length-take}
use Rattle.forms.specs.declared.form.Form.{Form}
use Rattle.forms.specs.Outputs.{cut, AreOutputs}
use Rattle.text_lines.specs.declared.texts.Texts.{Texts}
use Rattle.text_lines.specs.declared.columns.Columns.{Columns}
use Rattle.text_lines.specs.declared.place.Place.{Place}
use Rattle.text_lines.specs.declared.place.Place.TheVariants.{Whole}
use Rattle.text_lines.specs.Outputs.{line_limit, IsOutput, AnswersLine}
use Rattle.text_lines.specs.Ends.{AreJudged}
use Rattle.text_lines.specs.Answering.{SaysText, SaysColumn}

-- of a line that is too long the first bytes tell it
output_uncut : (from to : Form) (place : Place) (first : Bool) (line out : List ℕ) (refused : Bool)
    → IsOutput from to place first (take (line_limit + 1) line) out refused → IsOutput from to place first line out refused
output_uncut from to place first line out refused h =
    let size = length-take (line_limit + 1) line in
    ⊎_elim (λ long. inl (omega (arith, long.0, size), long.1, long.2))
    (λ one.
    let fits : length line ≤ line_limit = omega (arith, one.0, size) in
    let same : take (line_limit + 1) line ≡ line = take_all (line_limit + 1) line (omega (arith, fits)) in
    inr (fits, subst (λ (l : List ℕ). AnswersLine from to place first l out refused) same one.1)) h

pub text_uncut : (s : Texts) (line out : List ℕ) (t : Texts) → cut (line_limit + 1) SaysText s line out t → SaysText s line out t
text_uncut s line out t h = (h.0, output_uncut s.from s.to Whole s.first line out h.0 h.1, h.2)

pub column_uncut : (s : Columns) (line out : List ℕ) (t : Columns) → cut (line_limit + 1) SaysColumn s line out t → SaysColumn s line out t
column_uncut s line out t h = (h.0, output_uncut s.from s.to s.place s.first line out h.0 h.1, h.2)

or_assoc : (a b c : Bool) → ((a || b) || c) ≡ (a || (b || c))
or_assoc true b c = refl
or_assoc false b c = refl

or_false : (a : Bool) → (a || false) ≡ a
or_false true = refl
or_false false = refl

-- What a step of an answerer must tell: while something stays, a line is judged, no later line is the first, and a refusal is kept in mind.
abbrev pub Judges : {A : Type 0} → (A → List ℕ → List ℕ → A → Type 0) → (Bool → List ℕ → List ℕ → Bool → Type 0) → (A → Type 0) → (A → Bool)
    → (A → Bool) → Type 0
Judges {A} Says IsLine Stays first refused = (s : A) (line out : List ℕ) (t : A) → Stays s → Says s line out t
    → (here : Bool) × IsLine (first s) line out here × Stays t × (first t ≡ false) × (refused t ≡ (refused s || here))

pub judged_lines : {A : Type 0} (Says : A → List ℕ → List ℕ → A → Type 0) (IsLine : Bool → List ℕ → List ℕ → Bool → Type 0)
    (Stays : A → Type 0) (first refused : A → Bool) → Judges Says IsLine Stays first refused
    → (s t : A) (xs : List (List ℕ)) (out : List ℕ) → Stays s → AreOutputs Says s xs out t
    → (all : Bool) × AreJudged IsLine (first s) xs out all × (refused t ≡ (refused s || all))
judged_lines Says IsLine Stays first refused step s t [] out stays h = (false, (h.0, refl), ap refused h.1 ∙ sym (or_false (refused s)))
judged_lines Says IsLine Stays first refused step s t (x ∷ xs) out stays h =
    let k = step s x h.0 h.2 stays h.3 in
    let here : Bool = k.0 in
    let below = judged_lines Says IsLine Stays first refused step h.2 t xs h.1 k.2 h.4 in
    let later : Bool = below.0 in
    let more : AreJudged IsLine false xs h.1 later = subst (λ (b : Bool). AreJudged IsLine b xs h.1 later) k.3 below.1 in
    let all : refused t ≡ ((refused s || here) || later) = below.2 ∙ ap (λ (b : Bool). b || later) k.4 in
    (here || later, (h.0, h.1, here, later, k.1, more, h.5, refl), all ∙ or_assoc (refused s) here later)

abbrev pub texts_stay : Form → Form → Texts → Type 0
texts_stay from to s = (s.from ≡ from) × (s.to ≡ to)

pub texts_judge : (from to : Form) → Judges SaysText (IsOutput from to Whole) (texts_stay from to) (λ s. s.first) (λ s. s.refused)
texts_judge from to s line out t stays h =
    let a : IsOutput from s.to Whole s.first line out h.0 = subst (λ (f : Form). IsOutput f s.to Whole s.first line out h.0) stays.0 h.1 in (
      h.0,
      subst (λ (f : Form). IsOutput from f Whole s.first line out h.0) stays.1 a,
      (ap (λ (x : Texts). x.from) h.2 ∙ stays.0, ap (λ (x : Texts). x.to) h.2 ∙ stays.1),
      ap (λ (x : Texts). x.first) h.2,
      ap (λ (x : Texts). x.refused) h.2,
    )

abbrev pub columns_stay : Form → Form → Place → Columns → Type 0
columns_stay from to n s = (s.from ≡ from) × (s.to ≡ to) × (s.place ≡ n)

pub columns_judge : (from to : Form) (n : Place) → Judges SaysColumn (IsOutput from to n) (columns_stay from to n) (λ s. s.first)
    (λ s. s.refused)
columns_judge from to n s line out t stays h =
    let a : IsOutput from s.to s.place s.first line out h.0 = subst
    (λ (f : Form). IsOutput f s.to s.place s.first line out h.0) stays.0 h.1 in
    let b : IsOutput from to s.place s.first line out h.0 = subst (λ (f : Form). IsOutput from f s.place s.first line out h.0) stays.1 a in (
      h.0,
      subst (λ (k : Place). IsOutput from to k s.first line out h.0) stays.2 b,
      (ap (λ (x : Columns). x.from) h.2 ∙ stays.0, ap (λ (x : Columns). x.to) h.2 ∙ stays.1, ap (λ (x : Columns). x.place) h.2 ∙ stays.2),
      ap (λ (x : Columns). x.first) h.2,
      ap (λ (x : Columns). x.refused) h.2,
    )
