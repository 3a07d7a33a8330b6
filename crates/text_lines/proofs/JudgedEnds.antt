-- How runs over lines that are answered or refused end.
use Rattle.std.proofs.Common.{◌≡◌, ◌⊎◌, ◌||◌, ℕ, ◌+◌, ◌≤◌, Bool, true, false, List, [], ◌++◌, length, take, drop, Option, Some}
use Rattle.std.proofs.Common.{None, IfSome, refl, sym, ◌∙◌, ap, subst, inl, inr, ⊎_elim, append_assoc, take-append-drop, arith}
use Rattle.std.proofs.KnownBytes.{Consumes-whole, Consumes-nil}
use Rattle.std.proofs.lemmas.List.{length-append}
use Rattle.std.specs.Io.KnownBytes.{Consumes}
use Rattle.forms.specs.Lines.{lines, whole_lines}
use Rattle.forms.specs.Outside.{Rose}
use Rattle.forms.specs.Ends.{Streams}
use Rattle.forms.specs.Outputs.{cut, GainsOutputs, GainsOutputsFront, StandsBy, EndedBy}
use Rattle.forms.specs.declared.form.Form.{Form}
use Rattle.forms.specs.declared.run_end.RunEnd.{RunEnd}
use Rattle.forms.specs.declared.run_end.RunEnd.TheVariants.{Done, ReadFault, WriteFault, TooLong, NoMemory}
use Rattle.text_lines.specs.declared.texts.Texts.{Texts}
use Rattle.text_lines.specs.declared.columns.Columns.{Columns}
use Rattle.text_lines.specs.declared.place.Place.{Place}
use Rattle.text_lines.specs.declared.place.Place.TheVariants.{Whole}
use Rattle.text_lines.specs.Outputs.{line_limit, IsOutput}
use Rattle.text_lines.specs.Ends.{no_limit, AreJudged, GainsJudged, GainsJudgedFront, JudgedStand, JudgedEnded}
use Rattle.text_lines.specs.Ends.{judged_status, AnswersAll, MeansLines}
use Rattle.text_lines.specs.Answering.{SaysText, SaysColumn}
use Rattle.text_lines.proofs.WeakerOutputs.{ended_weaker}
use Rattle.text_lines.proofs.Judging.{text_uncut, column_uncut, Judges, judged_lines, texts_stay, texts_judge, columns_stay, columns_judge}

pub gains_judged : {A : Type 0} (Says : A → List ℕ → List ℕ → A → Type 0) (IsLine : Bool → List ℕ → List ℕ → Bool → Type 0)
    (Stays : A → Type 0) (first refused : A → Bool) → Judges Says IsLine Stays first refused → (s : A) → Stays s → (first s ≡ true)
    → (refused s ≡ false) → (t : A) (xs : List (List ℕ)) (a b : Option (List ℕ)) → GainsOutputs Says s xs t a b
    → GainsJudged IsLine xs (refused t) a b
gains_judged Says IsLine Stays first refused step s stays is_first none t xs a b h =
    let k = judged_lines Says IsLine Stays first refused step s t xs h.0 stays h.1 in
    let same : refused t ≡ k.0 = k.2 ∙ ap (λ (r : Bool). r || k.0) none in
    let at_first : AreJudged IsLine true xs h.0 k.0 = subst (λ (f : Bool). AreJudged IsLine f xs h.0 k.0) is_first k.1 in
    (h.0, subst (λ (r : Bool). AreJudged IsLine true xs h.0 r) (sym same) at_first, h.2)

pub front_judged : {A : Type 0} (Says : A → List ℕ → List ℕ → A → Type 0) (IsLine : Bool → List ℕ → List ℕ → Bool → Type 0)
    (Stays : A → Type 0) (first refused : A → Bool) → Judges Says IsLine Stays first refused → (s : A) → Stays s → (first s ≡ true)
    → (refused s ≡ false) → (xs : List (List ℕ)) (a b : Option (List ℕ)) → GainsOutputsFront Says s xs a b → GainsJudgedFront IsLine xs a b
front_judged Says IsLine Stays first refused step s stays is_first none xs a b h =
    let f = h.1 in
    let k = judged_lines Says IsLine Stays first refused step s f.last f.answered (h.0 ++ f.back) stays f.outputs in
    let at_first : AreJudged IsLine true f.answered (h.0 ++ f.back) k.0 = subst
    (λ (b : Bool). AreJudged IsLine b f.answered (h.0 ++ f.back) k.0) is_first k.1 in
    (h.0, record { answered = f.answered; others = f.others; back = f.back; refused = k.0; split = f.split; outputs = at_first }, h.2)

judged_stand : {A : Type 0} (Says : A → List ℕ → List ℕ → A → Type 0) (IsLine : Bool → List ℕ → List ℕ → Bool → Type 0) (Stays : A → Type 0)
    (first refused : A → Bool) → Judges Says IsLine Stays first refused → (s : A) → Stays s → (first s ≡ true) → (refused s ≡ false)
    → (given : List ℕ) (t : A) (old new : Streams) (end : RunEnd) → StandsBy Says no_limit given s t old new end
    → JudgedStand IsLine given (refused t) old new end
judged_stand Says IsLine Stays first refused step s stays is none given t old new Done h =
    (h.0, gains_judged Says IsLine Stays first refused step s stays is none t (lines given) old.held new.held h.2)
judged_stand Says IsLine Stays first refused step s stays is none given t old new ReadFault h =
    (h.0, gains_judged Says IsLine Stays first refused step s stays is none t (whole_lines given) old.held new.held h.2)
judged_stand Says IsLine Stays first refused step s stays is none given t old new WriteFault h = (
  h.0,
  ⊎_elim (λ k. inl (front_judged Says IsLine Stays first refused step s stays is none
      (whole_lines (take no_limit given)) old.held new.held k))
      (λ k. inr (k.0, front_judged Says IsLine Stays first refused step s stays is none (lines given) old.held new.held k.2)) h.1,
)
judged_stand Says IsLine Stays first refused step s stays is none given t old new TooLong h =
    (h.0, gains_judged Says IsLine Stays first refused step s stays is none t (whole_lines (take no_limit given)) old.held new.held h.1)
judged_stand Says IsLine Stays first refused step s stays is none given t old new NoMemory h = (h.0, h.2)

judged_ended : {A : Type 0} (Says : A → List ℕ → List ℕ → A → Type 0) (IsLine : Bool → List ℕ → List ℕ → Bool → Type 0) (Stays : A → Type 0)
    (first refused : A → Bool) → Judges Says IsLine Stays first refused → (s : A) → Stays s → (first s ≡ true) → (refused s ≡ false)
    → (t : A) (old new : Streams) (end : RunEnd) (status : ℕ) → EndedBy Says no_limit s t old new end
    → status ≡ judged_status end (refused t) → JudgedEnded IsLine old new status
judged_ended Says IsLine Stays first refused step s stays is none t old new end status h told = record {
  end = end;
  refused = refused t;
  gave = h.gave;
  stands = judged_stand Says IsLine Stays first refused step s stays is none h.gave.given t old new end h.stands;
  reads_later = h.reads_later;
  writes_later = h.writes_later;
  told = told;
}

abbrev first_texts : Form → Form → Texts
first_texts from to = record { from = from; to = to; first = true; refused = false }

pub texts_ended : (from to : Form) (t : Texts) (old new : Streams) (end : RunEnd) (status : ℕ)
    → EndedBy (cut (line_limit + 1) SaysText) no_limit (first_texts from to) t old new end → status ≡ judged_status end t.refused
    → JudgedEnded (IsOutput from to Whole) old new status
texts_ended from to t old new end status cuts told =
    judged_ended SaysText (IsOutput from to Whole) (texts_stay from to) (λ s. s.first) (λ s. s.refused) (texts_judge from to)
    (first_texts from to) (refl, refl) refl refl t old new end status
    (ended_weaker (cut (line_limit + 1) SaysText) SaysText text_uncut no_limit (first_texts from to) t old new end cuts) told

abbrev first_columns : Form → Form → Place → Columns
first_columns from to n = record { from = from; to = to; place = n; first = true; refused = false }

pub columns_ended : (from to : Form) (n : Place) (t : Columns) (old new : Streams) (end : RunEnd) (status : ℕ)
    → EndedBy (cut (line_limit + 1) SaysColumn) no_limit (first_columns from to n) t old new end → status ≡ judged_status end t.refused
    → JudgedEnded (IsOutput from to n) old new status
columns_ended from to n t old new end status cuts told =
    judged_ended SaysColumn (IsOutput from to n) (columns_stay from to n) (λ s. s.first) (λ s. s.refused) (columns_judge from to n)
    (first_columns from to n) (refl, refl, refl) refl refl t old new end status
    (ended_weaker (cut (line_limit + 1) SaysColumn) SaysColumn column_uncut no_limit (first_columns from to n) t old new end cuts) told

pub judged_nowhere : (IsLine : Bool → List ℕ → List ℕ → Bool → Type 0) (s : Streams) → JudgedEnded IsLine s s 6
judged_nowhere IsLine s = record {
  end = NoMemory;
  refused = false;
  gave = record { given = []; bytes = Consumes-nil s.left; count = λ below. omega arith; bound = omega arith };
  stands = (refl, refl);
  reads_later = omega arith;
  writes_later = omega arith;
  told = refl;
}

-- at a status of a run that is done all lines of all bytes have their outputs
whole_at : (IsLine : Bool → List ℕ → List ℕ → Bool → Type 0) (old new : Streams) (given : List ℕ) (refused : Bool)
    → Consumes old.left new.left given → JudgedStand IsLine given refused old new Done → AnswersAll IsLine refused old new
whole_at IsLine old new given refused bytes h =
    (h.0, Consumes-whole old.left new.left given (λ all. GainsJudged IsLine (lines all) refused old.held new.held) bytes h.0 h.1)

zero_by : (IsLine : Bool → List ℕ → List ℕ → Bool → Type 0) (old new : Streams) (given : List ℕ) (refused : Bool) (end : RunEnd)
    → Consumes old.left new.left given → JudgedStand IsLine given refused old new end → judged_status end refused ≡ 0
    → AnswersAll IsLine false old new
zero_by IsLine old new given false Done bytes h is = whole_at IsLine old new given false bytes h
zero_by IsLine old new given true Done bytes h is = absurd (omega (arith, is))
zero_by IsLine old new given refused ReadFault bytes h is = absurd (omega (arith, is))
zero_by IsLine old new given refused WriteFault bytes h is = absurd (omega (arith, is))
zero_by IsLine old new given refused TooLong bytes h is = absurd (omega (arith, is))
zero_by IsLine old new given refused NoMemory bytes h is = absurd (omega (arith, is))

eight_by : (IsLine : Bool → List ℕ → List ℕ → Bool → Type 0) (old new : Streams) (given : List ℕ) (refused : Bool) (end : RunEnd)
    → Consumes old.left new.left given → JudgedStand IsLine given refused old new end → judged_status end refused ≡ 8
    → AnswersAll IsLine true old new
eight_by IsLine old new given true Done bytes h is = whole_at IsLine old new given true bytes h
eight_by IsLine old new given false Done bytes h is = absurd (omega (arith, is))
eight_by IsLine old new given refused ReadFault bytes h is = absurd (omega (arith, is))
eight_by IsLine old new given refused WriteFault bytes h is = absurd (omega (arith, is))
eight_by IsLine old new given refused TooLong bytes h is = absurd (omega (arith, is))
eight_by IsLine old new given refused NoMemory bytes h is = absurd (omega (arith, is))

pub at_zero : (IsLine : Bool → List ℕ → List ℕ → Bool → Type 0) (old new : Streams) (status : ℕ) → JudgedEnded IsLine old new status
    → status ≡ 0 → AnswersAll IsLine false old new
at_zero IsLine old new status h is = zero_by IsLine old new h.gave.given h.refused h.end h.gave.bytes h.stands (sym h.told ∙ is)

pub at_eight : (IsLine : Bool → List ℕ → List ℕ → Bool → Type 0) (old new : Streams) (status : ℕ) → JudgedEnded IsLine old new status
    → status ≡ 8 → AnswersAll IsLine true old new
at_eight IsLine old new status h is = eight_by IsLine old new h.gave.given h.refused h.end h.gave.bytes h.stands (sym h.told ∙ is)

-- without a fault a run is done, or there is no memory
if_taken : (a b : Option (List ℕ)) (given : List ℕ) (P : List ℕ → Type 0) → Consumes a b given → ((rest : List ℕ) → P (given ++ rest))
    → IfSome a P
if_taken None b given P bytes h = tt
if_taken (Some x) None given P bytes h = absurd bytes
if_taken (Some x) (Some y) given P bytes h = subst P (sym bytes) (h y)

abbrev IsDone : Streams → Streams → ℕ → List ℕ → Type 0
IsDone old new status bytes = length bytes ≤ no_limit → (Rose old.read_faults new.read_faults → ⊥)
    → (Rose old.write_faults new.write_faults → ⊥)
    → (status ≡ 0) ⊎ ((status ≡ 8) ⊎ (status ≡ 6))

done_by : (IsLine : Bool → List ℕ → List ℕ → Bool → Type 0) (old new : Streams) (given rest : List ℕ) (refused : Bool) (end : RunEnd)
    → JudgedStand IsLine given refused old new end → IsDone old new (judged_status end refused) (given ++ rest)
done_by IsLine old new given rest true Done h short read write = inr (inl refl)
done_by IsLine old new given rest false Done h short read write = inl refl
done_by IsLine old new given rest refused ReadFault h short read write = absurd (read h.0)
done_by IsLine old new given rest refused WriteFault h short read write = absurd (write h.0)
done_by IsLine old new given rest refused TooLong h short read write =
    absurd (let sizes = length-append given rest in omega (arith, short, h.0, sizes))
done_by IsLine old new given rest refused NoMemory h short read write = inr (inr refl)

pub done_within : (IsLine : Bool → List ℕ → List ℕ → Bool → Type 0) (old new : Streams) (status : ℕ) → JudgedEnded IsLine old new status
    → IfSome old.left (IsDone old new status)
done_within IsLine old new status h =
    if_taken old.left new.left h.gave.given (IsDone old new status) h.gave.bytes
    (λ rest. subst (λ (n : ℕ). IsDone old new n (h.gave.given ++ rest)) (sym h.told)
    (done_by IsLine old new h.gave.given rest h.refused h.end h.stands))

-- at the status of a read that failed

abbrev ReadStopped : (Bool → List ℕ → List ℕ → Bool → Type 0) → Streams → Streams → Type 0
ReadStopped IsLine old new = Rose old.read_faults new.read_faults × (given : List ℕ) × (refused : Bool) × Consumes old.left new.left given
    × GainsJudged IsLine (whole_lines given) refused old.held new.held

three_by : (IsLine : Bool → List ℕ → List ℕ → Bool → Type 0) (old new : Streams) (given : List ℕ) (refused : Bool) (end : RunEnd)
    → Consumes old.left new.left given → JudgedStand IsLine given refused old new end → judged_status end refused ≡ 3
    → ReadStopped IsLine old new
three_by IsLine old new given true Done bytes h is = absurd (omega (arith, is))
three_by IsLine old new given false Done bytes h is = absurd (omega (arith, is))
three_by IsLine old new given refused ReadFault bytes h is = (h.0, given, refused, bytes, h.1)
three_by IsLine old new given refused WriteFault bytes h is = absurd (omega (arith, is))
three_by IsLine old new given refused TooLong bytes h is = absurd (omega (arith, is))
three_by IsLine old new given refused NoMemory bytes h is = absurd (omega (arith, is))

-- at the status of a write that failed

-- the whole lines of a front of some bytes are the first lines of all
abbrev pub FrontsBegin : Type 0
FrontsBegin = (front rest : List ℕ) → (more : List (List ℕ)) × (lines (front ++ rest) ≡ whole_lines front ++ more)

front_more : (IsLine : Bool → List ℕ → List ℕ → Bool → Type 0) (xs more all : List (List ℕ)) (a b : Option (List ℕ)) → all ≡ xs ++ more
    → GainsJudgedFront IsLine xs a b → GainsJudgedFront IsLine all a b
front_more IsLine xs more all a b same h =
    let f = h.1 in (
      h.0,
      record {
        answered = f.answered;
        others = f.others ++ more;
        back = f.back;
        refused = f.refused;
        split = same ∙ (ap (λ (l : List (List ℕ)). l ++ more) f.split ∙ append_assoc f.answered f.others more);
        outputs = f.outputs;
      },
      h.2,
    )

front_of_all : (IsLine : Bool → List ℕ → List ℕ → Bool → Type 0) → FrontsBegin → (given rest : List ℕ) (a b : Option (List ℕ))
    → GainsJudgedFront IsLine (whole_lines (take no_limit given)) a b → GainsJudgedFront IsLine (lines (given ++ rest)) a b
front_of_all IsLine begin given rest a b h =
    let front : List ℕ = take no_limit given in
    let back : List ℕ = drop no_limit given ++ rest in
    let same : given ++ rest ≡ front ++ back = ap (λ (l : List ℕ). l ++ rest) (sym (take-append-drop no_limit given))
    ∙ append_assoc front (drop no_limit given) rest in
    let first = begin front back in
    front_more IsLine (whole_lines front) first.0 (lines (given ++ rest)) a b (ap lines same ∙ first.1) h

abbrev WriteStopped : (Bool → List ℕ → List ℕ → Bool → Type 0) → Streams → Streams → Type 0
WriteStopped IsLine old new = Rose old.write_faults new.write_faults
    × IfSome old.left (λ bytes. GainsJudgedFront IsLine (lines bytes) old.held new.held)

four_by : (IsLine : Bool → List ℕ → List ℕ → Bool → Type 0) → FrontsBegin
    → (old new : Streams) (given : List ℕ) (refused : Bool) (end : RunEnd) → Consumes old.left new.left given
    → JudgedStand IsLine given refused old new end → judged_status end refused ≡ 4 → WriteStopped IsLine old new
four_by IsLine begin old new given true Done bytes h is = absurd (omega (arith, is))
four_by IsLine begin old new given false Done bytes h is = absurd (omega (arith, is))
four_by IsLine begin old new given refused ReadFault bytes h is = absurd (omega (arith, is))
four_by IsLine begin old new given refused WriteFault bytes h is =
    let P : List ℕ → Type 0 = λ all. GainsJudgedFront IsLine (lines all) old.held new.held in (
      h.0,
      ⊎_elim (λ f. if_taken old.left new.left given P bytes (λ rest. front_of_all IsLine begin given rest old.held new.held f))
          (λ e. Consumes-whole old.left new.left given P bytes e.0 e.1) h.1,
    )
four_by IsLine begin old new given refused TooLong bytes h is = absurd (omega (arith, is))
four_by IsLine begin old new given refused NoMemory bytes h is = absurd (omega (arith, is))

pub means_of : FrontsBegin → (IsLine : Bool → List ℕ → List ℕ → Bool → Type 0) (old new : Streams) (status : ℕ)
    → JudgedEnded IsLine old new status → MeansLines IsLine old new status
means_of begin IsLine old new status h = record {
  answered = at_zero IsLine old new status h;
  refused = at_eight IsLine old new status h;
  read = λ is. three_by IsLine old new h.gave.given h.refused h.end h.gave.bytes h.stands (sym h.told ∙ is);
  write = λ is. four_by IsLine begin old new h.gave.given h.refused h.end h.gave.bytes h.stands (sym h.told ∙ is);
  within = done_within IsLine old new status h;
}

-- no end has the status of unknown words
pub never_two : (end : RunEnd) (refused : Bool) → judged_status end refused ≡ 2 → ⊥
never_two Done true is = omega (arith, is)
never_two Done false is = omega (arith, is)
never_two ReadFault refused is = omega (arith, is)
never_two WriteFault refused is = omega (arith, is)
never_two TooLong refused is = omega (arith, is)
never_two NoMemory refused is = omega (arith, is)
