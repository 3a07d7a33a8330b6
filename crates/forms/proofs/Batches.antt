-- Outputs that are written in batches: what was written and what waits are the outputs for the whole lines so far.
use Rattle.std.proofs.Common.{◌≡◌, ℕ, ◌<◌, List, [], ◌∷◌, ◌++◌, codes, length, take, Option, refl, sym, ◌∙◌, ap, subst, ⊎_elim}
use Rattle.std.proofs.Common.{append_assoc, append-nil}
use Rattle.std.proofs.KnownBytes.{Appends-nil, Appends-trans}
use Rattle.std.specs.Io.KnownBytes.{Appends}
use Rattle.scan_core.proofs.Joins.{join_push}
use Rattle.forms.specs.Lines.{lines, whole_lines}
use Rattle.forms.specs.Outside.{AppendsFront}
use Rattle.forms.specs.Outputs.{cut, AreOutputs, GainsOutputs, GainsOutputsFront, PutsOutput, FailsOutput}
use Rattle.forms.specs.inside.Pieces.{NoFeed, IsEnded, AreWhole, Answers, AnswersLast, FailsLast}
use Rattle.forms.proofs.Cuts.{take_front, take_nil, none_kept, some_kept}
use Rattle.forms.proofs.Outputs.{outputs_push, front_at, next_same}
use Rattle.forms.proofs.LinePieces.{whole_lines_behind, feed_whole, part_alone, no_feed-append}

-- the whole lines before the rest of some bytes have the outputs that were written and that wait
pub record IsAnswered {A : Type 0} (Says : A → List ℕ → List ℕ → A → Type 0) (s t : A) (old new : Option (List ℕ))
    (bytes rest waiting : List ℕ) : Type 0 where
  pub answered : List (List ℕ)
  pub front : List ℕ
  pub written : List ℕ
  pub whole : AreWhole answered front
  pub split : bytes ≡ front ++ rest
  pub outputs : AreOutputs Says s answered (written ++ waiting) t
  pub gained : Appends old new written

-- so it is for a part of a line of which the first bytes were kept
abbrev pub IsGoing : {A : Type 0} → (A → List ℕ → List ℕ → A → Type 0) → ℕ → A → A → Option (List ℕ) → Option (List ℕ) → List ℕ → List ℕ
    → List ℕ → List ℕ → List ℕ → Type 0
IsGoing Says most s t old new first piece kept rest waiting =
    (part : List ℕ) → NoFeed part → first ≡ take most part
    → (now : List ℕ) × NoFeed now × (kept ≡ take most now) × IsAnswered (cut most Says) s t old new (part ++ piece) (now ++ rest) waiting

pub going_none : {A : Type 0} (Says : A → List ℕ → List ℕ → A → Type 0) (most : ℕ) (s : A) (old : Option (List ℕ))
    (first piece waiting : List ℕ) → waiting ≡ [] → IsGoing Says most s s old old first piece first piece waiting
going_none Says most s old first piece waiting none part no_feed kept = (
  part,
  no_feed,
  kept,
  record {
    answered = [];
    front = [];
    written = [];
    whole = refl;
    split = refl;
    outputs = (none, refl);
    gained = Appends-nil old;
  },
)

-- the next line was answered
pub going_put : {A : Type 0} (Says : A → List ℕ → List ℕ → A → Type 0) (most : ℕ) (s t u : A) (a b c : Option (List ℕ))
    (first piece kept rest line after before waiting : List ℕ) → IsGoing Says most s t a b first piece kept rest before
    → NoFeed line → rest ≡ line ++ (codes "\n" ++ after) → PutsOutput Says t (take most (kept ++ line)) u b c before waiting
    → IsGoing Says most s u a c first piece [] after waiting
going_put Says most s t u a b c first piece kept rest line after before waiting going no_feed split puts part part_no_feed was =
    let g = going part part_no_feed was in
    let now : List ℕ = g.0 in
    let h = g.3 in
    let whole : List ℕ = now ++ line in
    let ended : List ℕ = whole ++ codes "\n" in
    let text : List ℕ = puts.0 in
    let m = puts.2 in
    let cuts : take most (kept ++ line) ≡ take most whole = ap (λ (l : List ℕ). take most (l ++ line)) g.2 ∙ take_front most now line in
    let says : cut most Says t whole text u = subst (λ (l : List ℕ). Says t l text u) cuts puts.1 in
    let behind : now ++ rest ≡ ended ++ after =
    ap (λ (l : List ℕ). now ++ l) split ∙ (sym (append_assoc now line (codes "\n" ++ after)) ∙ sym (append_assoc whole (codes "\n") after))
    in (
      [],
      tt,
      sym (take_nil most),
      record {
        answered = h.answered ++ whole ∷ [];
        front = h.front ++ ended;
        written = h.written ++ m.front;
        whole = join_push IsEnded h.front ended h.answered whole h.whole (no_feed-append now line g.1 no_feed, refl);
        split = h.split ∙ (ap (λ (l : List ℕ). h.front ++ l) behind ∙ sym (append_assoc h.front ended after));
        outputs = subst (λ (l : List ℕ). AreOutputs (cut most Says) s (h.answered ++ whole ∷ []) l u)
            (next_same h.written before text m.front waiting m.split)
            (outputs_push (cut most Says) s t u h.answered whole (h.written ++ before) text h.outputs says);
        gained = Appends-trans a b c h.written m.front h.gained m.gained;
      },
    )

-- where a front of what waits was written, that is a front of the outputs
pub going_front : {A : Type 0} (Says : A → List ℕ → List ℕ → A → Type 0) (most : ℕ) (s t : A) (a b c : Option (List ℕ))
    (first piece kept rest waiting : List ℕ) → IsGoing Says most s t a b first piece kept rest waiting → AppendsFront b c waiting
    → (part : List ℕ) → NoFeed part → first ≡ take most part → GainsOutputsFront (cut most Says) s (whole_lines (part ++ piece)) a c
going_front Says most s t a b c first piece kept rest waiting going f part no_feed was =
    let g = going part no_feed was in
    let h = g.3 in
    let split : whole_lines (part ++ piece) ≡ h.answered ++ whole_lines (g.0 ++ rest) = ap whole_lines h.split
    ∙ whole_lines_behind h.answered h.front (g.0 ++ rest) h.whole in
    front_at (cut most Says) s t (whole_lines (part ++ piece)) h.answered
    (whole_lines (g.0 ++ rest)) h.written waiting a b c h.outputs split h.gained f

-- the same with the output for the next line
going_next : {A : Type 0} (Says : A → List ℕ → List ℕ → A → Type 0) (most : ℕ) (s t u : A) (a b c : Option (List ℕ))
    (first piece kept rest line after before text : List ℕ) → IsGoing Says most s t a b first piece kept rest before
    → NoFeed line → rest ≡ line ++ (codes "\n" ++ after) → Says t (take most (kept ++ line)) text u → AppendsFront b c (before ++ text)
    → (part : List ℕ) → NoFeed part → first ≡ take most part → GainsOutputsFront (cut most Says) s (whole_lines (part ++ piece)) a c
going_next Says most s t u a b c first piece kept rest line after before text going no_feed split next f part part_no_feed was =
    let g = going part part_no_feed was in
    let now : List ℕ = g.0 in
    let h = g.3 in
    let whole : List ℕ = now ++ line in
    let cuts : take most (kept ++ line) ≡ take most whole = ap (λ (l : List ℕ). take most (l ++ line)) g.2 ∙ take_front most now line in
    let says : cut most Says t whole text u = subst (λ (l : List ℕ). Says t l text u) cuts next in
    let behind : now ++ rest ≡ whole ++ (codes "\n" ++ after) = ap (λ (l : List ℕ). now ++ l) split
    ∙ sym (append_assoc now line (codes "\n" ++ after)) in
    let lines_here : whole_lines (now ++ rest) ≡ whole ∷ whole_lines after = ap whole_lines behind
    ∙ feed_whole whole after (no_feed-append now line g.1 no_feed) in
    let all : whole_lines (part ++ piece) ≡ (h.answered ++ whole ∷ []) ++ whole_lines after =
    ap whole_lines h.split ∙ (whole_lines_behind h.answered h.front (now ++ rest) h.whole
    ∙ (ap (λ (l : List (List ℕ)). h.answered ++ l) lines_here ∙ sym (append_assoc h.answered (whole ∷ []) (whole_lines after)))) in
    front_at (cut most Says) s u (whole_lines (part ++ piece)) (h.answered ++ whole ∷ []) (whole_lines after) h.written
    (before ++ text) a b c
    (subst (λ (l : List ℕ). AreOutputs (cut most Says) s (h.answered ++ whole ∷ []) l u) (append_assoc h.written before text)
    (outputs_push (cut most Says) s t u h.answered whole (h.written ++ before) text h.outputs says))
    all h.gained f

pub going_fails : {A : Type 0} (Says : A → List ℕ → List ℕ → A → Type 0) (most : ℕ) (s t : A) (a b c : Option (List ℕ))
    (first piece kept rest line after before : List ℕ) → IsGoing Says most s t a b first piece kept rest before
    → NoFeed line → rest ≡ line ++ (codes "\n" ++ after) → FailsOutput Says t (take most (kept ++ line)) b c before
    → (part : List ℕ) → NoFeed part → first ≡ take most part → GainsOutputsFront (cut most Says) s (whole_lines (part ++ piece)) a c
going_fails Says most s t a b c first piece kept rest line after before going no_feed split fails part part_no_feed was =
    ⊎_elim (λ f. going_front Says most s t a b c first piece kept rest before going f part part_no_feed was)
    (λ n. going_next Says most s t n.1 a b c first piece kept rest line after before n.0 going no_feed split n.2 n.3 part part_no_feed was)
    fails

-- where all that waits was written, the whole lines were answered
pub going_all : {A : Type 0} (Says : A → List ℕ → List ℕ → A → Type 0) (most : ℕ) (s t : A) (a b c : Option (List ℕ))
    (first piece kept rest waiting after : List ℕ) → IsGoing Says most s t a b first piece kept rest waiting
    → NoFeed rest → Appends b c waiting → after ≡ take most (kept ++ rest)
    → (part : List ℕ) → NoFeed part → first ≡ take most part
    → (left : List ℕ) × (after ≡ take most left) × Answers (cut most Says) s t (part ++ piece) left a c
going_all Says most s t a b c first piece kept rest waiting after going no_feed last kept_so part part_no_feed was =
    let g = going part part_no_feed was in
    let h = g.3 in
    let left : List ℕ = g.0 ++ rest in (
      left,
      kept_so ∙ (ap (λ (l : List ℕ). take most (l ++ rest)) g.2 ∙ take_front most g.0 rest),
      record {
        answered = h.answered;
        front = h.front;
        whole = h.whole;
        split = h.split;
        left = no_feed-append g.0 rest g.1 no_feed;
        gained = (h.written ++ waiting, h.outputs, Appends-trans a b c h.written waiting h.gained last);
      },
    )

-- ---- the last line, which no line feed ends

pub last_none : {A : Type 0} (Says : A → List ℕ → List ℕ → A → Type 0) (s : A) (a : Option (List ℕ)) (kept : List ℕ) → kept ≡ []
    → AnswersLast Says s s kept a a
last_none Says s a kept none most part some no_feed was =
    let nothing : part ≡ [] = none_kept most part some (sym none ∙ was) in
    subst (λ (l : List ℕ). GainsOutputs (cut most Says) s (lines l) s a a) (sym nothing) ([], (refl, refl), Appends-nil a)

pub last_answered : {A : Type 0} (Says : A → List ℕ → List ℕ → A → Type 0) (s t : A) (a b c : Option (List ℕ))
    (kept before waiting : List ℕ) → before ≡ [] → 0 < length kept
    → PutsOutput Says s kept t a b before waiting → Appends b c waiting → AnswersLast Says s t kept a c
last_answered Says s t a b c kept before waiting none some puts written most part most_some no_feed was =
    let m = puts.2 in
    let text : List ℕ = puts.0 in
    let same : text ≡ m.front ++ waiting = ap (λ (l : List ℕ). l ++ text) (sym none) ∙ m.split in
    let says : cut most Says s part text t = subst (λ (l : List ℕ). Says s l text t) was puts.1 in
    subst (λ (l : List (List ℕ)). GainsOutputs (cut most Says) s l t a c)
    (sym (part_alone part no_feed (some_kept most kept part was some))) (
      m.front ++ waiting,
      (text, [], t, says, (refl, refl), sym same ∙ sym (append-nil text)),
      Appends-trans a b c m.front waiting m.gained written,
    )

-- so many first bytes of the only output were written
last_front : {A : Type 0} (Says : A → List ℕ → List ℕ → A → Type 0) (s t : A) (a c : Option (List ℕ)) (kept before text : List ℕ)
    → before ≡ [] → 0 < length kept
    → Says s kept text t → AppendsFront a c (before ++ text) → FailsLast Says s kept a c
last_front Says s t a c kept before text none some next f most part most_some no_feed was =
    let says : cut most Says s part text t = subst (λ (l : List ℕ). Says s l text t) was next in
    let same : before ++ text ≡ text = ap (λ (l : List ℕ). l ++ text) none in
    front_at (cut most Says) s t (lines part) (part ∷ []) [] [] (before ++ text) a a c
    (text, [], t, says, (refl, refl), same ∙ sym (append-nil text)) (part_alone part no_feed (some_kept most kept part was some))
    (Appends-nil a) f

last_no_front : {A : Type 0} (Says : A → List ℕ → List ℕ → A → Type 0) (s : A) (a c : Option (List ℕ)) (kept before : List ℕ) → before ≡ []
    → AppendsFront a c before → FailsLast Says s kept a c
last_no_front Says s a c kept before none f most part most_some no_feed was =
    front_at (cut most Says) s s (lines part) [] (lines part) [] before a a c (none, refl) refl (Appends-nil a) f

pub last_fails : {A : Type 0} (Says : A → List ℕ → List ℕ → A → Type 0) (s : A) (a c : Option (List ℕ)) (kept before : List ℕ) → before ≡ []
    → 0 < length kept
    → FailsOutput Says s kept a c before → FailsLast Says s kept a c
last_fails Says s a c kept before none some fails =
    ⊎_elim (λ f. last_no_front Says s a c kept before none f) (λ n. last_front Says s n.1 a c kept before n.0 none some n.2 n.3) fails

-- the output waits, and a front of it was written
pub last_unwritten : {A : Type 0} (Says : A → List ℕ → List ℕ → A → Type 0) (s t : A) (a b c : Option (List ℕ))
    (kept before waiting : List ℕ) → before ≡ [] → 0 < length kept
    → PutsOutput Says s kept t a b before waiting → AppendsFront b c waiting → FailsLast Says s kept a c
last_unwritten Says s t a b c kept before waiting none some puts f most part most_some no_feed was =
    let m = puts.2 in
    let text : List ℕ = puts.0 in
    let same : m.front ++ waiting ≡ text = sym m.split ∙ ap (λ (l : List ℕ). l ++ text) none in
    let says : cut most Says s part text t = subst (λ (l : List ℕ). Says s l text t) was puts.1 in
    front_at (cut most Says) s t (lines part) (part ∷ []) [] m.front waiting a b c
    (text, [], t, says, (refl, refl), same ∙ sym (append-nil text))
    (part_alone part no_feed (some_kept most kept part was some)) m.gained f
