-- A text in `postgres_verbose` style has one bad name at most, and no shape where it has one.
use Rattle.std.proofs.Common.{◌≡◌, ℕ, ◌+◌, Bool, true, false, List, [], ◌∷◌, ◌++◌, length, sym, ◌∙◌, ap, subst, inl, inr, append_assoc}
use Rattle.std.proofs.Common.{append-nil, length-append, arith}
use Rattle.scan_core.specs.Blanks.{words, EndsWord, EndsInBlank}
use Rattle.scan_core.specs.Count.{Count}
use Rattle.scan_core.proofs.WordFacts.{total_length}
use Rattle.pg_interval_2.specs.Postgres.{AreItems, IsBadName}
use Rattle.pg_interval_2.specs.UnitNames.{verbose_names}
use Rattle.pg_interval_2.specs.Verbose.{IsVerbose, IsVerboseBadName}
use Rattle.pg_interval_2.specs.inside.VerboseParts.{IsBody}
use Rattle.pg_interval_2.specs.inside.ItemReading.{BadLetters, Unspelled, verdict}
use Rattle.pg_interval_2.proofs.BadNames.{bad_verdict, no_shape_at_bad_name, one_bad_name}
use Rattle.pg_interval_2.proofs.Frames.{whole_body, one_frame, whole_words}
use Rattle.pg_interval_2.proofs.ItemFacts.{AreBlanks, first_blank}
use Rattle.pg_interval_2.proofs.ItemSteps.{closed_start}
use Rattle.pg_interval_2.proofs.ItemWords.{words-blanks}
use Rattle.pg_interval_2.proofs.Verdicts.{Names}
use Rattle.pg_interval_2.proofs.VerboseCounts.{are_names, whole_text, zero_verdict}

-- ---- blanks around

ends_still : (after more : List ℕ) → EndsWord after → AreBlanks more → EndsWord (after ++ more)
ends_still [] [] ends blank = tt
ends_still [] (m ∷ ms) ends blank = first_blank m ms blank
ends_still (c ∷ cs) more ends blank = ends

-- with blanks behind
pub bad_after : (names : Names) (body more : List ℕ) (start end : ℕ) → AreBlanks more → IsBadName names body start end
    → IsBadName names (body ++ more) start end
bad_after names body more start end blank h = record {
  lead = h.lead;
  number = h.number;
  blanks = h.blanks;
  letters = h.letters;
  after = h.after ++ more;
  counts = h.counts;
  c = h.c;
  items = h.items;
  closed = h.closed;
  digits = h.digits;
  blank = h.blank;
  some = h.some;
  ascii = h.ascii;
  ends = ends_still h.after more h.ends blank;
  bad = h.bad;
  split = ap (λ (l : List ℕ). l ++ more) h.split ∙ append_assoc h.lead (h.number ++ (h.blanks ++ (h.letters ++ h.after))) more
      ∙ ap (λ (l : List ℕ). h.lead ++ l) (append_assoc h.number (h.blanks ++ (h.letters ++ h.after)) more
      ∙ ap (λ (l : List ℕ). h.number ++ l) (append_assoc h.blanks (h.letters ++ h.after) more
      ∙ ap (λ (l : List ℕ). h.blanks ++ l) (append_assoc h.letters h.after more)));
  starts = h.starts;
  stops = h.stops;
}

closed_behind : (front lead : List ℕ) → AreBlanks front → EndsInBlank lead → EndsInBlank (front ++ lead)
closed_behind front lead blank (inl none) = subst EndsInBlank (sym (ap (λ (l : List ℕ). front ++ l) none ∙ append-nil front))
    (closed_start front blank)
closed_behind front lead blank (inr (before, b, is, split)) = inr
    (front ++ before, b, is, ap (λ (l : List ℕ). front ++ l) split ∙ sym (append_assoc front before (b ∷ [])))

-- with blanks in front
pub bad_before : (names : Names) (front body : List ℕ) (start end : ℕ) → AreBlanks front → IsBadName names body start end
    → IsBadName names (front ++ body) (length front + start) (length front + end)
bad_before names front body start end blank h =
    let lengths = length-append front h.lead in
    let first = h.starts in
    let last = h.stops in
    record {
      lead = front ++ h.lead;
      number = h.number;
      blanks = h.blanks;
      letters = h.letters;
      after = h.after;
      counts = h.counts;
      c = h.c;
      items = subst (λ (all : List (List ℕ)). AreItems names all h.counts) (sym (words-blanks front h.lead blank)) h.items;
      closed = closed_behind front h.lead blank h.closed;
      digits = h.digits;
      blank = h.blank;
      some = h.some;
      ascii = h.ascii;
      ends = h.ends;
      bad = h.bad;
      split = ap (λ (l : List ℕ). front ++ l) h.split ∙ sym (append_assoc front h.lead (h.number ++ (h.blanks ++ (h.letters ++ h.after))));
      starts = omega (arith, lengths, first);
      stops = omega (arith, last);
    }

-- ---- whole texts

whole_bad : (ago : Bool) (body after : List ℕ) (from to : ℕ) → AreBlanks after → IsBadName verbose_names body from to
    → IsBadName verbose_names (whole_body ago body after) from to
whole_bad true body after from to blank h = h
whole_bad false body after from to blank h = bad_after verbose_names body after from to blank h

-- the words of a bad body spell no counts
body_at_bad : (bytes body : List ℕ) (from to : ℕ) (counts : List Count) → IsBadName verbose_names bytes from to → words bytes ≡ words body
    → IsBody body counts
    → ⊥
body_at_bad bytes body from to counts bad same (inl zero) =
    let clash : BadLetters (total_length (words bad.lead) + length bad.number) bad.letters ≡ Unspelled =
    sym (bad_verdict verbose_names are_names bytes from to bad) ∙ ap (verdict verbose_names [] 0) (same ∙ zero.0) ∙ zero_verdict in cc
body_at_bad bytes body from to counts bad same (inr items) =
    no_shape_at_bad_name verbose_names are_names bytes from to counts bad
    (subst (λ (all : List (List ℕ)). AreItems verbose_names all counts) (sym same) items)

pub no_shape_at_bad : (text : List ℕ) (start end : ℕ) (counts : List Count) → IsVerboseBadName text start end → IsVerbose text counts → ⊥
no_shape_at_bad text start end counts a h =
    let same = one_frame text a.before h.before a.body h.body a.ago h.ago a.framed h.framed a.whole (whole_text text counts h) in
    body_at_bad (whole_body a.ago a.body a.framed.after) h.body a.from a.to h.body_counts
    (whole_bad a.ago a.body a.framed.after a.from a.to a.framed.blank_after a.bad)
    (ap words same.whole ∙ whole_words h.ago h.body h.framed.after h.framed.blank_after) h.spelled

pub one_bad : (text : List ℕ) (s e t f : ℕ) → IsVerboseBadName text s e → IsVerboseBadName text t f → (s ≡ t) × (e ≡ f)
one_bad text s e t f a b =
    let same = one_frame text a.before b.before a.body b.body a.ago b.ago a.framed b.framed a.whole b.whole in
    let left = whole_bad a.ago a.body a.framed.after a.from a.to a.framed.blank_after a.bad in
    let right = whole_bad b.ago b.body b.framed.after b.from b.to b.framed.blank_after b.bad in
    let places = one_bad_name verbose_names are_names (whole_body a.ago a.body a.framed.after) a.from a.to b.from b.to left
    (subst (λ (l : List ℕ). IsBadName verbose_names l b.from b.to) (sym same.whole) right) in
    let lengths = ap (λ (l : List ℕ). length l) same.before in
    let first = a.starts in
    let second = b.starts in
    let third = a.stops in
    let fourth = b.stops in
    (omega (arith, lengths, first, second, places.0), omega (arith, lengths, third, fourth, places.1))
