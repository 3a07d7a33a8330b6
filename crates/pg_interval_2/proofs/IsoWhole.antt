-- The ISO shape as one record, and by cases.
use Rattle.std.proofs.Common.{◌≡◌, ◌≢◌, ◌⊎◌, ℕ, Bool, true, false, List, [], ◌∷◌, ◌++◌, length, codes, Option, refl, sym, ◌∙◌, ap, subst}
use Rattle.std.proofs.Common.{append-nil, length-append, arith, inl, inr, ⊎_elim}
use Rattle.scan_core.specs.Count.{Count}
use Rattle.scan_core.specs.declared.share.Unit.{Unit as TimeUnit}
use Rattle.pg_interval_2.specs.Iso.{IsIso, unit_in}
use Rattle.pg_interval_2.specs.IsoStrict.{AreInOrder, IsIsoStrict}
use Rattle.pg_interval_2.specs.inside.UnitsInOrder.{units_in_order}
use Rattle.pg_interval_2.specs.inside.IsoShapes.{ArePairs, IsDateAlone, IsDateAndTime, IsIsoEither, IsStrictEither}

pub whole : (units : Bool → ℕ → Option TimeUnit) (text : List ℕ) (counts : List Count)
    → IsDateAlone units text counts ⊎ IsDateAndTime units text counts → IsIso units text counts
whole units text counts (inl (date, pairs, some, spelled)) = record {
  date = date;
  time = [];
  rest = [];
  date_counts = counts;
  time_counts = [];
  dates = pairs;
  times = refl;
  timed = inl (refl, refl, some);
  joined = spelled ∙ ap (λ (l : List ℕ). codes "P" ++ l) (sym (append-nil date));
  counted = sym (append-nil counts);
}
whole units text counts (inr t) = record {
  date = t.date;
  time = t.time;
  rest = codes "T" ++ t.time;
  date_counts = t.date_counts;
  time_counts = t.time_counts;
  dates = t.dates;
  times = t.times;
  timed = inr refl;
  joined = t.spelled;
  counted = t.counted;
}

-- no text is no pairs
no_pairs : (unit_of : ℕ → Option TimeUnit) (bytes : List ℕ) (counts : List Count) → ArePairs unit_of bytes counts → bytes ≡ [] → counts ≡ []
no_pairs unit_of bytes [] are none = refl
no_pairs unit_of bytes (c ∷ cs) (piece, rest, pair, more, split) none =
    let number : List ℕ = pair.number in
    let whole_length = ap length (sym none ∙ split) in
    let piece_length = ap length pair.joined in
    absurd (omega (arith, whole_length, piece_length, length-append piece rest, length-append number (pair.letter ∷ [])))

-- without a `T`
alone : (units : Bool → ℕ → Option TimeUnit) (text : List ℕ) (counts : List Count) (iso : IsIso units text counts)
    → iso.rest ≡ [] → iso.time ≡ [] → iso.date ≢ []
    → (counts ≡ iso.date_counts) × IsDateAlone units text counts
alone units text counts iso none empty some =
    let no_counts = no_pairs (units true) iso.time iso.time_counts iso.times empty in
    let same : counts ≡ iso.date_counts = iso.counted ∙ (ap (λ (cs : List Count). iso.date_counts ++ cs) no_counts
    ∙ append-nil iso.date_counts) in
    let spelled : text ≡ codes "P" ++ iso.date = iso.joined ∙ ap (λ (l : List ℕ). codes "P" ++ l)
    (ap (λ (l : List ℕ). iso.date ++ l) none ∙ append-nil iso.date) in
    (same, (iso.date, subst (λ (cs : List Count). ArePairs (units false) iso.date cs) (sym same) iso.dates, some, spelled))

-- with a `T`
timed : (units : Bool → ℕ → Option TimeUnit) (text : List ℕ) (counts : List Count) (iso : IsIso units text counts)
    → iso.rest ≡ codes "T" ++ iso.time
    → IsDateAndTime units text counts
timed units text counts iso behind = record {
  date = iso.date;
  time = iso.time;
  date_counts = iso.date_counts;
  time_counts = iso.time_counts;
  dates = iso.dates;
  times = iso.times;
  spelled = iso.joined ∙ ap (λ (l : List ℕ). codes "P" ++ (iso.date ++ l)) behind;
  counted = iso.counted;
}

pub either : (text : List ℕ) (counts : List Count) → IsIso unit_in text counts → IsIsoEither text counts
either text counts iso = ⊎_elim (λ none. inl (alone unit_in text counts iso none.0 none.1 none.2).1)
    (λ behind. inr (timed unit_in text counts iso behind)) iso.timed

pub whole_strict : (text : List ℕ) (counts : List Count) → IsStrictEither text counts → IsIsoStrict text counts
unfolding whole
whole_strict text counts (inl (date, ordered)) = (
  whole unit_in text counts (inl date),
  ordered,
  tt,
  (λ none. absurd (omega (arith, ap length none))),
)
whole_strict text counts (inr (both, dates, times, some)) =
    (whole unit_in text counts (inr both), dates, times, (λ none. let empty : both.time ≡ [] = cc in some empty))

pub strict_either : (text : List ℕ) (counts : List Count) → IsIsoStrict text counts → IsStrictEither text counts
unfolding timed
strict_either text counts (iso, dates, times, some) =
    ⊎_elim
    (λ none. let is = alone unit_in text counts iso none.0 none.1 none.2 in inl
    (is.1, subst (AreInOrder (units_in_order false)) (sym is.0) dates))
    (λ behind. inr (
      timed unit_in text counts iso behind,
      dates,
      times,
      (λ empty. some (behind ∙ ap (λ (l : List ℕ). codes "T" ++ l) empty)),
    ))
    iso.timed
