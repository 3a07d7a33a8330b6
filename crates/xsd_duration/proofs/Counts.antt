-- A count in front of a text and the seconds at its end are found, and what is found is there.
use Rattle.std.proofs.Common.{◌≡◌, ℕ, ◌==◌, Bool, true, false, cond, List, [], ◌∷◌, ◌++◌, Some, refl, sym, ◌∙◌, ap, subst}
use Rattle.std.proofs.Common.{append_assoc, append-nil, codes}
use Rattle.std.proofs.lemmas.Bool.{eqb-true, eq-eqb}
use Rattle.std.proofs.lemmas.Option.{cond_some}
use Rattle.std.specs.Char.{is_ascii_digit}
use Rattle.scan_core.specs.Digits.{AreDigits}
use Rattle.scan_core.specs.Fronts.{front_digits, after_digits}
use Rattle.scan_core.proofs.FrontFacts.{front_of, after_of, front_are_digits, front_and_after}
use Rattle.xsd_duration.specs.Durations.{lettered_text, marked_text}
use Rattle.xsd_duration.specs.inside.Reading.{closed_by, fraction_in, is_letter, read_count, read_fraction, read_seconds, seconds_in}

-- ---- a count

abbrev pub IsCounted : ℕ → List ℕ → List ℕ × List ℕ → Type 0
IsCounted letter bytes r = AreDigits r.0 × (bytes ≡ lettered_text r.0 (letter ∷ []) ++ r.1)

closed_if : (t : Bool) (letter b d : ℕ) (bytes ds rest : List ℕ) → (t ≡ true → b ≡ letter) → AreDigits (d ∷ ds)
    → (d ∷ ds) ++ (b ∷ rest) ≡ bytes → IsCounted letter bytes (cond {A = List ℕ × List ℕ} t (d ∷ ds, rest) ([], bytes))
closed_if true letter b d bytes ds rest is digits split = (
  digits,
  sym split ∙ ap (λ (c : ℕ). (d ∷ ds) ++ (c ∷ rest)) (is refl) ∙ sym (append_assoc (d ∷ ds) (letter ∷ []) rest),
)
closed_if false letter b d bytes ds rest is digits split = (tt, refl)

closed_sound : (letter : ℕ) (bytes digits rest : List ℕ) → AreDigits digits → digits ++ rest ≡ bytes
    → IsCounted letter bytes (closed_by letter bytes digits rest)
closed_sound letter bytes [] rest digits split = (tt, refl)
closed_sound letter bytes (d ∷ ds) [] digits split = (tt, refl)
closed_sound letter bytes (d ∷ ds) (b ∷ rest) digits split =
    closed_if (b == letter) letter b d bytes ds rest (eqb-true b letter) digits split

pub count_sound : (letter : ℕ) (bytes : List ℕ) → IsCounted letter bytes (read_count letter bytes)
unfolding read_count
count_sound letter bytes =
    closed_sound letter bytes (front_digits bytes) (after_digits bytes) (front_are_digits bytes) (front_and_after bytes)

-- no count of the letter is in front
abbrev pub Stops : ℕ → List ℕ → Type 0
Stops letter rest = read_count letter rest ≡ ([], rest)

pub stops_nil : (letter : ℕ) → Stops letter []
unfolding read_count
stops_nil letter = refl

pub stops_byte : (letter b : ℕ) (bs : List ℕ) → is_ascii_digit b ≡ false → Stops letter (b ∷ bs)
unfolding read_count
stops_byte letter b bs h = rw h refl

stops_other : (letter b : ℕ) (digits rest : List ℕ) → AreDigits digits → is_ascii_digit b ≡ false → (b == letter) ≡ false
    → Stops letter (digits ++ b ∷ rest)
unfolding read_count
stops_other letter b [] rest digits h other = stops_byte letter b rest h
stops_other letter b (d ∷ ds) rest digits h other =
    let front : front_digits ((d ∷ ds) ++ b ∷ rest) ≡ d ∷ ds = front_of (d ∷ ds) (b ∷ rest) digits h in
    let after : after_digits ((d ∷ ds) ++ b ∷ rest) ≡ b ∷ rest = after_of (d ∷ ds) (b ∷ rest) digits h in
    ap (λ (l : List ℕ). closed_by letter ((d ∷ ds) ++ b ∷ rest) l (after_digits ((d ∷ ds) ++ b ∷ rest))) front
    ∙ ap (λ (l : List ℕ). closed_by letter ((d ∷ ds) ++ b ∷ rest) (d ∷ ds) l) after ∙ rw other refl

pub stops_count : (letter b : ℕ) (digits rest : List ℕ) → AreDigits digits → is_ascii_digit b ≡ false → (b == letter) ≡ false
    → Stops letter rest → Stops letter (lettered_text digits (b ∷ []) ++ rest)
stops_count letter b [] rest digits h other stops = stops
stops_count letter b (d ∷ ds) rest digits h other stops =
    subst (Stops letter) (sym (append_assoc (d ∷ ds) (b ∷ []) rest)) (stops_other letter b (d ∷ ds) rest digits h other)

count_at : (letter d : ℕ) (ds rest : List ℕ) → is_ascii_digit letter ≡ false → AreDigits (d ∷ ds)
    → read_count letter ((d ∷ ds) ++ letter ∷ rest) ≡ (d ∷ ds, rest)
unfolding read_count
count_at letter d ds rest h digits =
    let front : front_digits ((d ∷ ds) ++ letter ∷ rest) ≡ d ∷ ds = front_of (d ∷ ds) (letter ∷ rest) digits h in
    let after : after_digits ((d ∷ ds) ++ letter ∷ rest) ≡ letter ∷ rest = after_of (d ∷ ds) (letter ∷ rest) digits h in
    ap (λ (l : List ℕ). closed_by letter ((d ∷ ds) ++ letter ∷ rest) l (after_digits ((d ∷ ds) ++ letter ∷ rest))) front
    ∙ ap (λ (l : List ℕ). closed_by letter ((d ∷ ds) ++ letter ∷ rest) (d ∷ ds) l) after ∙ rw (eq-eqb letter letter refl) refl

pub count_exact : (letter : ℕ) (digits rest : List ℕ) → is_ascii_digit letter ≡ false → AreDigits digits → Stops letter rest
    → read_count letter (lettered_text digits (letter ∷ []) ++ rest) ≡ (digits, rest)
count_exact letter [] rest h digits stops = stops
count_exact letter (d ∷ ds) rest h digits stops =
    ap (read_count letter) (append_assoc (d ∷ ds) (letter ∷ []) rest) ∙ count_at letter d ds rest h digits

-- ---- seconds

abbrev IsFractioned : List ℕ → List ℕ × List ℕ → Type 0
IsFractioned bytes r = AreDigits r.0 × (bytes ≡ marked_text (codes ".") r.0 ++ r.1)

fraction_made : (b : ℕ) (bs digits rest : List ℕ) → b ≡ 46 → AreDigits digits → digits ++ rest ≡ bs
    → IsFractioned (b ∷ bs) (fraction_in (b ∷ bs) digits rest)
fraction_made b bs [] rest is digits split = (tt, refl)
fraction_made b bs (d ∷ ds) rest is digits split =
    (digits, ap (λ (c : ℕ). c ∷ bs) is ∙ ap (λ (l : List ℕ). 46 ∷ l) (sym split))

fraction_if : (t : Bool) (b : ℕ) (bs : List ℕ) → (t ≡ true → b ≡ 46)
    → IsFractioned (b ∷ bs)
    (cond {A = List ℕ × List ℕ} t (fraction_in (b ∷ bs) (front_digits bs) (after_digits bs)) ([], b ∷ bs))
fraction_if true b bs is = fraction_made b bs (front_digits bs) (after_digits bs) (is refl) (front_are_digits bs) (front_and_after bs)
fraction_if false b bs is = (tt, refl)

fraction_sound : (bytes : List ℕ) → IsFractioned bytes (read_fraction bytes)
unfolding read_fraction
fraction_sound [] = (tt, refl)
fraction_sound (b ∷ bs) = fraction_if (b == 46) b bs (eqb-true b 46)

letter_alone : (letter : ℕ) (bytes : List ℕ) → is_letter letter bytes ≡ true → bytes ≡ letter ∷ []
letter_alone letter [] h = cc
letter_alone letter (b ∷ []) h = ap (λ (c : ℕ). c ∷ []) (eqb-true b letter h)
letter_alone letter (b ∷ c ∷ cs) h = cc

-- the text of seconds
abbrev pub second_text : List ℕ → List ℕ → List ℕ
second_text seconds fraction = lettered_text (seconds ++ marked_text (codes ".") fraction) (codes "S")

-- the bytes are these seconds
pub record AreSeconds (bytes : List ℕ) (r : List ℕ × List ℕ) : Type 0 where
  pub seconds : AreDigits r.0
  pub fraction : AreDigits r.1
  pub pointed : r.0 ≡ [] → r.1 ≡ []
  pub joined : bytes ≡ second_text r.0 r.1

pub some_bytes : (b : ℕ) (bs : List ℕ) → b ∷ bs ≡ [] → ⊥
some_bytes b bs h = cc

pub same_some : {A : Type 0} (a b : A) → Some a ≡ Some b → a ≡ b
same_some a b h = cc

seconds_made : (bytes digits : List ℕ) (r s : List ℕ × List ℕ) → AreDigits digits → IsFractioned (marked_text (codes ".") r.0 ++ r.1) r
    → digits ++ (marked_text (codes ".") r.0 ++ r.1) ≡ bytes → seconds_in digits r ≡ Some s → AreSeconds bytes s
seconds_made bytes [] r s digits fraction split h = cc
seconds_made bytes (d ∷ ds) r s digits fraction split h =
    let found = cond_some (is_letter 83 r.1) _ _ h in
    let last = letter_alone 83 r.1 found.0 in
    let made : AreSeconds bytes (d ∷ ds, r.0) = record {
      seconds = digits;
      fraction = fraction.0;
      pointed = λ none. absurd (some_bytes d ds none);
      joined = sym split ∙ ap (λ (l : List ℕ). (d ∷ ds) ++ (marked_text (codes ".") r.0 ++ l)) last
          ∙ sym (append_assoc (d ∷ ds) (marked_text (codes ".") r.0) (codes "S"));
    } in
    subst (AreSeconds bytes) found.1 made

pub seconds_sound : (bytes : List ℕ) (s : List ℕ × List ℕ) → read_seconds bytes ≡ Some s → AreSeconds bytes s
unfolding read_seconds
seconds_sound [] s h =
    subst (AreSeconds []) (same_some ([], []) s h)
    (record { seconds = tt; fraction = tt; pointed = λ none. refl; joined = refl })
seconds_sound (b ∷ bs) s h =
    let bytes : List ℕ = b ∷ bs in
    let fraction = fraction_sound (after_digits bytes) in
    seconds_made bytes (front_digits bytes) (read_fraction (after_digits bytes)) s (front_are_digits bytes) (fraction.0, refl)
    (ap (λ (l : List ℕ). front_digits bytes ++ l) (sym fraction.1) ∙ front_and_after bytes) h

seconds_at : (d : ℕ) (ds rest : List ℕ) (r : List ℕ × List ℕ) → AreDigits (d ∷ ds) → front_digits ((d ∷ ds) ++ rest) ≡ d ∷ ds
    → after_digits ((d ∷ ds) ++ rest) ≡ rest → read_fraction rest ≡ r → is_letter 83 r.1 ≡ true
    → read_seconds ((d ∷ ds) ++ rest) ≡ Some (d ∷ ds, r.0)
unfolding read_seconds
seconds_at d ds rest r digits front after fraction last =
    let bytes : List ℕ = (d ∷ ds) ++ rest in
    ap (λ (l : List ℕ). seconds_in l (read_fraction (after_digits bytes))) front
    ∙ ap (λ (l : List ℕ). seconds_in (d ∷ ds) (read_fraction l)) after
    ∙ ap (λ (q : List ℕ × List ℕ). seconds_in (d ∷ ds) q) fraction
    ∙ rw last refl

whole_fraction : read_fraction (codes "S") ≡ ([], codes "S")
unfolding read_fraction
whole_fraction = refl

point_fraction : (f : ℕ) (fs : List ℕ) → AreDigits (f ∷ fs) → read_fraction (46 ∷ ((f ∷ fs) ++ codes "S")) ≡ (f ∷ fs, codes "S")
unfolding read_fraction
point_fraction f fs digits =
    let bs : List ℕ = (f ∷ fs) ++ codes "S" in
    let front : front_digits bs ≡ f ∷ fs = front_of (f ∷ fs) (codes "S") digits refl in
    let after : after_digits bs ≡ codes "S" = after_of (f ∷ fs) (codes "S") digits refl in
    ap (λ (l : List ℕ). fraction_in (46 ∷ bs) l (after_digits bs)) front ∙ ap (λ (l : List ℕ). (f ∷ fs, l)) after

-- the text of whole seconds, and with a fraction
whole_text : (d : ℕ) (ds : List ℕ) → second_text (d ∷ ds) [] ≡ (d ∷ ds) ++ codes "S"
whole_text d ds = ap (λ (l : List ℕ). l ++ codes "S") (append-nil (d ∷ ds))

point_text : (d f : ℕ) (ds fs : List ℕ) → second_text (d ∷ ds) (f ∷ fs) ≡ (d ∷ ds) ++ (46 ∷ ((f ∷ fs) ++ codes "S"))
point_text d f ds fs = append_assoc (d ∷ ds) (46 ∷ (f ∷ fs)) (codes "S")

pub seconds_exact : (seconds fraction : List ℕ) → AreDigits seconds → AreDigits fraction → (seconds ≡ [] → fraction ≡ [])
    → read_seconds (second_text seconds fraction) ≡ Some (seconds, fraction)
unfolding read_seconds
seconds_exact [] fraction ds fs pointed = rw (pointed refl) refl
seconds_exact (d ∷ ds) [] digits none pointed =
    ap read_seconds (whole_text d ds)
    ∙ seconds_at d ds (codes "S") ([], codes "S") digits (front_of (d ∷ ds) (codes "S") digits refl)
    (after_of (d ∷ ds) (codes "S") digits refl) whole_fraction refl
seconds_exact (d ∷ ds) (f ∷ fs) digits fraction pointed =
    let rest : List ℕ = 46 ∷ ((f ∷ fs) ++ codes "S") in
    ap read_seconds (point_text d f ds fs)
    ∙ seconds_at d ds rest (f ∷ fs, codes "S") digits (front_of (d ∷ ds) rest digits refl) (after_of (d ∷ ds) rest digits refl)
    (point_fraction f fs fraction) refl

-- no other count stands in front of seconds
pub seconds_stop : (letter : ℕ) (seconds fraction : List ℕ) → (83 == letter) ≡ false → (46 == letter) ≡ false → AreDigits seconds
    → (seconds ≡ [] → fraction ≡ []) → Stops letter (second_text seconds fraction)
seconds_stop letter [] fraction s p digits pointed = rw (pointed refl) (stops_nil letter)
seconds_stop letter (d ∷ ds) [] s p digits pointed =
    subst (Stops letter) (sym (whole_text d ds)) (stops_other letter 83 (d ∷ ds) [] digits refl s)
seconds_stop letter (d ∷ ds) (f ∷ fs) s p digits pointed =
    subst (Stops letter) (sym (point_text d f ds fs)) (stops_other letter 46 (d ∷ ds) ((f ∷ fs) ++ codes "S") digits refl p)
