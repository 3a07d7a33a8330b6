-- The interval forms: what counts are worth, what interval is held of a value, and that it is read back. What is said is said of any style.
use Rattle.std.proofs.Common.{◌≡◌, ℕ, ◌/◌, ◌%◌, ◌==◌, ◌&&◌, false, IsTrue, List, Some, None, Ok, Err, FitsSigned, w32, w64, refl, sym}
use Rattle.std.proofs.Common.{◌∙◌, ap, subst, inl, inr, arith}
use Rattle.std.specs.Prelude.{ℤ, pos, Result}
use Rattle.std.proofs.lemmas.Bool.{and_parts, and_left, and_right, false_from_ne_true}
use Rattle.std.proofs.lemmas.Bool.Decides.{nat_tests}
use Rattle.std.proofs.lemmas.Int.{ints}
use Rattle.scan_core.specs.Count.{Count}
use Rattle.scan_core.specs.Shares.{fits_type}
use Rattle.scan_core.specs.Sums.{fits, misfit, total}
use Rattle.scan_core.specs.declared.share.Part.{Part}
use Rattle.scan_core.specs.declared.share.Part.TheVariants.{Months, Days, Micros}
use Rattle.scan_core.proofs.SumFacts.{misfit-none}
use Rattle.pg_interval_2.specs.declared.error.ParseError.{ParseError}
use Rattle.pg_interval_2.specs.declared.error.ParseError.TheVariants.{InvalidInterval, BadUnit, InvalidYearMonth, InvalidDay, InvalidTime}
use Rattle.pg_interval_2.specs.declared.interval.Interval.{Interval}
use Rattle.pg_interval_2.specs.declared.style.Style.{Style}
use Rattle.pg_interval_2.specs.Denotes.{Denotes, HasNoShape, Misfits, Refuses}
use Rattle.pg_interval_2.specs.Ranges.{IsInRange}
use Rattle.pg_interval_2.specs.Styles.{Shape, style_text}
use Rattle.forms.specs.declared.cause.Cause.{Cause}
use Rattle.forms.specs.declared.cause.Cause.TheVariants.{Syntax, Range, Kind, Precision}
use Rattle.forms.specs.declared.form.Form.{Form}
use Rattle.forms.specs.declared.value.Value.{Value}
use Rattle.forms.specs.declared.value.Value.TheVariants.{Triple, Length}
use Rattle.forms.specs.Answers.{Is, ReadsBy}
use Rattle.forms.specs.Values.{IsWithinBounds, Same, IsLength}
use Rattle.forms.specs.form.Intervals.{FindsInterval, worth, interval_of, interval_of_length, held}
use Rattle.forms.specs.inside.Lawful.{Lawful}
use Rattle.forms.specs.inside.Readers.{IsRefusedBy}
use Rattle.scan_core.proofs.FitFacts.{within_32, within_64, fits_32, fits_64}
use Rattle.forms.proofs.Fitting.{widen}
use Rattle.forms.proofs.Lawful.{AreAscii, then_ok, same_ok, one_image, IsHeldBack, HasRows, lawful_by}

-- a length in whole days of 86_400 seconds and the microseconds beyond them
abbrev pub length_in_days : ℕ → Interval
length_in_days nanos = record {
  months = pos 0;
  days = pos (nanos / 86_400_000_000_000);
  microseconds = pos (nanos % 86_400_000_000_000 / 1000);
}

-- the sums of the shares of all counts
abbrev pub sum_of : List Count → Interval
sum_of counts = record {
  months = total Months counts;
  days = total Days counts;
  microseconds = total Micros counts;
}

-- the triple of an interval
abbrev pub triple : Interval → Value
triple t = Triple t.months t.days t.microseconds

-- ---- reading

pub worth_fits : (counts : List Count) → IsTrue (fits counts) → worth counts ≡ Ok (triple (sum_of counts))
unfolding worth
worth_fits counts h = rw h refl

pub worth_misfits : (counts : List Count) → fits counts ≡ false → worth counts ≡ Err Range
unfolding worth
worth_misfits counts h = rw h refl

pub not_fitting : (counts : List Count) (part : Part) → misfit counts ≡ Some part → fits counts ≡ false
not_fitting counts part h = false_from_ne_true (fits counts) (λ all. let none : None ≡ Some part = sym ((misfit-none counts).1 all)
    ∙ h in cc)

pub reads_denoted : (Spells : List ℕ → List Count → Type 0) (text : List ℕ) (t : Interval) → Denotes Spells text t
    → ReadsBy Spells (Is worth) text (Ok (triple t))
reads_denoted Spells text t h = inl (h.0, h.1, ap (λ (u : Interval). Ok (triple u)) h.3 ∙ sym (worth_fits h.0 h.2))

pub reads_interval : (s : Style) (text : List ℕ) (t : Interval) → Denotes (Shape s) text t
    → ReadsBy (Shape s) (Is worth) text (Ok (triple t))
reads_interval s = reads_denoted (Shape s)

pub reads_as : (Spells : List ℕ → List Count → Type 0) (text : List ℕ) (t : Interval) (months days micros : ℤ) → Denotes Spells text t
    → months ≡ t.months → days ≡ t.days → micros ≡ t.microseconds
    → ReadsBy Spells (Is worth) text (Ok (Triple months days micros))
reads_as Spells text t months days micros h m d u = rw (m, d, u) (reads_denoted Spells text t h)

pub reads_no_shape : (s : Style) (text : List ℕ) → HasNoShape (Shape s) text
    → ReadsBy (Shape s) (Is worth) text (Err Syntax)
reads_no_shape s text h = inr (h, refl)

pub reads_refused : (s : Style) (text : List ℕ) (cause : Cause) → FindsInterval s text (Err cause)
    → ReadsBy (Shape s) (Is worth) text (Err cause)
reads_refused s text Syntax h = reads_no_shape s text h
reads_refused s text Range h = inl (h.1.0, h.1.1, sym (worth_misfits h.1.0 (not_fitting h.1.0 h.0 h.1.2)))
reads_refused s text _ h = absurd h

-- ---- one answer

-- a text spells one list of counts in each style
abbrev pub OneList : Type 0
OneList = (s : Style) (text : List ℕ) (a b : List Count) → Shape s text a → Shape s text b → a ≡ b

-- counts that fit have no part that doesn't
fit_or_not : (counts : List Count) (part : Part) → IsTrue (fits counts) → misfit counts ≡ Some part → ⊥
fit_or_not counts part all some = absurd (let none : None ≡ Some part = sym ((misfit-none counts).1 all) ∙ some in cc)

one_and_none : OneList → (s : Style) (text : List ℕ) (t : Interval) (part : Part) → Denotes (Shape s) text t → Misfits (Shape s) text part
    → ⊥
one_and_none one s text t part (counts, spelled, fit, is) (counts₂, spelled₂, misfits) =
    fit_or_not counts part fit (ap misfit (one s text counts counts₂ spelled spelled₂) ∙ misfits)

pub one_found : OneList → (s : Style) (text : List ℕ) (a b : Result Interval Cause) → FindsInterval s text a → FindsInterval s text b
    → a ≡ b
one_found one s text (Ok t) (Ok u) (counts, spelled, fit, is) (counts₂, spelled₂, fit₂, is₂) =
    ap Ok (is ∙ (ap sum_of (one s text counts counts₂ spelled spelled₂) ∙ sym is₂))
one_found one s text (Ok t) (Err Syntax) h k = absurd (k h.0 h.1)
one_found one s text (Ok t) (Err Range) h k = absurd (one_and_none one s text t k.0 h k.1)
one_found one s text (Ok t) (Err _) h k = absurd k
one_found one s text (Err Syntax) (Ok u) h k = absurd (h k.0 k.1)
one_found one s text (Err Syntax) (Err Syntax) h k = refl
one_found one s text (Err Syntax) (Err Range) h k = absurd (h k.1.0 k.1.1)
one_found one s text (Err Syntax) (Err _) h k = absurd k
one_found one s text (Err Range) (Ok u) h k = absurd (one_and_none one s text u h.0 k h.1)
one_found one s text (Err Range) (Err Syntax) h k = absurd (k h.1.0 h.1.1)
one_found one s text (Err Range) (Err Range) h k = refl
one_found one s text (Err Range) (Err _) h k = absurd k
one_found one s text (Err _) b h k = absurd h

-- ---- what a reader's error says

pub error_says : (s : Style) (IsBadPlace : List ℕ → ℕ → ℕ → Type 0) (message text : List ℕ) (error : ParseError)
    → Refuses (Shape s) IsBadPlace message text error → IsRefusedBy s text error
error_says s IsBadPlace message text (InvalidInterval m) h = record { range = λ r. absurd r; no_range = λ n. h.0 }
error_says s IsBadPlace message text (BadUnit start end) h = record { range = λ r. absurd r; no_range = λ n. h.0 }
error_says s IsBadPlace message text (InvalidYearMonth m) h = record { range = λ r. (Months, h.0); no_range = λ n. absurd (n tt) }
error_says s IsBadPlace message text (InvalidDay m) h = record { range = λ r. (Days, h.0); no_range = λ n. absurd (n tt) }
error_says s IsBadPlace message text (InvalidTime m) h = record { range = λ r. (Micros, h.0); no_range = λ n. absurd (n tt) }

-- ---- the interval of a value

pub held_parts : (months days micros : ℤ) → FitsSigned w32 months → FitsSigned w32 days → FitsSigned w64 micros
    → interval_of months days micros ≡ Ok (record { months = months; days = days; microseconds = micros })
unfolding interval_of
held_parts months days micros m d u = rw (fits_32 months m, fits_32 days d, fits_64 micros u) refl

outside : (z : ℤ) → (FitsSigned w32 z → ⊥) → fits_type Days z ≡ false
outside z isnt = false_from_ne_true (fits_type Days z) (λ h. isnt (within_32 z h))

-- an interval that was made of such parts
pub made_of : (made : Interval) (m d u months days micros : ℤ) → made ≡ record { months = m; days = d; microseconds = u } → m ≡ months
    → d ≡ days → u ≡ micros → FitsSigned w32 months → FitsSigned w32 days → FitsSigned w64 micros
    → Ok made ≡ interval_of months days micros
made_of made m d u months days micros is me de ue mf df uf = let whole : made
    ≡ record { months = months; days = days; microseconds = micros } = is ∙ rw (me, de, ue) refl in
    ap Ok whole ∙ sym (held_parts months days micros mf df uf)

pub no_months : (months days micros : ℤ) → (FitsSigned w32 months → ⊥) → interval_of months days micros ≡ Err Range
unfolding interval_of
no_months months days micros isnt = rw (and_left _ (fits_type Days days && fits_type Micros micros) (outside months isnt)) refl

pub no_days : (months days micros : ℤ) → (FitsSigned w32 days → ⊥) → interval_of months days micros ≡ Err Range
unfolding interval_of
no_days months days micros isnt = rw (and_right (fits_type Months months) _ (and_left _ (fits_type Micros micros) (outside days isnt))) refl

pub held_length : (nanos : ℕ) → FitsSigned w32 (pos (nanos / 86_400_000_000_000)) → nanos % 1000 ≡ 0
    → interval_of_length nanos ≡ Ok (length_in_days nanos)
unfolding interval_of_length
held_length nanos d whole = rw (fits_32 _ d, whole) refl

-- an interval that was made of a length
pub made_of_length : (made : Interval) (d u : ℤ) (nanos : ℕ) → made ≡ record { months = pos 0; days = d; microseconds = u }
    → d ≡ pos (nanos / 86_400_000_000_000) → u ≡ pos (nanos % 86_400_000_000_000 / 1000)
    → FitsSigned w32 (pos (nanos / 86_400_000_000_000)) → nanos % 1000 ≡ 0 → Ok made ≡ interval_of_length nanos
made_of_length made d u nanos is de ue fits whole = let same : made ≡ length_in_days nanos = is ∙ rw (de, ue) refl in
    ap Ok same ∙ sym (held_length nanos fits whole)

pub no_length_days : (nanos : ℕ) → (FitsSigned w32 (pos (nanos / 86_400_000_000_000)) → ⊥)
    → interval_of_length nanos ≡ Err Range
unfolding interval_of_length
no_length_days nanos isnt = rw (outside _ isnt) refl

pub no_whole_micros : (nanos : ℕ) → FitsSigned w32 (pos (nanos / 86_400_000_000_000)) → (nanos % 1000 ≡ 0 → ⊥)
    → interval_of_length nanos ≡ Err Precision
unfolding interval_of_length
no_whole_micros nanos d some =
    let rest : (nanos % 1000 == 0) ≡ false = grind (arith, nat_tests) in
    rw (fits_32 _ d, rest) refl

-- ---- the laws

-- what the laws of the crates below say of a grammar of counts
abbrev pub IsDenotedInRange : (List ℕ → List Count → Type 0) → Type 0
IsDenotedInRange Spells = (text : List ℕ) (t : Interval) → Denotes Spells text t → IsInRange t

abbrev pub IsWrittenBack : Style → Type 0
IsWrittenBack s = (t : Interval) → IsInRange t → Denotes (Shape s) (style_text s t) t

within_triple : (t : Interval) → IsInRange t → IsWithinBounds (triple t)
within_triple t r = (widen _ r.months, (widen _ r.days, r.microseconds))

pub within : (Spells : List ℕ → List Count → Type 0) → IsDenotedInRange Spells → (text : List ℕ) (counts : List Count) (value : Value)
    → Spells text counts → worth counts ≡ Ok value → IsWithinBounds value
unfolding worth
within Spells in_range text counts value spelled h =
    let parts = then_ok (fits counts) (Ok (triple (sum_of counts))) value Range h in
    let denoted = in_range text (sum_of counts) (counts, spelled, parts.0, refl) in
    subst IsWithinBounds (same_ok (triple (sum_of counts)) value parts.1) (within_triple (sum_of counts) denoted)

pub interval_held : (months days micros : ℤ) (t : Interval) → interval_of months days micros ≡ Ok t
    → IsInRange t × (Triple months days micros ≡ triple t)
unfolding interval_of
interval_held months days micros t h =
    let parts = then_ok (fits_type Months months && (fits_type Days days && fits_type Micros micros)) _ t Range h in
    let first = and_parts (fits_type Months months) (fits_type Days days && fits_type Micros micros) parts.0 in
    let second = and_parts (fits_type Days days) (fits_type Micros micros) first.1 in
    let made : Interval = record { months = months; days = days; microseconds = micros } in
    let same : made ≡ t = same_ok made t parts.1 in
    let range : IsInRange made = record { months = within_32 _ first.0; days = within_32 _ second.0; microseconds = within_64 _ second.1 }
    in
    (subst IsInRange same range, ap triple same)

pub length_held : (nanos : ℕ) (t : Interval) → interval_of_length nanos ≡ Ok t
    → IsInRange t × IsLength nanos t.months t.days t.microseconds
unfolding interval_of_length
length_held nanos t h =
    let first = then_ok (fits_type Days (pos (nanos / 86_400_000_000_000))) _ t Range h in
    let second = then_ok (nanos % 1000 == 0) (Ok (length_in_days nanos)) t Precision first.1 in
    let same = same_ok (length_in_days nanos) t second.1 in
    let whole : nanos % 1000 ≡ 0 = let e = second.0 in grind (arith, nat_tests) in
    let made : IsInRange (length_in_days nanos) = record {
      months = record { sfits = omega arith };
      days = within_32 _ first.0;
      microseconds = record { sfits = omega arith };
    } in
    let long : IsLength nanos (pos 0) (pos (nanos / 86_400_000_000_000))
    (pos (nanos % 86_400_000_000_000 / 1000)) = (refl, omega (arith, ints)) in
    (subst IsInRange same made, subst (λ (u : Interval). IsLength nanos u.months u.days u.microseconds) same long)

abbrev pub IsHeld : Style → Value → Interval → Type 0
IsHeld s value t = IsHeldBack (Shape s) (Is worth) (Is held) (style_text s t) value t

held_by : (s : Style) → IsWrittenBack s → (value : Value) (t : Interval) → IsInRange t → Same value (triple t)
    → IsHeld s value t
held_by s written_back value t range same =
    let d = written_back t range in
    record {
      meaning = d.0;
      back = triple t;
      spelled = d.1;
      valued = sym (worth_fits d.0 d.2 ∙ ap (λ (u : Interval). Ok (triple u)) (sym d.3));
      same = same;
      again = sym (held_parts t.months t.days t.microseconds range.months range.days range.microseconds);
    }

held_back : (s : Style) → IsWrittenBack s → (value : Value) (t : Interval) → IsWithinBounds value → held value ≡ Ok t
    → IsHeld s value t
held_back s written_back (Triple months days micros) t w h = let found = interval_held months days micros t h in
    held_by s written_back (Triple months days micros) t found.0 found.1
held_back s written_back (Length nanos) t w h = let found = length_held nanos t h in held_by s written_back (Length nanos) t found.0 found.1
held_back s written_back _ t w h = absurd (let e : Err Kind ≡ Ok t = h in cc)

pub intervals : (form : Form) (s : Style) → HasRows form (Shape s) (Is worth) (Is held) (style_text s)
    → ((text : List ℕ) (a b : List Count) → Shape s text a → Shape s text b → a ≡ b) → IsDenotedInRange (Shape s) → IsWrittenBack s
    → AreAscii (Shape s) → Lawful form
intervals form s rows one in_range written_back ascii =
    lawful_by form (Shape s) (Is worth) (Is held) (style_text s) rows
    (record {
      one = one;
      one_worth = one_image worth;
      one_held = one_image held;
      ascii = ascii;
      within = λ text counts value spelled h. within (Shape s) in_range text counts value spelled (sym h);
      back = λ value t w h. held_back s written_back value t w (sym h);
    })
