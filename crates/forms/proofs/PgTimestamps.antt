-- PostgreSQL's timestamps as a form: their values in nanoseconds, what is held of a value, and that it is read back.
use Rattle.std.proofs.Common.{◌≡◌, ℕ, ◌*◌, ◌/◌, ◌%◌, List, Result, Ok, Err, Option, None, Some, refl, sym, ◌∙◌, ap, subst}
use Rattle.std.proofs.Common.{inl, inr, arith}
use Rattle.std.specs.Prelude.{ℤ, pos, ◌*ℤ◌, ◌≤ℤ◌, unsigned_abs}
use Rattle.std.specs.Int.{int_div_euclid, int_rem_euclid}
use Rattle.std.proofs.lemmas.Int.{ints}
use Rattle.jiff_core.proofs.SignedLemmas.{signed_arith}
use Rattle.pg_timestamp.specs.Dates.{date_number}
use Rattle.pg_timestamp.specs.Timestamps.{IsTimestampText}
use Rattle.pg_timestamp.specs.Values.{IsInRange, IsRealTimestamp, IsWithinBounds as IsTimestampValue, last_day, micros_of_day, timed}
use Rattle.pg_timestamp.specs.Values.{value_of, value_at}
use Rattle.pg_timestamp.specs.Written.{IsValueText, IsUtc, IsWritten, IsZero}
use Rattle.pg_timestamp.specs.declared.time.Time.{Time}
use Rattle.pg_timestamp.specs.declared.timestamp.Timestamp.{Timestamp}
use Rattle.pg_timestamp.specs.declared.value.Value.{Value as TimestampValue}
use Rattle.pg_timestamp.specs.declared.value.Value.TheVariants as timestamp
use Rattle.forms.specs.declared.cause.Cause.{Cause}
use Rattle.forms.specs.declared.cause.Cause.TheVariants.{Range, Kind, Precision}
use Rattle.forms.specs.declared.form.Form.TheVariants.{PgTimestamp}
use Rattle.forms.specs.declared.value.Value.{Value}
use Rattle.forms.specs.declared.value.Value.TheVariants.{Instant, Day, Local, Clock, Triple, Length}
use Rattle.forms.specs.Values.{IsWithinBounds, IsOfDay, Same}
use Rattle.forms.specs.form.PgTimestamp.{in_nanos, Holds, HoldsMicros, Worth}
use Rattle.forms.specs.inside.PgTimestampParts.{FindsMicros}
use Rattle.forms.specs.inside.Lawful.{Lawful}
use Rattle.forms.proofs.Judging.{one_judged, judged_within}
use Rattle.forms.proofs.Lawful.{AreAscii, IsHeldBack, lawful_by}

-- ---- reading

-- a value of a timestamp is a value of forms
pub within_nanos : (value : TimestampValue) → IsTimestampValue value → IsWithinBounds (in_nanos value)
within_nanos (timestamp.Day day) h = let least = h.0 in let most = h.1 in (omega (arith, ints), omega (arith, ints))
within_nanos (timestamp.Local day micros) h =
    let least = h.0 in
    let most = h.1 in
    let clock = h.2 in
    ((omega (arith, ints), omega (arith, ints)), (omega (arith, ints), omega (arith, ints)))
within_nanos (timestamp.Moment micros) h = let least = h.0 in let most = h.1 in omega (arith, ints)

worth_within : (t : Timestamp) (value : Value) → Worth t (Ok value) → IsWithinBounds value
worth_within t value h = judged_within (IsRealTimestamp t) (IsInRange t) (in_nanos (value_of t)) value
    (λ real range. within_nanos (value_of t) range.0) h

-- ---- writing

-- what the law of the crate below says: a value has one text
abbrev pub HasOneText : Type 0
HasOneText = (value : TimestampValue) (s t : List ℕ) → IsValueText value s → IsValueText value t → s ≡ t

one_micros : HasOneText → (value : TimestampValue) (nanos : ℤ) (a b : Result (List ℕ) Cause) → HoldsMicros value nanos a
    → HoldsMicros value nanos b → a ≡ b
one_micros one value nanos a b (inl h) (inl k) = h.1 ∙ sym k.1
one_micros one value nanos a b (inl h) (inr (inl k)) = absurd (h.0 k.0)
one_micros one value nanos a b (inl h) (inr (inr k)) = absurd (h.0 k.0)
one_micros one value nanos a b (inr (inl h)) (inl k) = absurd (k.0 h.0)
one_micros one value nanos a b (inr (inl h)) (inr (inl k)) = h.2 ∙ sym k.2
one_micros one value nanos a b (inr (inl h)) (inr (inr k)) = absurd (h.1 k.1)
one_micros one value nanos a b (inr (inr h)) (inl k) = absurd (k.0 h.0)
one_micros one value nanos a b (inr (inr h)) (inr (inl k)) = absurd (k.1 h.1)
one_micros one value nanos a b (inr (inr (within, zero, text, is, held))) (inr (inr (within', zero', other, is', held'))) =
    held ∙ (ap Ok (one value text other is is') ∙ sym held')

one_held : HasOneText → (value : Value) (a b : Result (List ℕ) Cause) → Holds value a → Holds value b → a ≡ b
one_held one (Instant nanos) a b h k = one_micros one _ _ a b h k
one_held one (Day day) a b h k = one_micros one _ _ a b h k
one_held one (Local day nanos) a b h k = one_micros one _ _ a b h k
one_held one (Clock nanos) a b h k = h ∙ sym k
one_held one (Triple months days micros) a b h k = h ∙ sym k
one_held one (Length nanos) a b h k = h ∙ sym k

-- what is found of a value's parts is so of the same ones
pub same_parts : (micros other : TimestampValue) (nanos later : ℤ) (found : Result TimestampValue Cause)
    → FindsMicros (HoldsMicros micros nanos) found → micros ≡ other → nanos ≡ later → FindsMicros (HoldsMicros other later) found
same_parts micros other nanos later found h m n =
    subst (λ (z : ℤ). FindsMicros (HoldsMicros other z) found) n (subst (λ (v : TimestampValue). FindsMicros (HoldsMicros v nanos) found) m h)

pub same_value : (value other : Value) (found : Result TimestampValue Cause) → value ≡ other → FindsMicros (Holds other) found
    → FindsMicros (Holds value) found
same_value value other found same h = subst (λ (v : Value). FindsMicros (Holds v) found) (sym same) h

-- ---- what is held is read back

-- what the law of the crate below says: a text of a value is read as a timestamp that has it
abbrev pub AreReadBack : Type 0
AreReadBack = (value : TimestampValue) (text : List ℕ) → IsValueText value text → (t : Timestamp) × IsTimestampText text t × IsWritten value t

-- a day in UTC isn't past the last one where its moment isn't
early_time : (day : ℤ) (micros : ℕ) (offset : Option ℤ) → IsZero offset → IsTimestampValue (timed day micros offset) → day ≤ℤ last_day
early_time day micros None utc h = h.1
early_time day micros (Some seconds) utc h = let zero : seconds ≡ pos 0 = utc in let most = h.1 in omega (arith, ints)

early_by : (day : ℤ) (time : Option Time) → IsUtc time → IsTimestampValue (value_at day time) → day ≤ℤ last_day
early_by day None utc h = h.1
early_by day (Some time) utc h = early_time day (micros_of_day time) time.offset utc h

in_range : (value : TimestampValue) (t : Timestamp) → IsTimestampValue value → IsWritten value t → IsInRange t
in_range value t h w =
    let bounds : IsTimestampValue (value_of t) = subst IsTimestampValue (sym w.value_is) h in
    (bounds, early_by (date_number t.date) t.time w.utc bounds)

-- what is held of a value whose nanoseconds are whole microseconds
abbrev pub IsMicros : Value → TimestampValue → Type 0
IsMicros value micros = (value ≡ in_nanos micros) × IsTimestampValue micros

held_micros : (micros : TimestampValue) (nanos : ℤ) (text : List ℕ) → HoldsMicros micros nanos (Ok text)
    → IsTimestampValue micros × (nanos ≡ pos 0) × IsValueText micros text
held_micros micros nanos text (inl h) = absurd (let e : Ok text ≡ Err Range = h.1 in cc)
held_micros micros nanos text (inr (inl h)) = absurd (let e : Ok text ≡ Err Precision = h.2 in cc)
held_micros micros nanos text (inr (inr (within, zero, other, is, held))) =
    (within, zero, subst (IsValueText micros) (let e : Ok text ≡ Ok other = held in cc) is)

-- the value itself, its microseconds and their text
abbrev pub IsHeldIn : Value → List ℕ → Type 0
IsHeldIn value text = (micros : TimestampValue) × (value ≡ in_nanos micros) × IsTimestampValue micros × IsValueText micros text

whole_moment : (nanos : ℤ) → int_rem_euclid nanos (pos 1000) ≡ pos 0 → nanos ≡ int_div_euclid nanos (pos 1000) *ℤ pos 1000
whole_moment nanos zero = omega (arith, signed_arith)

whole_local : (nanos : ℤ) → IsOfDay nanos → unsigned_abs nanos % 1000 ≡ 0 → nanos ≡ pos (unsigned_abs nanos / 1000 * 1000)
whole_local nanos of_day zero = omega (arith, ints)

held_in : (value : Value) (text : List ℕ) → IsWithinBounds value → Holds value (Ok text) → IsHeldIn value text
held_in (Instant nanos) text bounds h =
    let held = held_micros _ _ text h in
    (_, ap Instant (whole_moment nanos held.1), held.0, held.2)
held_in (Day day) text bounds h = let held = held_micros _ _ text h in (timestamp.Day day, refl, held.0, held.2)
held_in (Local day nanos) text bounds h =
    let held = held_micros _ _ text h in
    let zero = held.1 in (
      timestamp.Local day (unsigned_abs nanos / 1000),
      ap (λ (z : ℤ). Local day z) (whole_local nanos bounds.1 (omega (arith, ints))),
      held.0,
      held.2,
    )
held_in (Clock nanos) text bounds h = absurd (let e : Ok text ≡ Err Kind = h in cc)
held_in (Triple months days micros) text bounds h = absurd (let e : Ok text ≡ Err Kind = h in cc)
held_in (Length nanos) text bounds h = absurd (let e : Ok text ≡ Err Kind = h in cc)

same_nanos : (micros : TimestampValue) → Same (in_nanos micros) (in_nanos micros)
same_nanos (timestamp.Day day) = refl
same_nanos (timestamp.Local day micros) = refl
same_nanos (timestamp.Moment micros) = refl

held_back : AreReadBack → (value : Value) (text : List ℕ) → IsWithinBounds value → Holds value (Ok text)
    → IsHeldBack IsTimestampText Worth Holds text value text
held_back back value text bounds h =
    let held = held_in value text bounds h in
    let t = back held.0 text held.3 in
    let w = t.2 in
    record {
      meaning = t.0;
      back = in_nanos held.0;
      spelled = t.1;
      valued = inl (w.real, in_range held.0 t.0 held.2 w, ap (λ (v : TimestampValue). Ok (in_nanos v)) (sym w.value_is));
      same = subst (λ (v : Value). Same v (in_nanos held.0)) (sym held.1) (same_nanos held.0);
      again = subst (λ (v : Value). Holds v (Ok text)) held.1 h;
    }

-- ---- the laws

pub timestamps : ((text : List ℕ) (a b : Timestamp) → IsTimestampText text a → IsTimestampText text b → a ≡ b) → HasOneText → AreReadBack
    → AreAscii IsTimestampText → Lawful PgTimestamp
timestamps one one_text back ascii =
    lawful_by PgTimestamp IsTimestampText Worth Holds (λ text. text)
    (record { reads = λ text a h. h; read = λ text a h. h; writes = λ value a h. h; written = λ value a h. h })
    (record {
      one = one;
      one_worth = λ t a b h k. one_judged (IsRealTimestamp t) (IsInRange t) (in_nanos (value_of t)) a b h k;
      one_held = one_held one_text;
      ascii = ascii;
      within = λ text t value spelled h. worth_within t value h;
      back = held_back back;
    })
