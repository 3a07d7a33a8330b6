-- Whole milliseconds: of starts that are read, of steps, and of all instants of a series.
use Rattle.std.proofs.Common.{◌≡◌, inl, inr, ℕ, zero, suc, ◌+◌, ◌*◌, ◌/◌, ◌%◌, List, [], ◌∷◌}
use Rattle.std.proofs.Common.{ℤ, pos, neg_ℤ, negsuc, ◌+ℤ◌, ◌-ℤ◌, ◌*ℤ◌, unsigned_abs, Some, Result, Ok, Err}
use Rattle.std.proofs.Common.{sym, ◌∙◌, ap, true≢false, arith}
use Rattle.std.proofs.lemmas.Int.{ints}
use Rattle.std.proofs.Math.IntN.{suc_ℤ-*ℤ, zero-*ℤ}
use Rattle.std.specs.Result.{is_ok}
use Rattle.iso8601.specs.Calendar.{day_of}
use Rattle.iso8601.specs.declared.types.Date.TheVariants.{YMD}
use Rattle.iso8601.specs.Moments.{offset_of}
use Rattle.iso8601.specs.declared.types.DateTime.{DateTime}
use Rattle.pg_interval_2.specs.declared.interval.Interval.{Interval}
use Rattle.forms.specs.Forms.{Reads}
use Rattle.forms.specs.form.IsoDateTime.{instant_of, Worth}
use Rattle.forms.specs.declared.cause.Cause.{Cause}
use Rattle.forms.specs.declared.form.Form.TheVariants.{IsoDateTime}
use Rattle.forms.specs.declared.value.Value.{Value}
use Rattle.forms.specs.declared.value.Value.TheVariants.{Instant}
use Rattle.recurrence.specs.Instants.{held_day, nanos_of, LeadsTo, IsAt}
use Rattle.recurrence.specs.Series.{AreAt}
use Rattle.recurrence.specs.inside.Steps.{AreCalendarDates}
use Rattle.recurrence.specs.Replies.{IsWholeMillis}
use Rattle.recurrence.specs.inside.Written.{IsInMillis, IsWritable, AreWritable}
use Rattle.recurrence.proofs.Starts.{civil_bounds}

-- ---- starts

millis_of : (day offset : ℤ) (seconds millis : ℕ) → IsInMillis ((day *ℤ pos 86_400_000_000_000 +ℤ pos
    (seconds * 1_000_000_000 + millis * 1_000_000)) -ℤ offset *ℤ pos 1_000_000_000)
millis_of day offset seconds millis = ((day *ℤ pos 86_400_000 +ℤ pos (seconds * 1000 + millis)) -ℤ offset *ℤ pos 1000, omega (arith, ints))

start_millis : (t : DateTime) → IsInMillis (instant_of t)
start_millis t = millis_of (day_of t.date) (offset_of t.time) ((t.time.hour * 60 + t.time.minute) * 60 + t.time.second) t.time.millisecond

-- one result is no other
ok_is_no_err : (value : Value) (cause : Cause) → Ok value ≡ Err cause → ⊥
ok_is_no_err value cause h = true≢false (ap is_ok h)

abbrev value_in : Value → Result Value Cause → Value
value_in other (Ok value) = value
value_in other (Err cause) = other

judged : (t : DateTime) (value : Value) → Worth t (Ok value) → (z : ℤ) × (value ≡ Instant z) × IsInMillis z
judged t value (inl h) = (instant_of t, ap (value_in value) h.2, start_millis t)
judged t value (inr (inl h)) = absurd (ok_is_no_err value _ h.1)
judged t value (inr (inr h)) = absurd (ok_is_no_err value _ h.2)

pub reads_instant : (text : List ℕ) (value : Value) → Reads IsoDateTime text (Ok value) → (z : ℤ) × (value ≡ Instant z) × IsInMillis z
reads_instant text value (inl h) = judged h.0 value h.2
reads_instant text value (inr h) = absurd (ok_is_no_err value _ h.1)

-- ---- steps

pub whole_from_abs : (z : ℤ) → unsigned_abs z % 1000 ≡ 0 → (millis : ℤ) × (z ≡ millis *ℤ pos 1000)
whole_from_abs (pos n) h = (pos (n / 1000), omega (arith, ints, h))
whole_from_abs (negsuc n) h = (neg_ℤ (pos (suc n / 1000)), omega (arith, ints, h))

added : (a b z q r : ℤ) → a ≡ b +ℤ z → b ≡ r *ℤ pos 1000 → z ≡ q *ℤ pos 1000 → a ≡ (r +ℤ q) *ℤ pos 1000
added a b z q r x y w = omega (arith, ints, x, y, w)

times_whole : (k : ℕ) (z q : ℤ) → z ≡ q *ℤ pos 1000 → (r : ℤ) × (pos k *ℤ z ≡ r *ℤ pos 1000)
times_whole zero z q h = (pos 0, zero-*ℤ z ∙ sym (zero-*ℤ (pos 1000)))
times_whole (suc k) z q h = let before = times_whole k z q h in
    (before.0 +ℤ q, added (pos (suc k) *ℤ z) (pos k *ℤ z) z q before.0 (suc_ℤ-*ℤ (pos k) z) before.1 h)

-- ---- instants

in_parts : (day start_day days micros r m start : ℤ) (time : ℕ) → start ≡ start_day *ℤ pos 86_400_000_000_000 +ℤ pos time
    → start ≡ m *ℤ pos 1_000_000 → micros ≡ r *ℤ pos 1000
    → (day *ℤ pos 86_400_000_000_000 +ℤ pos time) +ℤ (days *ℤ pos 86_400_000_000_000 +ℤ micros *ℤ pos 1000)
    ≡ ((((day -ℤ start_day) *ℤ pos 86_400_000 +ℤ m) +ℤ days *ℤ pos 86_400_000) +ℤ r) *ℤ pos 1_000_000
in_parts day start_day days micros r m start time s w t = omega (arith, ints, s, w, t)

led_by : (start : ℤ) (step : Interval) (k : ℕ) (day start_day instant r m : ℤ) (nanos : ℕ)
    → instant ≡ (day *ℤ pos 86_400_000_000_000 +ℤ pos nanos) +ℤ nanos_of step k → start ≡ start_day *ℤ pos 86_400_000_000_000 +ℤ pos nanos
    → start ≡ m *ℤ pos 1_000_000 → pos k *ℤ step.microseconds ≡ r *ℤ pos 1000 → IsInMillis instant
led_by start step k day start_day instant r m nanos ends begins millis times = (
  ((((day -ℤ start_day) *ℤ pos 86_400_000 +ℤ m) +ℤ (pos k *ℤ step.days) *ℤ pos 86_400_000) +ℤ r),
  ends
      ∙ in_parts day start_day (pos k *ℤ step.days) (pos k *ℤ step.microseconds) r m start nanos begins millis times,
)

led_millis : (start : ℤ) (step : Interval) (k : ℕ) (year instant : ℤ) → LeadsTo start step k year instant → IsInMillis start
    → IsWholeMillis step → IsInMillis instant
led_millis start step k year instant lead millis whole =
    let times = times_whole k step.microseconds whole.0 whole.1 in
    led_by start step k (day_of (YMD year lead.month (held_day year lead.month lead.day)))
    (day_of (YMD lead.start_year lead.start_month lead.day)) instant times.0 millis.0 lead.nanos lead.ends lead.begins.within.same
    millis.1 times.1

one_writable : AreCalendarDates → (start : ℤ) (step : Interval) (k : ℕ) (x : ℤ) → IsAt start step k (Some x) → IsInMillis start
    → IsWholeMillis step → IsWritable x
one_writable laws start step k x (year, lead, civil, within) millis whole =
    (civil_bounds laws x within, led_millis start step k year x lead millis whole)

pub all_writable : AreCalendarDates → (start : ℤ) (step : Interval) (k : ℕ) (instants : List ℤ) → AreAt start step k instants
    → IsInMillis start → IsWholeMillis step → AreWritable instants
all_writable laws start step k [] h millis whole = tt
all_writable laws start step k (x ∷ more) h millis whole = (
  one_writable laws start step k x h.0 millis whole,
  all_writable laws start step (k + 1) more h.1 millis whole,
)
