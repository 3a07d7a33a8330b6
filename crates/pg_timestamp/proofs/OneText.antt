-- A value has one text.
use Rattle.std.proofs.Common.{◌≡◌, ℕ, ◌/◌, ◌%◌, ◌<◌, List, refl, sym, ◌∙◌, ap, arith, Option, Some, None}
use Rattle.std.specs.Prelude.{ℤ, pos, ◌+ℤ◌, ◌-ℤ◌, ◌*ℤ◌}
use Rattle.std.proofs.lemmas.Int.{ints}
use Rattle.pg_timestamp.specs.Dates.{date_number}
use Rattle.pg_timestamp.specs.Values.{IsClockTime, IsRealTime, micros_of_day, timed, value_at, value_of}
use Rattle.pg_timestamp.specs.Written.{IsValueText, IsUtc, IsWritten, IsZero, timestamp_text}
use Rattle.pg_timestamp.specs.declared.time.Time.{Time}
use Rattle.pg_timestamp.specs.declared.timestamp.Timestamp.{Timestamp}
use Rattle.pg_timestamp.specs.declared.value.Value.{Value}
use Rattle.pg_timestamp.specs.declared.value.Value.TheVariants.{Day}
use Rattle.pg_timestamp.proofs.DayFacts.{YearsFollow, one_date}
use Rattle.pg_timestamp.proofs.PlaceFacts.{timestamp_is}
use Rattle.pg_timestamp.proofs.TimeFacts.{time_is}
use Rattle.pg_timestamp.proofs.ValueFacts.{clock_small}

-- ---- the fields of a clock by its microseconds

hour_by : (t : Time) → IsClockTime t → t.hour ≡ micros_of_day t / 3_600_000_000
hour_by t (h, m, s, f) = omega (arith, m, s, f)

minute_by : (t : Time) → IsClockTime t → t.minute ≡ micros_of_day t / 60_000_000 % 60
minute_by t (h, m, s, f) = omega (arith, m, s, f)

second_by : (t : Time) → IsClockTime t → t.second ≡ micros_of_day t / 1_000_000 % 60
second_by t (h, m, s, f) = omega (arith, m, s, f)

micros_by : (t : Time) → IsClockTime t → t.micros ≡ micros_of_day t % 1_000_000
micros_by t (h, m, s, f) = omega (arith, f)

one_clock : (a b : Time) → IsClockTime a → IsClockTime b → micros_of_day a ≡ micros_of_day b → a.offset ≡ b.offset → a ≡ b
one_clock a b h k same offset =
    time_is a b (hour_by a h ∙ ap (λ (n : ℕ). n / 3_600_000_000) same ∙ sym (hour_by b k))
    (minute_by a h ∙ ap (λ (n : ℕ). n / 60_000_000 % 60) same ∙ sym (minute_by b k))
    (second_by a h ∙ ap (λ (n : ℕ). n / 1_000_000 % 60) same ∙ sym (second_by b k))
    (micros_by a h ∙ ap (λ (n : ℕ). n % 1_000_000) same ∙ sym (micros_by b k)) offset

-- ---- days and times by their value

abbrev IsSame : ℤ → ℕ → Option ℤ → ℤ → ℕ → Option ℤ → Type 0
IsSame d m o e n p = (d ≡ e) × (m ≡ n) × (o ≡ p)

one_timed : (d e : ℤ) (m n : ℕ) (o p : Option ℤ) → m < 86_400_000_000 → n < 86_400_000_000 → IsZero o → IsZero p → timed d m o ≡ timed e n p
    → IsSame d m o e n p
one_timed d e m n None None a b y z h = (cc, cc, refl)
one_timed d e m n None (Some t) a b y z h = absurd cc
one_timed d e m n (Some s) None a b y z h = absurd cc
one_timed d e m n (Some s) (Some t) a b y z h =
    let same : ((d *ℤ pos 86_400_000_000) +ℤ pos m) -ℤ (s *ℤ pos 1_000_000)
    ≡ ((e *ℤ pos 86_400_000_000) +ℤ pos n) -ℤ (t *ℤ pos 1_000_000) = cc in
    let zeros : s ≡ t = y ∙ sym z in
    let day : d ≡ e = omega (arith, ints, same, zeros, a, b) in
    (day, omega (arith, ints, same, zeros, day), ap (λ (k : ℤ). Some k) zeros)

time_no_day : (d e : ℤ) (m : ℕ) (o : Option ℤ) → timed d m o ≡ Day e → ⊥
time_no_day d e m None h = absurd cc
time_no_day d e m (Some s) h = absurd cc

one_at : (d e : ℤ) (a b : Option Time) → IsRealTime a → IsRealTime b → IsUtc a → IsUtc b → value_at d a ≡ value_at e b → (d ≡ e) × (a ≡ b)
one_at d e None None r s u v h = (cc, refl)
one_at d e None (Some t) r s u v h = absurd (time_no_day e d (micros_of_day t) t.offset (sym h))
one_at d e (Some t) None r s u v h = absurd (time_no_day d e (micros_of_day t) t.offset h)
one_at d e (Some t) (Some w) r s u v h =
    let same = one_timed d e (micros_of_day t) (micros_of_day w) t.offset w.offset (clock_small t r.0) (clock_small w s.0) u v h in
    (same.0, ap (λ (x : Time). Some x) (one_clock t w r.0 s.0 same.1 same.2))

one_written : YearsFollow → (value : Value) (a b : Timestamp) → IsWritten value a → IsWritten value b → a ≡ b
one_written next value a b h k =
    let same : value_of a ≡ value_of b = h.value_is ∙ sym k.value_is in
    let parts = one_at (date_number a.date) (date_number b.date) a.time b.time h.real.1 k.real.1 h.utc k.utc same in
    timestamp_is a b (one_date next a.date b.date h.real.0 k.real.0 parts.0) parts.1

pub one_text : YearsFollow → (value : Value) (s t : List ℕ) → IsValueText value s → IsValueText value t → s ≡ t
one_text next value s t (a, h, is) (b, k, are) = is ∙ ap timestamp_text (one_written next value a b h k) ∙ sym are
