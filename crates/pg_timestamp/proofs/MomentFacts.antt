-- The day and the time of a moment in UTC.
use Rattle.std.proofs.Common.{◌≡◌, ℕ, ◌/◌, ◌%◌, ◌<◌, arith, refl, ◌∙◌, ap, Option, Some}
use Rattle.std.specs.Prelude.{ℤ, pos, ◌+ℤ◌, ◌-ℤ◌, ◌*ℤ◌}
use Rattle.std.proofs.lemmas.Int.{ints}
use Rattle.pg_timestamp.specs.Dates.{IsRealDate, date_number}
use Rattle.pg_timestamp.specs.Values.{IsClockTime, IsShort, micros_of_day, timed}
use Rattle.pg_timestamp.specs.Written.{IsWritten, IsZero}
use Rattle.pg_timestamp.specs.declared.date.Date.{Date}
use Rattle.pg_timestamp.specs.declared.time.Time.{Time}
use Rattle.pg_timestamp.specs.declared.value.Value.TheVariants.{Moment}

moment_is : (m day : ℤ) (since micros : ℕ) → pos since ≡ m +ℤ pos 210_866_803_200_000_000
    → day ≡ pos (since / 86_400_000_000) -ℤ pos 2_440_588 → micros ≡ since % 86_400_000_000
    → ((day *ℤ pos 86_400_000_000) +ℤ pos micros) -ℤ (pos 0 *ℤ pos 1_000_000) ≡ m
moment_is m day since micros s d r = omega (arith, ints, s, d, r)

pub moment_written : (m : ℤ) (since : ℕ) (date : Date) (time : Time) → pos since ≡ m +ℤ pos 210_866_803_200_000_000 → IsRealDate date
    → date_number date ≡ pos (since / 86_400_000_000) -ℤ pos 2_440_588 → date.year < 40_000 → IsClockTime time
    → micros_of_day time ≡ since % 86_400_000_000 → time.offset ≡ Some (pos 0)
    → IsWritten (Moment m) (record { date = date; time = Some time })
moment_written m since date time from real day held clock micros offset =
    let short : IsShort time.offset = rw offset (omega arith) in
    let zero_is : IsZero time.offset = rw offset refl in
    let value : timed (date_number date) (micros_of_day time) time.offset ≡ timed (date_number date) (micros_of_day time) (Some (pos 0)) =
    ap (λ (o : Option ℤ). timed (date_number date) (micros_of_day time) o) offset in
    record {
      real = (real, (clock, short));
      utc = zero_is;
      value_is = value ∙ ap (λ (z : ℤ). Moment z) (moment_is m (date_number date) since (micros_of_day time) from day micros);
      year = held;
    }
