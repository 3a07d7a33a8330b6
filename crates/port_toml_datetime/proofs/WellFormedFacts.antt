-- What a text spells is well-formed.
use Rattle.std.proofs.Common.{ℕ, ◌+◌, ◌*◌, ◌≤◌, Bool, true, false, zero, suc, List, Option, Some, arith, inl, inr}
use Rattle.port_toml_datetime.specs.declared.date.Date.{Date}
use Rattle.port_toml_datetime.specs.declared.time.Time.{Time}
use Rattle.port_toml_datetime.specs.declared.offset.Offset.{Offset}
use Rattle.port_toml_datetime.specs.declared.offset.Offset.TheVariants.{Custom}
use Rattle.port_toml_datetime.specs.declared.datetime.Datetime.{Datetime}
use Rattle.port_toml_datetime.specs.Dates.{IsFullDate}
use Rattle.port_toml_datetime.specs.Times.{IsPartialTime}
use Rattle.port_toml_datetime.specs.inside.GrammarParts.{IsPerhapsSecondFraction, IsPerhapsSeconds}
use Rattle.scan_core.specs.Shares.{signed}
use Rattle.port_toml_datetime.specs.Offsets.{IsTimeOffset}
use Rattle.port_toml_datetime.specs.Datetimes.{IsDatetime}
use Rattle.port_toml_datetime.specs.inside.GrammarParts.{IsPerhapsOffset}
use Rattle.port_toml_datetime.specs.WellFormed.{IsRealDay, AreRealSeconds, IsRealTime, IsOffsetInRange, AreWellFormed, IsWellFormed}
use Rattle.port_toml_datetime.proofs.FractionFacts.{nine_short}

real_day : (text : List ℕ) (date : Date) → IsFullDate text date → IsRealDay date
real_day text date i = record {
  year = i.years.most;
  month = i.months.least;
  months = i.months.most;
  day = i.days.least;
  days = i.days.most;
}

some_seconds : (s : ℕ) (piece : List ℕ) (value : Option ℕ) → s ≤ 60 → IsPerhapsSecondFraction piece value → AreRealSeconds (Some s) value
some_seconds s piece value most (inl none) = rw none.1 most
some_seconds s piece value most (inr f) = rw f.value (most, nine_short f.digits f.all_digits)

real_seconds : (piece : List ℕ) (second value : Option ℕ) → IsPerhapsSeconds piece second value → AreRealSeconds second value
real_seconds piece second value (inl none) = rw (none.1, none.2) tt
real_seconds piece second value (inr f) = rw f.value (some_seconds f.number f.fraction value f.field.most f.fractions)

real_time : (text : List ℕ) (time : Time) → IsPartialTime text time → IsRealTime time
real_time text time i = record {
  hour = i.hours.most;
  minute = i.minutes.most;
  seconds = real_seconds i.second_text time.second time.nanosecond i.seconds;
}

signed_in_range : (negative : Bool) (n : ℕ) → n ≤ 1439 → IsOffsetInRange (Custom (signed negative n))
signed_in_range false n h = h
signed_in_range true zero h = omega arith
signed_in_range true (suc n) h = omega (arith, h)

in_range : (text : List ℕ) (offset : Offset) → IsTimeOffset text offset → IsOffsetInRange offset
in_range text offset (inl (is, z)) = rw z tt
in_range text offset (inr i) = rw i.value (signed_in_range i.negative (60 * i.hour + i.minute)
    (omega (arith, i.hours.most, i.minutes.most)))

moment : (date : Date) (time : Time) (text : List ℕ) (offset : Option Offset) → IsRealDay date → IsRealTime time
    → IsPerhapsOffset text offset → AreWellFormed (Some date) (Some time) offset
moment date time text offset d t (inl none) = rw none.1 (d, t)
moment date time text offset d t (inr (o, is, e)) = rw e (d, t, in_range text o is)

pub well_formed : (text : List ℕ) (value : Datetime) → IsDatetime text value → IsWellFormed value
well_formed text value (inl m) = rw m.made (moment m.date m.time m.offset_text m.offset (real_day m.date_text m.date m.dates)
    (real_time m.time_text m.time m.times) m.offsets)
well_formed text value (inr (inl (date, is, made))) = rw made (real_day text date is)
well_formed text value (inr (inr (time, is, made))) = rw made (real_time text time is)
