-- Durations (ISO 8601-1:2019, 5.5.2): `P`, and behind it counts, weeks, or a date and a time. No kind goes before another. Seconds alone
-- may have a fraction, where the standard has one of the last count, and `PT` is read.
use Rattle.std.specs.Prelude.{◌≡◌, ◌≢◌, ℕ, ◌<◌, ◌^◌, ◌⊎◌, List, [], ◌++◌, length, codes}
use Rattle.scan_core.specs.Digits.{AreDigits, number_of}
use Rattle.scan_core.specs.Fields.{IsField}
use Rattle.iso8601.specs.Fields.{IsMarked, IsOrZero}
use Rattle.iso8601.specs.Times.{IsMilliseconds, IsTime}
use Rattle.iso8601.specs.declared.types.Time.{Time}
use Rattle.iso8601.specs.declared.types.Duration.{Duration}
use Rattle.iso8601.specs.declared.types.Duration.TheVariants.{YMDHMS, Weeks}

-- digits, one or more, of a number of 32 bits
pub record IsNumberOf32Bits (digits : List ℕ) (value : ℕ) : Type 0 where
  pub some : 0 < length digits
  pub all_digits : AreDigits digits
  pub number : value ≡ number_of digits
  pub fits : value < 2 ^ 32

-- a number and the letter of its unit
pub record IsCount (unit text : List ℕ) (value : ℕ) : Type 0 where
  pub digits : List ℕ
  pub number : IsNumberOf32Bits digits value
  pub joined : text ≡ digits ++ unit

-- seconds, a fraction, which may have no digits, and `S`
pub record IsDecimal (text : List ℕ) (value : ℕ × ℕ) : Type 0 where
  pub digits : List ℕ
  pub fraction : List ℕ
  pub number : IsNumberOf32Bits digits value.0
  pub millis : IsMilliseconds fraction value.1
  pub joined : text ≡ digits ++ (fraction ++ codes "S")

-- `T`, and perhaps hours, minutes and seconds
pub record IsDurationClock (text : List ℕ) (value : ℕ × (ℕ × (ℕ × ℕ))) : Type 0 where
  pub hour_text : List ℕ
  pub minute_text : List ℕ
  pub second_text : List ℕ
  pub hours : IsOrZero (IsCount (codes "H")) hour_text value.0
  pub minutes : IsOrZero (IsCount (codes "M")) minute_text value.1.0
  pub seconds : (IsOrZero (IsCount (codes "S")) second_text value.1.1.0 × (value.1.1.1 ≡ 0))
      ⊎ IsDecimal second_text value.1.1
  pub joined : text ≡ codes "T" ++ (hour_text ++ (minute_text ++ second_text))

-- counts, at least one or the `T`
pub record IsCounted (text : List ℕ) (duration : Duration) : Type 0 where
  pub year_text : List ℕ
  pub month_text : List ℕ
  pub day_text : List ℕ
  pub clock_text : List ℕ
  pub year : ℕ
  pub month : ℕ
  pub day : ℕ
  pub clock : ℕ × (ℕ × (ℕ × ℕ))
  pub years : IsOrZero (IsCount (codes "Y")) year_text year
  pub months : IsOrZero (IsCount (codes "M")) month_text month
  pub days : IsOrZero (IsCount (codes "D")) day_text day
  pub clocks : ((clock_text ≡ []) × (clock ≡ (0, (0, (0, 0))))) ⊎ IsDurationClock clock_text clock
  pub some : text ≢ []
  pub joined : text ≡ year_text ++ (month_text ++ (day_text ++ clock_text))
  pub value : duration ≡ YMDHMS year month day clock.0 clock.1.0 clock.1.1.0 clock.1.1.1

-- four digits, perhaps a hyphen, two digits of months, perhaps a hyphen, two digits of days, `T` and a time, whose offset is dropped
pub record IsDated (text : List ℕ) (duration : Duration) : Type 0 where
  pub year_text : List ℕ
  pub month_text : List ℕ
  pub day_text : List ℕ
  pub time_text : List ℕ
  pub year : ℕ
  pub month : ℕ
  pub day : ℕ
  pub time : Time
  pub years : IsField 4 0 9999 year_text year
  pub months : IsMarked (codes "-") 2 1 12 month_text month
  pub days : IsMarked (codes "-") 2 1 31 day_text day
  pub times : IsTime time_text time
  pub joined : text ≡ year_text ++ (month_text ++ (day_text ++ (codes "T" ++ time_text)))
  pub value : duration ≡ YMDHMS year month day time.hour time.minute time.second time.millisecond

-- the text is a duration: `P`, and weeks alone, counts, or a date and a time
abbrev pub IsDuration : List ℕ → Duration → Type 0
IsDuration text duration =
    (body : List ℕ)
    × (((week : ℕ) × IsCount (codes "W") body week × (duration ≡ Weeks week))
    ⊎ (IsCounted body duration ⊎ IsDated body duration))
    × (text ≡ codes "P" ++ body)
