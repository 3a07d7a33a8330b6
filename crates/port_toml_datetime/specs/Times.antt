-- Times, by the TOML specification 1.1, section "Local Time", and `partial-time` of its grammar:
-- hours and minutes, perhaps seconds, and behind these perhaps a fraction. Seconds go to 60 in any
-- minute, where RFC 3339, section 5.7, has a second 60 at leap seconds alone.
use Rattle.std.specs.Prelude.{◌≡◌, ℕ, ◌<◌, ◌⊎◌, List, [], ◌++◌, length, take, codes, Option, Some, None}
use Rattle.scan_core.specs.Digits.{AreDigits, number_of}
use Rattle.scan_core.specs.Fields.{IsField}
use Rattle.port_toml_datetime.specs.declared.time.Time.{Time}

-- the first nine digits of a fraction, filled with zeros on the right. The rest is cut: "truncated,
-- not rounded", says the section
unfoldable pub nanoseconds : List ℕ → ℕ
nanoseconds digits = number_of (take 9 (digits ++ codes "000000000"))

-- `time-secfrac`: a point and digits
pub record IsSecondFraction (text : List ℕ) (nanosecond : Option ℕ) : Type 0 where
  pub digits : List ℕ
  pub some : 0 < length digits
  pub all_digits : AreDigits digits
  pub joined : text ≡ codes "." ++ digits
  pub value : nanosecond ≡ Some (nanoseconds digits)

-- a colon, two digits, and perhaps a fraction
pub record IsSeconds (text : List ℕ) (second nanosecond : Option ℕ) : Type 0 where
  pub digits : List ℕ
  pub fraction : List ℕ
  pub number : ℕ
  pub field : IsField 2 0 60 digits number
  pub fractions : ((fraction ≡ []) × (nanosecond ≡ None)) ⊎ IsSecondFraction fraction nanosecond
  pub joined : text ≡ codes ":" ++ (digits ++ fraction)
  pub value : second ≡ Some number

-- `HH:MM`, and perhaps `:SS`, and perhaps a fraction behind that
pub record IsPartialTime (text : List ℕ) (time : Time) : Type 0 where
  pub hour_text : List ℕ
  pub minute_text : List ℕ
  pub second_text : List ℕ
  pub hours : IsField 2 0 23 hour_text time.hour
  pub minutes : IsField 2 0 59 minute_text time.minute
  pub seconds : ((second_text ≡ []) × (time.second ≡ None) × (time.nanosecond ≡ None))
      ⊎ IsSeconds second_text time.second time.nanosecond
  pub joined : text ≡ hour_text ++ (codes ":" ++ (minute_text ++ second_text))
