-- Times (ISO 8601-1:2019, 5.3): hours and minutes, perhaps seconds, perhaps a fraction, perhaps an offset. Hour 24 with any minutes and
-- second 60 in any minute are in the grammar; `IsOnClock` says which times a clock shows.
use Rattle.std.specs.Prelude.{◌≡◌, ℕ, ℤ, pos, ◌⊎◌, Bool, List, [], ◌++◌, take, codes}
use Rattle.scan_core.specs.Digits.{AreDigits, number_of}
use Rattle.scan_core.specs.Shares.{signed}
use Rattle.scan_core.specs.Fields.{IsField}
use Rattle.scan_core.specs.Number.{sign_text}
use Rattle.iso8601.specs.Fields.{IsMarked, IsOrZero}
use Rattle.iso8601.specs.declared.types.Time.{Time}

-- a point or a comma, and digits or none, of which three count; filled with zeros on the right they are milliseconds
pub record IsMilliseconds (text : List ℕ) (millis : ℕ) : Type 0 where
  pub point : List ℕ
  pub digits : List ℕ
  pub mark : (point ≡ codes ".") ⊎ (point ≡ codes ",")
  pub all_digits : AreDigits digits
  pub joined : text ≡ point ++ digits
  pub value : millis ≡ number_of (take 3 (digits ++ codes "000"))

-- a sign, which governs both, two digits of hours, and perhaps minutes
pub record IsSignedOffset (text : List ℕ) (offset : ℤ × ℤ) : Type 0 where
  pub negative : Bool
  pub hour_text : List ℕ
  pub minute_text : List ℕ
  pub hour : ℕ
  pub minute : ℕ
  pub hours : IsField 2 0 24 hour_text hour
  pub minutes : IsOrZero (IsMarked (codes ":") 2 0 59) minute_text minute
  pub joined : text ≡ sign_text negative ++ (hour_text ++ minute_text)
  pub value : offset ≡ (signed negative hour, signed negative minute)

-- hours and minutes of an offset: nothing or `Z`, which are 0 and 0, or a signed one
abbrev pub IsOffset : List ℕ → ℤ × ℤ → Type 0
IsOffset text offset =
    ((text ≡ []) × (offset ≡ (pos 0, pos 0)))
    ⊎ (((text ≡ codes "Z") × (offset ≡ (pos 0, pos 0))) ⊎ IsSignedOffset text offset)

-- The text is a time. A fraction is one of a second, also behind minutes without seconds: `16:43.5` is 16:43:00.5, where ISO 8601 has a
-- fraction be one of the last field, and this be 16:43:30.
pub record IsTime (text : List ℕ) (time : Time) : Type 0 where
  pub hour_text : List ℕ
  pub minute_text : List ℕ
  pub second_text : List ℕ
  pub fraction : List ℕ
  pub offset : List ℕ
  pub hours : IsField 2 0 24 hour_text time.hour
  pub minutes : IsMarked (codes ":") 2 0 59 minute_text time.minute
  pub seconds : IsOrZero (IsMarked (codes ":") 2 0 60) second_text time.second
  pub fractions : IsOrZero IsMilliseconds fraction time.millisecond
  pub offsets : IsOffset offset (time.tz_offset_hours, time.tz_offset_minutes)
  pub joined : text ≡ hour_text ++ (minute_text ++ (second_text ++ (fraction ++ offset)))
