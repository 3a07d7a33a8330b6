-- Times of day, after RFC 9110, section 5.6.7, and RFC 5322, section 3.3, where they go from 00:00:00 to 23:59:60. Hour 24 is in the
-- grammar here, and is no moment, as second 60 is none.
use Rattle.std.specs.Prelude.{◌≡◌, ℕ, List, ◌++◌, codes}
use Rattle.scan_core.specs.Fields.{IsField}

-- hours, minutes and seconds of two digits each: `08:49:37`
pub record IsFullClock (text : List ℕ) (hour minute second : ℕ) : Type 0 where
  pub hour_text : List ℕ
  pub minute_text : List ℕ
  pub second_text : List ℕ
  pub hours : IsField 2 0 24 hour_text hour
  pub minutes : IsField 2 0 59 minute_text minute
  pub seconds : IsField 2 0 60 second_text second
  pub joined : text ≡ hour_text ++ (codes ":" ++ (minute_text ++ (codes ":" ++ second_text)))

-- hours and minutes, with second 0: `08:49`
pub record IsShortClock (text : List ℕ) (hour minute second : ℕ) : Type 0 where
  pub hour_text : List ℕ
  pub minute_text : List ℕ
  pub hours : IsField 2 0 24 hour_text hour
  pub minutes : IsField 2 0 59 minute_text minute
  pub joined : text ≡ hour_text ++ (codes ":" ++ minute_text)
  pub on_minute : second ≡ 0
