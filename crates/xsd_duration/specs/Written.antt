-- The one text that is written of an interval (W3C XML Schema 1.1 part 2, section 3.3.6.2, appendix E.2, `durationCanonicalMap`, but days
-- and hours stay apart): `P1Y2M3DT4H5M6.5S`, `-P1D`, and `PT0S` of zero. XML Schema has one sign for the whole.
use Rattle.std.specs.Prelude.{ℕ, pos, ◌==◌, ◌&&◌, ◌||◌, not, Bool, List, [], decimal, ℤ, if◌then◌else◌}
use Rattle.std.specs.Ordering.{int_eq}
use Rattle.std.specs.Int.{is_negative}
use Rattle.scan_core.specs.Padded.{padded_digits, trimmed_digits}
use Rattle.pg_interval_2.specs.declared.interval.Interval.{Interval}
use Rattle.pg_interval_2.specs.Parts.{parts_of, is_zero}
use Rattle.xsd_duration.specs.Durations.{Spelling, spelling_text}

-- the number is above zero
abbrev pub is_positive : ℤ → Bool
is_positive z = not (is_negative z) && not (int_eq z (pos 0))

-- a part is below zero
abbrev pub has_negative : Interval → Bool
has_negative t = is_negative t.months || (is_negative t.days || is_negative t.microseconds)

-- a part is above zero
abbrev pub has_positive : Interval → Bool
has_positive t = is_positive t.months || (is_positive t.days || is_positive t.microseconds)

-- no part is above zero while another is below
unfoldable pub has_one_sign : Interval → Bool
has_one_sign t = not (has_negative t && has_positive t)

-- the digits of a number, none of 0
abbrev pub digits_of : ℕ → List ℕ
digits_of n = if n == 0 then [] else decimal n

-- Years and months, days, hours, minutes and seconds, each left out where it is 0. The fraction ends in no zero, and behind a whole
-- part of 0 it has a `0`; of an interval of zero `0` seconds are left.
abbrev pub written_spelling : Interval → Spelling
written_spelling t =
    let p = parts_of t in record {
      negative = has_negative t;
      years = digits_of p.years;
      months = digits_of p.months;
      days = digits_of p.days;
      hours = digits_of p.hours;
      minutes = digits_of p.minutes;
      seconds =
          if (p.micros == 0) && not (is_zero t) then digits_of p.seconds else decimal p.seconds;
      fraction = trimmed_digits (padded_digits 6 p.micros);
    }

-- the written text
unfoldable pub xml_duration_text : Interval → List ℕ
xml_duration_text t = spelling_text (written_spelling t)
