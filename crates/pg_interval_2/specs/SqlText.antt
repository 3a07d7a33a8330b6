-- The one text that is written of an interval in `sql_standard` style (PostgreSQL's manual, section 8.5.5, "Interval Output"):
-- `1-2` of months alone, `3 4:05:06` of days and time, `+1-2 -3 +4:05:06` of all three, and `0` of zero.
use Rattle.std.specs.Prelude.{ℕ, pos, int_lt, Bool, not, List, [], ◌∷◌, ◌++◌, codes, decimal, ◌&&◌, ◌||◌, if◌then◌else◌}
use Rattle.std.specs.List.{join_with_byte}
use Rattle.std.specs.Ordering.{int_eq}
use Rattle.pg_interval_2.specs.declared.interval.Interval.{Interval}
use Rattle.pg_interval_2.specs.Parts.{parts_of, is_zero, clock_text}
use Rattle.scan_core.specs.Number.{minus, sign_text}

-- each number has a sign of its own: two of them have opposite signs, or months stand beside days or time
abbrev pub needs_signs : Interval → Bool
needs_signs t =
    let p = parts_of t in
    ((p.months_negative || (p.days_negative || p.time_negative))
    && (int_lt (pos 0) t.months || (int_lt (pos 0) t.days || int_lt (pos 0) t.microseconds)))
    || (not (int_eq t.months (pos 0))
    && not (int_eq t.days (pos 0) && int_eq t.microseconds (pos 0)))

-- a year-month, days and a time, each with its sign, or one or two of them under one sign
unfoldable pub sql_text : Interval → List ℕ
sql_text t =
    let p = parts_of t in
    let year_month = decimal p.years ++ (codes "-" ++ decimal p.months) in
    let time = clock_text 1 p in
    if is_zero t then codes "0"
    else if needs_signs t then join_with_byte 32
    ((sign_text p.months_negative ++ year_month)
    ∷ (sign_text p.days_negative ++ decimal p.days)
    ∷ (sign_text p.time_negative ++ time)
    ∷ [])
    else if not (int_eq t.months (pos 0)) then (minus p.months_negative ++ year_month)
    else if not (int_eq t.days (pos 0)) then join_with_byte 32
    ((minus p.days_negative ++ decimal p.days) ∷ time ∷ [])
    else (minus p.time_negative ++ time)
