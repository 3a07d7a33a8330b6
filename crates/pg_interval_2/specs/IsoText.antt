-- The one text that is written of an interval in ISO style: `P1Y2M3DT4H5M6.500000S`, and `PT0S` of zero.
use Rattle.std.specs.Prelude.{ℕ, pos, Bool, List, [], ◌++◌, codes, decimal, ◌==◌, if◌then◌else◌}
use Rattle.std.specs.Ordering.{int_eq}
use Rattle.scan_core.specs.Padded.{padded_digits}
use Rattle.pg_interval_2.specs.declared.interval.Interval.{Interval}
use Rattle.pg_interval_2.specs.Parts.{parts_of, is_zero}
use Rattle.scan_core.specs.Number.{minus}

-- a number with its minus and its letter, or nothing where it is 0
unfoldable pub iso_part : Bool → ℕ → List ℕ → List ℕ
iso_part negative n letter = if n == 0 then [] else (minus negative ++ (decimal n ++ letter))

-- the parts that aren't 0, and the seconds with their microseconds where these aren't 0: `6S`, `6.500000S`, `.500000S`
unfoldable pub iso_text : Interval → List ℕ
iso_text t =
    let p = parts_of t in
    if is_zero t then codes "PT0S"
    else (codes "P"
    ++ (iso_part p.months_negative p.years (codes "Y")
    ++ (iso_part p.months_negative p.months (codes "M")
    ++ (iso_part p.days_negative p.days (codes "D")
    ++ (if int_eq t.microseconds (pos 0) then []
    else (codes "T"
    ++ (iso_part p.time_negative p.hours (codes "H")
    ++ (iso_part p.time_negative p.minutes (codes "M")
    ++ (if p.micros == 0 then iso_part p.time_negative p.seconds (codes "S")
    else (minus p.time_negative
    ++ ((if p.seconds == 0 then [] else decimal p.seconds)
    ++ (codes "." ++ (padded_digits 6 p.micros ++ codes "S")))))))))))))
