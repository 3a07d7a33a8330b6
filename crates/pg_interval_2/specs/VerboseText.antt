-- The one text that is written of an interval in `postgres_verbose` style (PostgreSQL's manual, section 8.5.5, "Interval Output"):
-- `@ 1 year 2 mons -3 days 4 hours 5 mins 6.5 secs`, and `@ 0` of zero. It is words with one space between each two.
use Rattle.std.specs.Prelude.{ℕ, pos, int_lt, Bool, not, false, List, [], ◌∷◌, ◌++◌, codes, decimal, ◌==◌, ◌&&◌, ◌||◌, if◌then◌else◌}
use Rattle.std.specs.List.{join_with_byte}
use Rattle.scan_core.specs.Padded.{padded_digits, trimmed_digits}
use Rattle.pg_interval_2.specs.declared.interval.Interval.{Interval}
use Rattle.pg_interval_2.specs.Parts.{Parts, parts_of, is_zero}
use Rattle.scan_core.specs.Number.{minus}
use Rattle.pg_interval_2.specs.PostgresText.{part_words}
use Rattle.pg_interval_2.specs.Turned.{turned_sign}

-- the seconds, whose microseconds are an exact decimal without zeros at its end: `6 secs`, `6.5 secs`
unfoldable pub second_words : Bool → Parts → List (List ℕ)
second_words negative p =
    if p.micros == 0 then part_words false negative p.seconds (codes "sec")
    else ((minus negative
    ++ (decimal p.seconds ++ (codes "." ++ trimmed_digits (padded_digits 6 p.micros))))
    ∷ codes "secs"
    ∷ [])

-- one of the three numbers is negative, and the time isn't positive: then `ago` ends the text, and each sign is turned
abbrev pub has_ago : Interval → Bool
has_ago t =
    let p = parts_of t in
    not (int_lt (pos 0) t.microseconds)
    && (p.months_negative || (p.days_negative || p.time_negative))

-- `@`, the parts that aren't 0 with their names, and perhaps `ago`
unfoldable pub verbose_text : Interval → List ℕ
verbose_text t =
    let p = parts_of t in
    let ago = has_ago t in
    let months_sign = turned_sign ago p.months_negative in
    let time_sign = turned_sign ago p.time_negative in
    join_with_byte 32
    (codes "@"
    ∷ (if is_zero t then (codes "0" ∷ [])
    else (part_words false months_sign p.years (codes "year")
    ++ (part_words false months_sign p.months (codes "mon")
    ++ (part_words false (turned_sign ago p.days_negative) p.days (codes "day")
    ++ (part_words false time_sign p.hours (codes "hour")
    ++ (part_words false time_sign p.minutes (codes "min")
    ++ (second_words time_sign p ++ (if ago then (codes "ago" ∷ []) else [])))))))))
