-- The one text that is written of an interval in `postgres` style: `1 year 2 mons 3 days 04:05:06.500000`, and `00:00:00` of zero.
-- It is words with one space between each two.
use Rattle.std.specs.Prelude.{ℕ, pos, Bool, not, List, [], ◌∷◌, ◌++◌, codes, decimal, ◌==◌, ◌&&◌, if◌then◌else◌}
use Rattle.std.specs.List.{join_with_byte}
use Rattle.std.specs.Ordering.{int_eq}
use Rattle.pg_interval_2.specs.declared.interval.Interval.{Interval}
use Rattle.pg_interval_2.specs.Parts.{parts_of, is_zero, clock_text}
use Rattle.scan_core.specs.Number.{minus}

-- a number with its minus, and its name, or no words where it is 0: the name is singular at 1, but where `plural`
unfoldable pub part_words : Bool → Bool → ℕ → List ℕ → List (List ℕ)
part_words plural negative n name =
    if n == 0 then []
    else ((minus negative ++ decimal n)
    ∷ (if not plural && n == 1 then name else (name ++ codes "s"))
    ∷ [])

-- the parts that aren't 0 with their names, and a clock where the time isn't 0
unfoldable pub postgres_text : Interval → List ℕ
postgres_text t =
    let p = parts_of t in
    if is_zero t then codes "00:00:00"
    else join_with_byte 32
    (part_words p.months_negative p.months_negative p.years (codes "year")
    ++ (part_words p.months_negative p.months_negative p.months (codes "mon")
    ++ (part_words p.days_negative p.days_negative p.days (codes "day")
    ++ (if int_eq t.microseconds (pos 0) then []
    else ((minus p.time_negative ++ clock_text 2 p) ∷ [])))))
