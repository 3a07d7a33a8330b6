-- What the readers of durations answer, as functions on lists. Cited by private contracts alone.
use Rattle.std.specs.Prelude.{ℕ, ◌==◌, nat_lt, List, [], ◌∷◌, length, Option, Some, None, if◌then◌else◌, option_and_then}
use Rattle.iso8601.specs.declared.parsers.duration.Next.{Next}
use Rattle.iso8601.specs.declared.types.Time.{Time}
use Rattle.iso8601.specs.declared.types.Duration.{Duration}
use Rattle.iso8601.specs.declared.types.Duration.TheVariants.{YMDHMS, Weeks}
use Rattle.iso8601.specs.inside.Reading.{number_in, read_mark, read_field, read_marked, or_else}
use Rattle.scan_core.specs.Fronts.{front_digits, after_digits}
use Rattle.iso8601.specs.inside.TimeReading.{or_zero, millis_of, read_both, read_time}

-- a number, the byte behind it, and what follows that byte
pub record Peeked : Type 0 where
  pub number : ℕ
  pub letter : ℕ
  pub behind : List ℕ

abbrev pub with_letter : ℕ → List ℕ → Option Peeked
with_letter number [] = None
with_letter number (b ∷ bs) = Some (record { number = number; letter = b; behind = bs })

unfoldable pub peek : List ℕ → Option Peeked
peek bytes =
    option_and_then (λ number. with_letter number (after_digits bytes))
    (number_in (front_digits bytes))

-- the count of a unit, from what stands in front
abbrev pub count_in : ℕ → Option Peeked → Option (ℕ × List ℕ)
count_in unit peeked =
    option_and_then (λ p. if p.letter == unit then Some (p.number, p.behind) else None) peeked

unfoldable pub read_count : ℕ → List ℕ → Option (ℕ × List ℕ)
read_count unit bytes = count_in unit (peek bytes)

unfoldable pub read_perhaps : ℕ → List ℕ → ℕ × List ℕ
read_perhaps unit bytes = or_zero bytes (read_count unit bytes)

-- no seconds, and all of the bytes
abbrev pub no_seconds : List ℕ → (ℕ × ℕ) × List ℕ
no_seconds bytes = ((0, 0), bytes)

-- seconds with a fraction, where an `S` closes them
abbrev pub closed_by : List ℕ → ℕ × ℕ → Option (List ℕ) → (ℕ × ℕ) × List ℕ
closed_by bytes value None = no_seconds bytes
closed_by bytes value (Some rest) = (value, rest)

abbrev pub read_closed : List ℕ → ℕ → List ℕ → (ℕ × ℕ) × List ℕ
read_closed bytes number behind =
    closed_by bytes (number, millis_of (front_digits behind)) (read_mark 83 (after_digits behind))

-- the seconds, from what stands in front
abbrev pub seconds_in : List ℕ → Option Peeked → (ℕ × ℕ) × List ℕ
seconds_in bytes None = no_seconds bytes
seconds_in bytes (Some p) =
    if p.letter == 83 then ((p.number, 0), p.behind)
    else if p.letter == 46 then read_closed bytes p.number p.behind
    else if p.letter == 44 then read_closed bytes p.number p.behind
    else no_seconds bytes

unfoldable pub read_seconds : List ℕ → (ℕ × ℕ) × List ℕ
read_seconds bytes = seconds_in bytes (peek bytes)

abbrev pub read_clock : List ℕ → (ℕ × (ℕ × (ℕ × ℕ))) × List ℕ
read_clock [] = ((0, (0, (0, 0))), [])
read_clock (b ∷ bs) =
    if b == 84 then read_both (read_perhaps 72) (read_both (read_perhaps 77) read_seconds) bs
    else ((0, (0, (0, 0))), b ∷ bs)

unfoldable pub read_counts : List ℕ → (ℕ × (ℕ × (ℕ × (ℕ × (ℕ × (ℕ × ℕ)))))) × List ℕ
read_counts =
    read_both (read_perhaps 89)
    (read_both (read_perhaps 77) (read_both (read_perhaps 68) read_clock))

abbrev pub duration_of : ℕ × (ℕ × (ℕ × (ℕ × (ℕ × (ℕ × ℕ))))) → Duration
duration_of v = YMDHMS v.0 v.1.0 v.1.1.0 v.1.1.1.0 v.1.1.1.1.0 v.1.1.1.1.1.0 v.1.1.1.1.1.1

-- the counts, where something was read
unfoldable pub read_counted : List ℕ → Option (Duration × List ℕ)
read_counted bytes =
    let r = read_counts bytes in
    if nat_lt (length r.1) (length bytes) then Some (duration_of r.0, r.1) else None

unfoldable pub read_weeks : List ℕ → Option (Duration × List ℕ)
read_weeks bytes = option_and_then (λ c. Some (Weeks c.0, c.1)) (read_count 87 bytes)

abbrev pub dated_of : ℕ → ℕ → ℕ → Time → Duration
dated_of year month day time =
    YMDHMS year month day time.hour time.minute time.second time.millisecond

unfoldable pub read_dated : List ℕ → Option (Duration × List ℕ)
read_dated bytes =
    option_and_then (λ y.
    option_and_then (λ m.
    option_and_then (λ d.
    option_and_then (λ behind.
    option_and_then (λ t. Some (dated_of y.0 m.0 d.0 t.0, t.1))
    (read_time behind))
    (read_mark 84 d.1))
    (read_marked 45 2 1 31 m.1))
    (read_marked 45 2 1 12 y.1))
    (read_field 4 0 9999 bytes)

unfoldable pub read_body : List ℕ → Option (Duration × List ℕ)
read_body body = or_else (read_weeks body) (or_else (read_counted body) (read_dated body))

unfoldable pub read_duration : List ℕ → Option (Duration × List ℕ)
read_duration bytes = option_and_then read_body (read_mark 80 bytes)

-- what the code saw in front
abbrev pub peeked_of : Next → Peeked
peeked_of n = record { number = n.number; letter = n.letter; behind = n.behind.now }
