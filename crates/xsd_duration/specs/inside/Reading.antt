-- What the readers answer, as functions on lists. Cited by private contracts alone.
use Rattle.std.specs.Prelude.{ℕ, Bool, true, false, ◌==◌, List, [], ◌∷◌, Option, Some, None, if◌then◌else◌, option_and_then}
use Rattle.scan_core.specs.Fronts.{front_digits, after_digits}
use Rattle.xsd_duration.specs.Durations.{Spelling}

-- digits and what follows the letter behind them, or no digits and all bytes
abbrev pub closed_by : ℕ → List ℕ → List ℕ → List ℕ → List ℕ × List ℕ
closed_by letter bytes [] rest = ([], bytes)
closed_by letter bytes (d ∷ ds) [] = ([], bytes)
closed_by letter bytes (d ∷ ds) (b ∷ rest) =
    if b == letter then (d ∷ ds, rest) else ([], bytes)

-- the count of this letter in front
unfoldable pub read_count : ℕ → List ℕ → List ℕ × List ℕ
read_count letter bytes = closed_by letter bytes (front_digits bytes) (after_digits bytes)

abbrev pub fraction_in : List ℕ → List ℕ → List ℕ → List ℕ × List ℕ
fraction_in bytes [] rest = ([], bytes)
fraction_in bytes (d ∷ ds) rest = (d ∷ ds, rest)

-- the digits behind a point in front
unfoldable pub read_fraction : List ℕ → List ℕ × List ℕ
read_fraction [] = ([], [])
read_fraction (b ∷ bs) =
    if b == 46 then fraction_in (b ∷ bs) (front_digits bs) (after_digits bs) else ([], b ∷ bs)

-- the bytes are this letter alone
abbrev pub is_letter : ℕ → List ℕ → Bool
is_letter letter [] = false
is_letter letter (b ∷ []) = b == letter
is_letter letter (b ∷ c ∷ cs) = false

abbrev pub seconds_in : List ℕ → List ℕ × List ℕ → Option (List ℕ × List ℕ)
seconds_in [] r = None
seconds_in (d ∷ ds) r = if is_letter 83 r.1 then Some (d ∷ ds, r.0) else None

-- whole bytes as seconds and their fraction, or nothing
unfoldable pub read_seconds : List ℕ → Option (List ℕ × List ℕ)
read_seconds [] = Some ([], [])
read_seconds (b ∷ bs) = seconds_in (front_digits (b ∷ bs)) (read_fraction (after_digits (b ∷ bs)))

-- hours, minutes, seconds and a fraction
abbrev pub Clock : Type 0
Clock = List ℕ × (List ℕ × (List ℕ × List ℕ))

unfoldable pub read_time : List ℕ → Option Clock
read_time bytes =
    let h = read_count 72 bytes in
    let m = read_count 77 h.1 in
    option_and_then (λ s. Some (h.0, (m.0, s))) (read_seconds m.1)

-- nothing, or `T` and something behind it
abbrev pub read_clock : List ℕ → Option Clock
read_clock [] = Some ([], ([], ([], [])))
read_clock (b ∷ []) = None
read_clock (b ∷ c ∷ cs) = if b == 84 then read_time (c ∷ cs) else None

abbrev pub spelled : Bool → List ℕ → List ℕ → List ℕ → Clock → Spelling
spelled negative years months days clock = record {
  negative = negative;
  years = years;
  months = months;
  days = days;
  hours = clock.0;
  minutes = clock.1.0;
  seconds = clock.1.1.0;
  fraction = clock.1.1.1;
}

unfoldable pub read_counts : Bool → List ℕ → Option Spelling
read_counts negative bytes =
    let y = read_count 89 bytes in
    let m = read_count 77 y.1 in
    let d = read_count 68 m.1 in
    option_and_then (λ clock. Some (spelled negative y.0 m.0 d.0 clock)) (read_clock d.1)

-- what stands behind the `P`, at least one byte
abbrev pub read_body : Bool → List ℕ → Option Spelling
read_body negative [] = None
read_body negative (b ∷ bs) = read_counts negative (b ∷ bs)

-- what stands behind the sign
abbrev pub read_unsigned : Bool → List ℕ → Option Spelling
read_unsigned negative [] = None
read_unsigned negative (b ∷ bs) = if b == 80 then read_body negative bs else None

unfoldable pub read_spelling : List ℕ → Option Spelling
read_spelling [] = read_unsigned false []
read_spelling (b ∷ bs) =
    if b == 45 then read_unsigned true bs else read_unsigned false (b ∷ bs)
