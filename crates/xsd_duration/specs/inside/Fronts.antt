-- What one pass over a text finds, as functions on lists. Cited by private contracts alone.
use Rattle.std.specs.Prelude.{ℕ, Bool, true, false, ◌==◌, List, [], ◌∷◌, Option, Some, None, if◌then◌else◌, option_and_then}
use Rattle.scan_core.specs.Fronts.{front_digits, after_digits}
use Rattle.scan_core.specs.Shares.{rounded}
use Rattle.xsd_duration.specs.inside.Numbers.{cut_number}
use Rattle.xsd_duration.specs.inside.Reading.{is_letter}
use Rattle.xsd_duration.specs.declared.front.Front.{Front as Split}
use Rattle.xsd_duration.specs.declared.reading.Clock.{Clock}
use Rattle.xsd_duration.specs.declared.reading.Numbers.{Numbers}

-- the number of the digits in front, these digits, and what follows them
abbrev pub Front : Type 0
Front = ℕ × (List ℕ × List ℕ)

unfoldable pub front_in : List ℕ → Front
front_in bytes = (cut_number (front_digits bytes), (front_digits bytes, after_digits bytes))

-- the same in slices of a text
abbrev pub seen : Split → Front
seen f = (f.number, (f.digits.now, f.rest.now))

abbrev pub taken : ℕ → ℕ → List ℕ → List ℕ → ℕ × Front
taken letter n [] rest = (0, (n, ([], rest)))
taken letter n (d ∷ ds) [] = (0, (n, (d ∷ ds, [])))
taken letter n (d ∷ ds) (b ∷ bs) =
    if b == letter then (n, front_in bs) else (0, (n, (d ∷ ds, b ∷ bs)))

-- the number of the count of this letter, 0 where another one is in front, and what is in front then
abbrev pub counted : ℕ → Front → ℕ × Front
counted letter f = taken letter f.0 f.1.0 f.1.1

abbrev pub fraction_left : List ℕ → List ℕ → List ℕ → ℕ × List ℕ
fraction_left bytes [] rest = (0, bytes)
fraction_left bytes (d ∷ ds) rest = (rounded 1_000_000 (d ∷ ds), rest)

-- the microseconds of the fraction behind a point in front, 0 where none is there, and what follows it
unfoldable pub fraction_counted : List ℕ → ℕ × List ℕ
fraction_counted [] = (0, [])
fraction_counted (b ∷ bs) =
    if b == 46 then fraction_left (b ∷ bs) (front_in bs).1.0 (front_in bs).1.1 else (0, b ∷ bs)

abbrev pub seconds_left : ℕ → List ℕ → List ℕ → Option (ℕ × ℕ)
seconds_left n [] [] = Some (0, 0)
seconds_left n [] (b ∷ bs) = None
seconds_left n (d ∷ ds) rest =
    if is_letter 83 (fraction_counted rest).1 then Some (n, (fraction_counted rest).0) else None

-- seconds and their fraction that are all that is left, or nothing
abbrev pub seconds_counted : Front → Option (ℕ × ℕ)
seconds_counted f = seconds_left f.0 f.1.0 f.1.1

abbrev pub clock_made : ℕ → ℕ → ℕ × ℕ → Clock
clock_made hours minutes s =
    record { hours = hours; minutes = minutes; seconds = s.0; micros = s.1 }

-- hours, minutes, seconds and a fraction
unfoldable pub time_counted : List ℕ → Option Clock
time_counted bytes =
    let h = counted 72 (front_in bytes) in
    let m = counted 77 h.1 in
    option_and_then (λ s. Some (clock_made h.0 m.0 s)) (seconds_counted m.1)

abbrev pub clock_left : List ℕ → List ℕ → Option Clock
clock_left (d ∷ ds) rest = None
clock_left [] [] = Some (clock_made 0 0 (0, 0))
clock_left [] (b ∷ []) = None
clock_left [] (b ∷ c ∷ cs) = if b == 84 then time_counted (c ∷ cs) else None

-- nothing, or `T` and something behind it
abbrev pub clock_counted : Front → Option Clock
clock_counted f = clock_left f.1.0 f.1.1

abbrev pub numbers_made : Bool → ℕ → ℕ → ℕ → Clock → Numbers
numbers_made negative years months days clock =
    record { negative = negative; years = years; months = months; days = days; clock = clock }

-- all counts
unfoldable pub counts_counted : Bool → List ℕ → Option Numbers
counts_counted negative bytes =
    let y = counted 89 (front_in bytes) in
    let m = counted 77 y.1 in
    let d = counted 68 m.1 in
    option_and_then (λ clock. Some (numbers_made negative y.0 m.0 d.0 clock)) (clock_counted d.1)

-- what stands behind the `P`, at least one byte
abbrev pub body_counted : Bool → List ℕ → Option Numbers
body_counted negative [] = None
body_counted negative (b ∷ bs) = counts_counted negative (b ∷ bs)

-- what stands behind the sign
abbrev pub unsigned_counted : Bool → List ℕ → Option Numbers
unsigned_counted negative [] = None
unsigned_counted negative (b ∷ bs) = if b == 80 then body_counted negative bs else None

-- whether a minus stands in front, and what follows it
abbrev pub sign_split : List ℕ → Bool × List ℕ
sign_split [] = (false, [])
sign_split (b ∷ bs) = if b == 45 then (true, bs) else (false, b ∷ bs)
