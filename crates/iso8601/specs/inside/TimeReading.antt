-- What the readers of times answer, as functions on lists. Cited by private contracts alone.
use Rattle.std.specs.Prelude.{ℕ, ℤ, pos, Bool, true, false, ◌==◌, List, [], ◌∷◌, ◌++◌, take, codes, Option, Some, None, if◌then◌else◌}
use Rattle.std.specs.Prelude.{option_and_then}
use Rattle.scan_core.specs.Digits.{number_of}
use Rattle.scan_core.specs.Fronts.{front_digits, after_digits}
use Rattle.scan_core.specs.Shares.{signed}
use Rattle.iso8601.specs.declared.types.Time.{Time}
use Rattle.iso8601.specs.inside.Reading.{read_field, read_marked}

-- what was read, or 0 and all of the bytes
abbrev pub or_zero : List ℕ → Option (ℕ × List ℕ) → ℕ × List ℕ
or_zero bytes (Some r) = r
or_zero bytes None = (0, bytes)

unfoldable pub read_later : ℕ → List ℕ → ℕ × List ℕ
read_later hi bytes = or_zero bytes (read_marked 58 2 0 hi bytes)

unfoldable pub millis_of : List ℕ → ℕ
millis_of digits = number_of (take 3 (digits ++ codes "000"))

abbrev pub read_fraction : List ℕ → ℕ × List ℕ
read_fraction [] = (0, [])
read_fraction (b ∷ bs) =
    if b == 46 then (millis_of (front_digits bs), after_digits bs)
    else if b == 44 then (millis_of (front_digits bs), after_digits bs)
    else (0, b ∷ bs)

-- no offset, and all of the bytes
abbrev pub no_offset : List ℕ → (ℤ × ℤ) × List ℕ
no_offset bytes = ((pos 0, pos 0), bytes)

-- the hours of an offset with its sign, and perhaps its minutes
abbrev pub with_minutes : Bool → List ℕ → Option (ℕ × List ℕ) → (ℤ × ℤ) × List ℕ
with_minutes negative bytes None = no_offset bytes
with_minutes negative bytes (Some h) =
    let m = read_later 59 h.1 in ((signed negative h.0, signed negative m.0), m.1)

unfoldable pub read_signed : Bool → List ℕ → List ℕ → (ℤ × ℤ) × List ℕ
read_signed negative bytes behind = with_minutes negative bytes (read_field 2 0 24 behind)

abbrev pub read_offset : List ℕ → (ℤ × ℤ) × List ℕ
read_offset [] = no_offset []
read_offset (b ∷ bs) =
    if b == 90 then no_offset bs
    else if b == 45 then read_signed true (b ∷ bs) bs
    else if b == 43 then read_signed false (b ∷ bs) bs
    else no_offset (b ∷ bs)

-- one reader behind another
abbrev pub read_both : {A B : Type 0} → (List ℕ → A × List ℕ) → (List ℕ → B × List ℕ)
    → List ℕ → (A × B) × List ℕ
read_both ra rb bytes = let a = ra bytes in let b = rb a.1 in ((a.0, b.0), b.1)

-- the seconds, the fraction and the offset
unfoldable pub read_tail : List ℕ → (ℕ × (ℕ × (ℤ × ℤ))) × List ℕ
read_tail = read_both (read_later 60) (read_both read_fraction read_offset)

abbrev pub time_of : ℕ → ℕ → ℕ × (ℕ × (ℤ × ℤ)) → Time
time_of hour minute t =
    record {
      hour = hour;
      minute = minute;
      second = t.0;
      millisecond = t.1.0;
      tz_offset_hours = t.1.1.0;
      tz_offset_minutes = t.1.1.1;
    }

unfoldable pub read_time : List ℕ → Option (Time × List ℕ)
read_time bytes =
    option_and_then (λ h.
    option_and_then (λ m. let t = read_tail m.1 in Some (time_of h.0 m.0 t.0, t.1))
    (read_marked 58 2 0 59 h.1))
    (read_field 2 0 24 bytes)
