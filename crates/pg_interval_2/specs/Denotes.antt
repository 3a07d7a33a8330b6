-- What a text denotes, for any style. A style is a shape: a relation between a whole text and the counts that it spells.
use Rattle.std.specs.Prelude.{◌≡◌, ℕ, IsTrue, List, Some}
use Rattle.scan_core.specs.Count.{Count}
use Rattle.scan_core.specs.Sums.{total, fits, misfit}
use Rattle.scan_core.specs.declared.share.Part.{Part}
use Rattle.scan_core.specs.declared.share.Part.TheVariants.{Months, Days, Micros}
use Rattle.pg_interval_2.specs.declared.interval.Interval.{Interval}
use Rattle.pg_interval_2.specs.declared.error.ParseError.{ParseError}
use Rattle.pg_interval_2.specs.declared.error.ParseError.TheVariants.{InvalidInterval, BadUnit, InvalidYearMonth, InvalidDay, InvalidTime}
use Rattle.pg_interval_2.specs.Messages.{year_month_overflow, day_overflow, time_overflow}

-- the text spells counts that fit, and the interval's parts are the sums of their shares
abbrev pub Denotes : (List ℕ → List Count → Type 0) → List ℕ → Interval → Type 0
Denotes Shape text t =
    (counts : List Count) × Shape text counts × IsTrue (fits counts)
    × (t ≡ record {
      months = total Months counts;
      days = total Days counts;
      microseconds = total Micros counts;
    })

-- the text spells no counts
abbrev pub HasNoShape : (List ℕ → List Count → Type 0) → List ℕ → Type 0
HasNoShape Shape text = (counts : List Count) → Shape text counts → ⊥

-- the text spells counts, and this is the first part of which a share or the sum leaves its type
abbrev pub Misfits : (List ℕ → List Count → Type 0) → List ℕ → Part → Type 0
Misfits Shape text part = (counts : List Count) × Shape text counts × (misfit counts ≡ Some part)

-- no place of the text is a bad one: styles of letters alone have none
abbrev pub NoPlace : List ℕ → ℕ → ℕ → Type 0
NoPlace text start end = ⊥

-- Why a text is refused: it has no shape, and a bad place from start to end or none; or a part doesn't fit. Each refusal has one message.
abbrev pub Refuses : (List ℕ → List Count → Type 0) → (List ℕ → ℕ → ℕ → Type 0) → List ℕ → List ℕ
    → ParseError → Type 0
Refuses Shape IsBadPlace message text (InvalidInterval m) =
    HasNoShape Shape text × ((start end : ℕ) → IsBadPlace text start end → ⊥) × (m.now ≡ message)
Refuses Shape IsBadPlace message text (BadUnit start end) =
    HasNoShape Shape text × IsBadPlace text start end
Refuses Shape IsBadPlace message text (InvalidYearMonth m) =
    Misfits Shape text Months × (m.now ≡ year_month_overflow)
Refuses Shape IsBadPlace message text (InvalidDay m) =
    Misfits Shape text Days × (m.now ≡ day_overflow)
Refuses Shape IsBadPlace message text (InvalidTime m) =
    Misfits Shape text Micros × (m.now ≡ time_overflow)

-- the refusal says that a part doesn't fit
abbrev pub IsRange : ParseError → Type 0
IsRange (InvalidInterval m) = ⊥
IsRange (BadUnit start end) = ⊥
IsRange (InvalidYearMonth m) = Unit {0}
IsRange (InvalidDay m) = Unit {0}
IsRange (InvalidTime m) = Unit {0}

-- the refusal says that this part doesn't fit
abbrev pub IsRangeOf : Part → ParseError → Type 0
IsRangeOf Months (InvalidYearMonth m) = m.now ≡ year_month_overflow
IsRangeOf Days (InvalidDay m) = m.now ≡ day_overflow
IsRangeOf Micros (InvalidTime m) = m.now ≡ time_overflow
IsRangeOf part e = ⊥
