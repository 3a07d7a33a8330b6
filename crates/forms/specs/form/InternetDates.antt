-- Dates of HTTP (RFC 9110, section 5.6.7) and of mail (RFC 5322, section 3.3): moments in whole seconds, of years from a first one on to
-- 9999. That is year 0 for HTTP and 1900 for mail; it is the year as it is written at reading, and that of the day in UTC at writing.
use Rattle.std.specs.Prelude.{◌≡◌, ◌≢◌, ◌⊎◌, ℕ, ◌≤◌, ℤ, pos, ◌*ℤ◌, Result, Ok, Err}
use Rattle.std.specs.Int.{int_div_euclid, int_rem_euclid}
use Rattle.internet_dates.specs.DateTimes.{IsNamedDateAt, IsRealMoment, seconds_of}
use Rattle.internet_dates.specs.declared.date_time.DateTime.{DateTime}
use Rattle.forms.specs.declared.cause.Cause.{Cause}
use Rattle.forms.specs.declared.cause.Cause.TheVariants.{Range, Kind, Precision}
use Rattle.forms.specs.declared.value.Value.{Value}
use Rattle.forms.specs.declared.value.Value.TheVariants.{Instant}
use Rattle.forms.specs.Answers.{Judged}

-- ---- reading

-- the moment, `NoSuchMoment` where there is none, or `Range` where the year is before the first one
abbrev pub Worth : ℕ → DateTime → Result Value Cause → Type 0
Worth first t =
    Judged (IsRealMoment t) (first ≤ t.year) (Instant (seconds_of t *ℤ pos 1_000_000_000))

-- ---- writing

-- the date and the time in UTC at this second, `Range` where no year from the first one on has it, or `Precision` where the moment lies so
-- many nanoseconds behind the second
abbrev pub HoldsSecond : ℕ → ℤ → ℤ → Result DateTime Cause → Type 0
HoldsSecond first seconds nanos held =
    (((t : DateTime) → IsNamedDateAt first seconds t → ⊥) × (held ≡ Err Range))
    ⊎ ((t : DateTime) × IsNamedDateAt first seconds t
    × (((nanos ≢ pos 0) × (held ≡ Err Precision)) ⊎ ((nanos ≡ pos 0) × (held ≡ Ok t))))

-- the date and the time in UTC of a moment; other kinds are `Kind`
abbrev pub Holds : ℕ → Value → Result DateTime Cause → Type 0
Holds first (Instant nanos) =
    HoldsSecond first (int_div_euclid nanos (pos 1_000_000_000))
    (int_rem_euclid nanos (pos 1_000_000_000))
Holds first _ = λ held. held ≡ Err Kind
