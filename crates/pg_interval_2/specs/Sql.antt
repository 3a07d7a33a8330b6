-- The `sql_standard` style (PostgreSQL's manual, section 8.5.5, "Interval Output", and the interval literals of SQL:2016, part 2,
-- section 5.3): `0`, or a year-month, a day and a clock as words, `+1-2 -3 +4:05:06`. A sign governs all fields of its word.
use Rattle.std.specs.Prelude.{◌≡◌, ◌⊎◌, ℕ, ◌≤◌, Bool, true, false, List, [], ◌∷◌, ◌++◌, length, codes}
use Rattle.scan_core.specs.Blanks.{words}
use Rattle.scan_core.specs.Count.{Count, count_of}
use Rattle.scan_core.specs.Number.{IsFraction}
use Rattle.scan_core.specs.declared.share.Unit.TheVariants.{Year, Month, Day, Hour, Minute, Second}
use Rattle.scan_core.specs.Digits.{AreSomeDigits}

-- the sign of a word: a minus where it is negative, a plus where it isn't, or none, and then the word is what words without a sign are
abbrev pub IsSignOr : Bool → Bool → List ℕ → Type 0
IsSignOr default true sign = (sign ≡ codes "-") ⊎ ((sign ≡ []) × (default ≡ true))
IsSignOr default false sign = (sign ≡ codes "+") ⊎ ((sign ≡ []) × (default ≡ false))

-- years, a minus and months: `1-2`, `-0-1`
pub record IsYearMonth (word : List ℕ) (counts : List Count) : Type 0 where
  pub negative : Bool
  pub sign : List ℕ
  pub years : List ℕ
  pub months : List ℕ
  pub signed : IsSignOr false negative sign
  pub year_field : AreSomeDigits years
  pub month_field : AreSomeDigits months
  pub joined : word ≡ sign ++ (years ++ (codes "-" ++ months))
  pub counted : counts ≡ count_of negative years [] Year ∷ count_of negative months [] Month ∷ []

-- days: `3`, `-3`
pub record IsDays (negative : Bool) (word : List ℕ) (counts : List Count) : Type 0 where
  pub sign : List ℕ
  pub days : List ℕ
  pub signed : IsSignOr false negative sign
  pub day_field : AreSomeDigits days
  pub joined : word ≡ sign ++ days
  pub counted : counts ≡ count_of negative days [] Day ∷ []

-- a colon and seconds, perhaps with a point and at most six digits: `:06`, `:06.5`
pub record IsSqlSeconds (negative : Bool) (piece : List ℕ) (counts : List Count) : Type 0 where
  pub seconds : List ℕ
  pub fraction : List ℕ
  pub tail : List ℕ
  pub second_field : AreSomeDigits seconds
  pub point : IsFraction fraction tail
  pub short : length fraction ≤ 6
  pub joined : piece ≡ codes ":" ++ (seconds ++ tail)
  pub counted : counts ≡ count_of negative seconds fraction Second ∷ []

-- hours, a colon and minutes, perhaps with seconds: `4:05`, `-4:05:06.5`
pub record IsSqlTime (default : Bool) (word : List ℕ) (counts : List Count) : Type 0 where
  pub negative : Bool
  pub sign : List ℕ
  pub hours : List ℕ
  pub minutes : List ℕ
  pub piece : List ℕ
  pub second_counts : List Count
  pub signed : IsSignOr default negative sign
  pub hour_field : AreSomeDigits hours
  pub minute_field : AreSomeDigits minutes
  pub seconds : ((piece ≡ []) × (second_counts ≡ [])) ⊎ IsSqlSeconds negative piece second_counts
  pub joined : word ≡ sign ++ (hours ++ (codes ":" ++ (minutes ++ piece)))
  pub counted :
      counts ≡ count_of negative hours [] Hour ∷ count_of negative minutes [] Minute ∷ second_counts

-- one to three words: a year-month or a time; days and a time, which without a sign of its own is negative where the days have a
-- minus; or a year-month, days and a time, each of which without a sign is positive
abbrev pub AreSqlWords : List (List ℕ) → List Count → Type 0
AreSqlWords (word ∷ []) counts = IsYearMonth word counts ⊎ IsSqlTime false word counts
AreSqlWords (first ∷ second ∷ []) counts =
    (negative : Bool) × (days : List Count) × (time : List Count) × IsDays negative first days
    × IsSqlTime negative second time × (counts ≡ days ++ time)
AreSqlWords (first ∷ second ∷ third ∷ []) counts =
    (negative : Bool) × (date : List Count) × (days : List Count) × (time : List Count)
    × IsYearMonth first date × IsDays negative second days × IsSqlTime false third time
    × (counts ≡ date ++ (days ++ time))
AreSqlWords _ counts = ⊥

-- the text is in `sql_standard` style and spells these counts; `0` alone is zero, and has no blanks around it
abbrev pub IsSql : List ℕ → List Count → Type 0
IsSql text counts = ((text ≡ codes "0") × (counts ≡ [])) ⊎ AreSqlWords (words text) counts
