-- The table of checks, one line each: what must hold, which part is wrong where it doesn't, and
-- what was expected. They stand in the order in which they are made, and the first that fails
-- decides; where none does, the answer is the value. TOML has no such table: order and words are
-- those of the Rust crate. The later checks are of the same text also where one before them fails,
-- and may then mean nothing, as may the value.
use Rattle.std.specs.Prelude.{ℕ, ◌+◌, ◌*◌, Bool, true, ◌||◌, ◌&&◌, ◌==◌, nat_le, List, [], ◌∷◌, length, codes, Option, Some, None, option_map}
use Rattle.std.specs.Prelude.{is_some, pos, Result, Ok, Err, if◌then◌else◌}
use Rattle.scan_core.specs.Digits.{number_of}
use Rattle.scan_core.specs.Calendar.{days_in_month}
use Rattle.scan_core.specs.Shares.{signed}
use Rattle.port_toml_datetime.specs.Datetimes.{datetime_of}
use Rattle.port_toml_datetime.specs.Faults.{Fault, fault, bare_fault}
use Rattle.port_toml_datetime.specs.Times.{nanoseconds}
use Rattle.port_toml_datetime.specs.Tokens.{after, token, is_end, is_digits, is_of}
use Rattle.port_toml_datetime.specs.declared.date.Date.{Date}
use Rattle.port_toml_datetime.specs.declared.time.Time.{Time}
use Rattle.port_toml_datetime.specs.declared.offset.Offset.{Offset}
use Rattle.port_toml_datetime.specs.declared.offset.Offset.TheVariants.{Z, Custom}
use Rattle.port_toml_datetime.specs.declared.datetime.Datetime.{Datetime}

-- a check: whether it holds of the text, and what is said where it doesn't
pub record Row : Type 0 where
  pub holds : Bool
  pub fault : Fault

-- the answer where all checks hold, and else the fault of the first that fails
unfoldable pub checked : {A : Type 0} → List Row → Result A Fault → Result A Fault
checked [] answer = answer
checked (row ∷ rows) answer = if row.holds then checked rows answer else Err row.fault

-- what is answered behind a part, with its value; a fault of the part stays as it is
unfoldable pub and_then : {A B : Type 0} → Result A Fault → (A → Result B Fault) → Result B Fault
and_then (Ok value) next = next value
and_then (Err said) next = Err said

-- a row that says which part is wrong, and what was expected there
abbrev pub row : Bool → List ℕ → List ℕ → Row
row holds what expected = record { holds = holds; fault = fault what expected }

-- a row that doesn't say what is wrong
abbrev pub bare_row : Bool → Option (List ℕ) → Row
bare_row holds expected = record { holds = holds; fault = bare_fault expected }

-- ---- tests

-- so many bytes
abbrev pub has_length : ℕ → List ℕ → Bool
has_length n text = length text == n

-- no less than the first number, and no more than the second
abbrev pub is_within : ℕ → ℕ → ℕ → Bool
is_within lo hi n = nat_le lo n && nat_le n hi

-- it isn't there, or is such a one
abbrev pub where_there : {A : Type 0} → (A → Bool) → Option A → Bool
where_there test None = true
where_there test (Some a) = test a

-- ---- a date, from behind the `-` that follows the year

-- for a month of this many days
unfoldable pub day_words : ℕ → List ℕ
day_words days =
    if days == 28 then codes "day between 01 and 28"
    else if days == 29 then codes "day between 01 and 29"
    else if days == 30 then codes "day between 01 and 30"
    else codes "day between 01 and 31"

-- a date, by its year: a month and a day, with a `-` between, of four, two and two digits, and a real day of the year
unfoldable pub date_outcome : List ℕ → List ℕ → Result Date Fault
date_outcome year text =
    let month = token 0 text in
    let day = token 2 text in
    let days = days_in_month (pos (number_of year)) (number_of month) in
    checked (
    row (is_digits month) (codes "date") (codes "month")
    ∷ row (is_of (codes "-") (token 1 text)) (codes "date") (codes "`-` (MM-DD)")
    ∷ row (is_digits day) (codes "date") (codes "day")
    ∷ row (has_length 4 year) (codes "date") (codes "a four-digit year (YYYY)")
    ∷ row (has_length 2 month) (codes "date") (codes "a two-digit month (MM)")
    ∷ row (has_length 2 day) (codes "date") (codes "a two-digit day (DD)")
    ∷ row (is_within 1 12 (number_of month)) (codes "date") (codes "month between 01 and 12")
    ∷ row (is_within 1 days (number_of day)) (codes "date") (day_words days)
    ∷ [])
    (Ok (record { year = number_of year; month = number_of month; day = number_of day }))

-- ---- a time, from behind the `:` that follows the hour; that both are there was checked before

-- what stands behind a mark, where the mark is there, and what follows both
abbrev pub marked : List ℕ → List ℕ → Option (List ℕ)
marked mark text = if is_of mark (token 0 text) then Some (token 1 text) else None

-- what follows the mark and the token behind it, or the text where the mark isn't there
abbrev pub after_marked : List ℕ → List ℕ → List ℕ
after_marked mark text = if is_of mark (token 0 text) then after 2 text else text

-- a fraction, which stands only behind a second
abbrev pub fraction : Bool → List ℕ → Option (List ℕ)
fraction has_second text = if has_second then marked (codes ".") text else None

-- what follows a fraction
abbrev pub after_fraction : Bool → List ℕ → List ℕ
after_fraction has_second text = if has_second then after_marked (codes ".") text else text

-- a time, by its hour: a minute, perhaps a second, and perhaps a fraction; first their digits, then their widths, then their ranges
unfoldable pub time_outcome : List ℕ → List ℕ → Result Time Fault
time_outcome hour text =
    let minute = token 0 text in
    let second = marked (codes ":") (after 1 text) in
    let digits = fraction (is_some second) (after_marked (codes ":") (after 1 text)) in
    checked (
    row (is_digits minute) (codes "time") (codes "minute")
    ∷ row (where_there is_digits second) (codes "time") (codes "second")
    ∷ row (where_there is_digits digits) (codes "time") (codes "nanosecond")
    ∷ row (has_length 2 hour) (codes "time") (codes "a two-digit hour (HH)")
    ∷ row (has_length 2 minute) (codes "time") (codes "a two-digit minute (MM)")
    ∷ row (where_there (has_length 2) second) (codes "time") (codes "a two-digit second (SS)")
    ∷ row (nat_le (number_of hour) 23) (codes "time") (codes "hour between 00 and 23")
    ∷ row (nat_le (number_of minute) 59) (codes "time") (codes "minute between 00 and 59")
    ∷ row (where_there (λ n. nat_le n 60) (option_map number_of second))
    (codes "time") (codes "second between 00 and 60")
    ∷ [])
    (Ok (record {
      hour = number_of hour;
      minute = number_of minute;
      second = option_map number_of second;
      nanosecond = option_map nanoseconds digits;
    }))

-- what follows the minute, the second and the fraction
unfoldable pub after_time : List ℕ → List ℕ
after_time text =
    after_fraction (is_some (marked (codes ":") (after 1 text)))
    (after_marked (codes ":") (after 1 text))

-- ---- behind a date

-- nothing is left
abbrev pub end_row : List ℕ → Row
end_row text = bare_row (is_end text) None

-- an offset behind its sign, and the end: an hour and a minute, of two digits each
unfoldable pub numeric_offset_outcome : Bool → List ℕ → Result (Option Offset) Fault
numeric_offset_outcome negative text =
    let hour = token 0 text in
    let minute = token 2 text in
    checked (
    row (is_digits hour) (codes "offset") (codes "hour")
    ∷ row (is_of (codes ":") (token 1 text)) (codes "offset") (codes "`:` (HH:MM)")
    ∷ row (is_digits minute) (codes "offset") (codes "minute")
    ∷ row (has_length 2 hour) (codes "offset") (codes "a two-digit hour (HH)")
    ∷ row (has_length 2 minute) (codes "offset") (codes "a two-digit minute (MM)")
    ∷ row (nat_le (number_of hour) 23) (codes "offset") (codes "hours between 00 and 23")
    ∷ row (nat_le (number_of minute) 59) (codes "offset") (codes "minutes between 00 and 59")
    ∷ end_row (after 3 text)
    ∷ [])
    (Ok (Some (Custom (signed negative (60 * number_of hour + number_of minute)))))

-- behind a time: the end, `Z`, or a signed offset
unfoldable pub offset_outcome : List ℕ → Result (Option Offset) Fault
offset_outcome text =
    checked (
    row (is_end text || is_of (codes "Zz+-") (token 0 text))
    (codes "offset") (codes "`Z`, +OFFSET, -OFFSET")
    ∷ [])
    (if is_end text then Ok None
    else if is_of (codes "+-") (token 0 text)
    then numeric_offset_outcome (is_of (codes "-") (token 0 text)) (after 1 text)
    else checked (end_row (after 1 text) ∷ []) (Ok (Some Z)))

-- behind a date and a delimiter: a time from its start, and perhaps an offset
unfoldable pub full_time_outcome : Date → List ℕ → Result Datetime Fault
full_time_outcome date text =
    checked (
    row (is_digits (token 0 text)) (codes "time") (codes "hour")
    ∷ row (is_of (codes ":") (token 1 text)) (codes "time") (codes "`:` (HH:MM)")
    ∷ [])
    (and_then (time_outcome (token 0 text) (after 2 text))
    (λ time. and_then (offset_outcome (after_time (after 2 text)))
    (λ offset. Ok (datetime_of (Some date) (Some time) offset))))

-- behind a date: the end, or a delimiter and a time
unfoldable pub tail_outcome : Date → List ℕ → Result Datetime Fault
tail_outcome date text =
    checked (
    row (is_end text || is_of (codes "Tt ") (token 0 text))
    (codes "date-time") (codes "`T` between date and time")
    ∷ [])
    (if is_end text then Ok (datetime_of (Some date) None None)
    else full_time_outcome date (after 1 text))

-- ---- the whole table

-- a date, and what may follow its month, the `-` and its day
unfoldable pub dated_outcome : List ℕ → List ℕ → Result Datetime Fault
dated_outcome year text =
    and_then (date_outcome year text) (λ date. tail_outcome date (after 3 text))

-- a time, and nothing behind it
unfoldable pub local_time_outcome : List ℕ → List ℕ → Result Datetime Fault
local_time_outcome hour text =
    and_then (time_outcome hour text)
    (λ time. checked (end_row (after_time text) ∷ []) (Ok (datetime_of None (Some time) None)))

-- the answer for a text: it begins with digits, which are a year where `-` follows, and an hour where `:` does
unfoldable pub outcome : List ℕ → Result Datetime Fault
outcome text =
    checked (
    bare_row (is_digits (token 0 text)) (Some (codes "year or hour"))
    ∷ bare_row (is_of (codes "-:") (token 1 text)) (Some (codes "`-` (YYYY-MM) or `:` (HH:MM)"))
    ∷ [])
    (if is_of (codes ":") (token 1 text) then local_time_outcome (token 0 text) (after 2 text)
    else dated_outcome (token 0 text) (after 2 text))
