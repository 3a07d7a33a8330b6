-- What the reader of `sql_standard` words answers, as functions on lists: cited by private contracts alone.
use Rattle.std.specs.Prelude.{ℕ, Bool, true, false, ◌&&◌, ◌==◌, nat_lt, nat_le, List, [], ◌∷◌, ◌++◌, length, Option, Some, None}
use Rattle.std.specs.Prelude.{if◌then◌else◌, option_and_then, option_map}
use Rattle.scan_core.specs.Count.{Count, count_of}
use Rattle.scan_core.specs.Digits.{number_of}
use Rattle.scan_core.specs.declared.share.Unit.TheVariants.{Year, Month, Day, Hour, Minute, Second}
use Rattle.scan_core.specs.Fronts.{front_digits, after_digits}
use Rattle.pg_interval_2.specs.inside.Reading.{read_fraction}
use Rattle.pg_interval_2.specs.inside.ItemReading.{after_blanks, ends_word}

-- what a word is
pub data SqlWord : Type 0 where
  YearMonth : Bool → List ℕ → List ℕ → SqlWord
  Days : Bool → List ℕ → SqlWord
  Time : Bool → List ℕ → List ℕ → Option (List ℕ × List ℕ) → SqlWord

-- seconds and their fraction, if they are there
abbrev pub seconds_counts : Bool → Option (List ℕ × List ℕ) → List Count
seconds_counts negative None = []
seconds_counts negative (Some r) = count_of negative r.0 r.1 Second ∷ []

-- a word's counts
abbrev pub word_counts : SqlWord → List Count
word_counts (YearMonth negative years months) =
    count_of negative years [] Year ∷ count_of negative months [] Month ∷ []
word_counts (Days negative days) = count_of negative days [] Day ∷ []
word_counts (Time negative hours minutes seconds) =
    count_of negative hours [] Hour
    ∷ count_of negative minutes [] Minute
    ∷ seconds_counts negative seconds

-- whether the sign in front is a minus, or the default where no sign is there, and what follows
abbrev pub read_sign_or : Bool → List ℕ → Bool × List ℕ
read_sign_or default [] = (default, [])
read_sign_or default (b ∷ bs) =
    if b == 45 then (true, bs) else if b == 43 then (false, bs) else (default, b ∷ bs)

-- one digit or more in front, and what follows
unfoldable pub read_field : List ℕ → Option (List ℕ × List ℕ)
read_field bytes =
    if nat_lt 0 (length (front_digits bytes)) then Some (front_digits bytes, after_digits bytes)
    else None

-- seconds with at most six digits behind the point
abbrev pub short_seconds : List ℕ → List ℕ × List ℕ → Option ((List ℕ × List ℕ) × List ℕ)
short_seconds seconds fraction =
    if nat_le (length fraction.0) 6 then Some ((seconds, fraction.0), fraction.1) else None

-- the seconds behind their colon, and what follows
unfoldable pub read_seconds : List ℕ → Option ((List ℕ × List ℕ) × List ℕ)
read_seconds bytes = option_and_then (λ r. short_seconds r.0 (read_fraction r.1)) (read_field bytes)

-- a colon and seconds in front, or nothing where no colon is there, and what follows
abbrev pub read_perhaps_seconds : List ℕ → Option (Option (List ℕ × List ℕ) × List ℕ)
read_perhaps_seconds [] = Some (None, [])
read_perhaps_seconds (b ∷ bs) =
    if b == 58 then option_map (λ r. (Some r.0, r.1)) (read_seconds bs) else Some (None, b ∷ bs)

-- minutes and perhaps seconds, behind the hours' colon
unfoldable pub read_time : Bool → List ℕ → List ℕ → Option (SqlWord × List ℕ)
read_time negative hours bytes =
    option_and_then
    (λ m. option_map (λ s. (Time negative hours m.0 s.0, s.1)) (read_perhaps_seconds m.1))
    (read_field bytes)

-- months, behind the years' minus
unfoldable pub read_months : Bool → List ℕ → List ℕ → Option (SqlWord × List ℕ)
read_months negative years bytes =
    option_map (λ m. (YearMonth negative years m.0, m.1)) (read_field bytes)

-- what the first digits of a word are, by the byte behind them
abbrev pub read_behind : Bool → List ℕ → List ℕ → Option (SqlWord × List ℕ)
read_behind negative digits [] = Some (Days negative digits, [])
read_behind negative digits (b ∷ bs) =
    if b == 45 then read_months negative digits bs
    else if b == 58 then read_time negative digits bs
    else Some (Days negative digits, b ∷ bs)

-- a word that ends, and what follows the blanks behind it
abbrev pub closed_word : SqlWord × List ℕ → Option (SqlWord × List ℕ)
closed_word r = if ends_word r.1 then Some (r.0, after_blanks r.1) else None

-- the word in front
unfoldable pub read_word : Bool → List ℕ → Option (SqlWord × List ℕ)
read_word default bytes =
    let sign = read_sign_or default bytes in
    option_and_then closed_word
    (option_and_then (λ f. read_behind sign.0 f.0 f.1) (read_field sign.1))

-- a time that ends the text, behind these counts
abbrev pub last_time : List Count → SqlWord × List ℕ → Option (List Count)
last_time before (Time negative hours minutes seconds, []) =
    Some (before ++ word_counts (Time negative hours minutes seconds))
last_time before (word, rest) = None

-- days and a time that ends the text, behind a year-month
abbrev pub days_and_time : List Count → SqlWord × List ℕ → Option (List Count)
days_and_time before (Days negative days, rest) =
    option_and_then (last_time (before ++ word_counts (Days negative days))) (read_word false rest)
days_and_time before (word, rest) = None

-- what follows a year-month that begins the text: the end, or days and a time
unfoldable pub behind_date : List Count → List ℕ → Option (List Count)
behind_date before [] = Some before
behind_date before (b ∷ rest) = option_and_then (days_and_time before) (read_word false (b ∷ rest))

-- what follows days that begin the text: a time, or the end where the text is a zero of one byte
unfoldable pub behind_days : List ℕ → Bool → List ℕ → List ℕ → Option (List Count)
behind_days text negative days [] =
    if length text == 1 && number_of days == 0 then Some [] else None
behind_days text negative days (b ∷ rest) =
    option_and_then (last_time (word_counts (Days negative days))) (read_word negative (b ∷ rest))

-- all words from the first one on
abbrev pub read_words : List ℕ → SqlWord × List ℕ → Option (List Count)
read_words text (YearMonth negative years months, rest) =
    behind_date (word_counts (YearMonth negative years months)) rest
read_words text (Days negative days, rest) = behind_days text negative days rest
read_words text (Time negative hours minutes seconds, rest) =
    last_time [] (Time negative hours minutes seconds, rest)

-- the counts of the whole text
unfoldable pub read_sql : List ℕ → Option (List Count)
read_sql text = option_and_then (read_words text) (read_word false (after_blanks text))
