-- What the runs of a `sql_standard` word are in their text: cited by private contracts alone.
use Rattle.std.specs.Prelude.{ℕ, List, [], ◌++◌, Option, Some, None, option_map}
use Rattle.scan_core.specs.Count.{Count}
use Rattle.scan_core.specs.Runs.{IsRun, digits_of}
use Rattle.pg_interval_2.specs.declared.reading.sql_word.YearMonth.{YearMonth as YearMonthRuns}
use Rattle.pg_interval_2.specs.declared.reading.sql_word.Days.{Days as DayRuns}
use Rattle.pg_interval_2.specs.declared.reading.sql_word.Seconds.{Seconds as SecondRuns}
use Rattle.pg_interval_2.specs.declared.reading.sql_word.Time.{Time as TimeRuns}
use Rattle.pg_interval_2.specs.declared.reading.sql_word.Word.{Word}
use Rattle.pg_interval_2.specs.declared.reading.sql_word.Word.TheVariants as word
use Rattle.pg_interval_2.specs.declared.reading.sql_words.Words.{Words}
use Rattle.pg_interval_2.specs.inside.SqlReading.{SqlWord, YearMonth, Days, Time, word_counts}

-- what may be there is so
abbrev pub Perhaps : {A : Type 0} → (A → Type 0) → Option A → Type 0
Perhaps Is None = Unit {0}
Perhaps Is (Some x) = Is x

-- the digits of seconds
abbrev pub seen_seconds : List ℕ → SecondRuns → List ℕ × List ℕ
seen_seconds text s = (digits_of text s.whole, digits_of text s.fraction)

abbrev pub AreSecondRuns : List ℕ → SecondRuns → Type 0
AreSecondRuns text s = IsRun text s.whole × IsRun text s.fraction

-- the digits of a word
abbrev pub seen_year_month : List ℕ → YearMonthRuns → SqlWord
seen_year_month text d = YearMonth d.negative (digits_of text d.years) (digits_of text d.months)

abbrev pub seen_days : List ℕ → DayRuns → SqlWord
seen_days text d = Days d.negative (digits_of text d.days)

abbrev pub seen_time : List ℕ → TimeRuns → SqlWord
seen_time text t =
    Time t.negative (digits_of text t.hours) (digits_of text t.minutes)
    (option_map (seen_seconds text) t.seconds)

abbrev pub seen_word : List ℕ → Word → SqlWord
seen_word text (word.YearMonth d) = seen_year_month text d
seen_word text (word.Days d) = seen_days text d
seen_word text (word.Time t) = seen_time text t

-- the digits stand in the text
abbrev pub AreDateRuns : List ℕ → YearMonthRuns → Type 0
AreDateRuns text d = IsRun text d.years × IsRun text d.months

abbrev pub AreTimeRuns : List ℕ → TimeRuns → Type 0
AreTimeRuns text t =
    IsRun text t.hours × IsRun text t.minutes × Perhaps (AreSecondRuns text) t.seconds

abbrev pub AreRuns : List ℕ → Word → Type 0
AreRuns text (word.YearMonth d) = AreDateRuns text d
AreRuns text (word.Days d) = IsRun text d.days
AreRuns text (word.Time t) = AreTimeRuns text t

-- the counts of what may be there
abbrev pub perhaps_counts : {A : Type 0} → (A → SqlWord) → Option A → List Count
perhaps_counts seen None = []
perhaps_counts seen (Some x) = word_counts (seen x)

-- the counts of a text's words, and that their digits stand in it
abbrev pub text_counts : List ℕ → Words → List Count
text_counts text words =
    (perhaps_counts (seen_year_month text) words.date ++ perhaps_counts (seen_days text) words.days)
    ++ perhaps_counts (seen_time text) words.time

abbrev pub AreTextRuns : List ℕ → Words → Type 0
AreTextRuns text words =
    Perhaps (AreDateRuns text) words.date × Perhaps (λ (d : DayRuns). IsRun text d.days) words.days
    × Perhaps (AreTimeRuns text) words.time
