-- What is read as a whole text in `sql_standard` style is one, and a text that isn't read has no shape.
use Rattle.std.proofs.Common.{◌≡◌, ℕ, ◌<◌, ◌==◌, Bool, false, List, [], ◌∷◌, ◌++◌, length, length-append, Option, Some, None}
use Rattle.std.proofs.Common.{option_and_then, refl, sym, ◌∙◌, ap, subst, append-nil, arith, inl, inr, codes}
use Rattle.std.proofs.lemmas.Option.{same_Some, cond_some, option_and_then_some}
use Rattle.std.proofs.lemmas.Bool.{and_parts, eqb-true}
use Rattle.scan_core.specs.Blanks.{words}
use Rattle.scan_core.specs.Count.{Count}
use Rattle.scan_core.specs.Digits.{AreDigits, number_of}
use Rattle.scan_core.proofs.DigitFacts.{digit_is_alone}
use Rattle.pg_interval_2.specs.Denotes.{HasNoShape}
use Rattle.pg_interval_2.specs.inside.ItemReading.{after_blanks}
use Rattle.pg_interval_2.specs.Sql.{IsSignOr, IsYearMonth, IsDays, IsSqlTime, AreSqlWords, IsSql}
use Rattle.pg_interval_2.specs.inside.SqlReading.{SqlWord, YearMonth, Days, Time, word_counts, read_word, last_time, days_and_time}
use Rattle.pg_interval_2.specs.inside.SqlReading.{behind_date, behind_days, read_words, read_sql}
use Rattle.pg_interval_2.proofs.ItemFacts.{are_skipped}
use Rattle.pg_interval_2.proofs.ItemWords.{words-after_blanks, words_in_front, no_blanks-append, digits_no_blanks}
use Rattle.pg_interval_2.proofs.SqlCounts.{sql_read}
use Rattle.pg_interval_2.proofs.SqlFound.{negative_of, IsBody, StandsWord, word_stands}
use Rattle.pg_interval_2.proofs.SqlSolid.{IsSolid, solid, seconds_clear}

-- ---- the words that stand in front

body_solid : (default : Bool) (sign body : List ℕ) (word : SqlWord) → IsSignOr default (negative_of word) sign → IsBody word body
    → IsSolid (sign ++ body)
body_solid default sign body (YearMonth negative years months) signed is =
    subst (λ (l : List ℕ). IsSolid (sign ++ l)) (sym is.2) (solid default negative sign years (codes "-" ++ months) signed is.0
    (refl, digits_no_blanks months is.1.1))
body_solid default sign body (Days negative days) signed is = subst (λ (l : List ℕ). IsSolid (sign ++ l)) (sym is.1)
    (solid default negative sign days [] signed is.0 tt)
body_solid default sign body (Time negative hours minutes seconds) signed is =
    let behind = is.2 in
    subst (λ (l : List ℕ). IsSolid (sign ++ l)) (sym behind.2)
    (solid default negative sign hours (codes ":" ++ (minutes ++ behind.0)) signed is.0
    (refl, no_blanks-append minutes behind.0 (digits_no_blanks minutes is.1.1) (seconds_clear negative behind.0 _ behind.1)))

words_are : (default : Bool) (bytes : List ℕ) (r : SqlWord × List ℕ) (h : StandsWord default bytes r)
    → words bytes ≡ (h.sign ++ h.body) ∷ words r.1
words_are default bytes r h =
    let clear = body_solid default h.sign h.body r.0 h.signed h.is in
    ap words h.split ∙ words_in_front (h.sign ++ h.body) h.after clear.0 clear.1 h.ends
    ∙ ap (λ (ws : List (List ℕ)). (h.sign ++ h.body) ∷ ws) (sym (words-after_blanks h.after) ∙ ap words h.behind)

is_year_month :
    (bytes rest : List ℕ) (negative : Bool) (years months : List ℕ) (h : StandsWord false bytes (YearMonth negative years months, rest))
    → IsYearMonth (h.sign ++ h.body) (word_counts (YearMonth negative years months))
is_year_month bytes rest negative years months h = record {
  negative = negative;
  sign = h.sign;
  years = years;
  months = months;
  signed = h.signed;
  year_field = h.is.0;
  month_field = h.is.1;
  joined = ap (λ (l : List ℕ). h.sign ++ l) h.is.2;
  counted = refl;
}

are_days : (bytes rest : List ℕ) (negative : Bool) (days : List ℕ) (h : StandsWord false bytes (Days negative days, rest))
    → IsDays negative (h.sign ++ h.body) (word_counts (Days negative days))
are_days bytes rest negative days h = record {
  sign = h.sign;
  days = days;
  signed = h.signed;
  day_field = h.is.0;
  joined = ap (λ (l : List ℕ). h.sign ++ l) (h.is.1 ∙ append-nil days);
  counted = refl;
}

is_time :
    (default : Bool) (bytes rest : List ℕ) (negative : Bool) (hours minutes : List ℕ) (seconds : Option (List ℕ × List ℕ))
    (h : StandsWord default bytes (Time negative hours minutes seconds, rest))
    → IsSqlTime default (h.sign ++ h.body) (word_counts (Time negative hours minutes seconds))
is_time default bytes rest negative hours minutes seconds h =
    let behind = h.is.2 in
    record {
      negative = negative;
      sign = h.sign;
      hours = hours;
      minutes = minutes;
      piece = behind.0;
      second_counts = _;
      signed = h.signed;
      hour_field = h.is.0;
      minute_field = h.is.1;
      seconds = behind.1;
      joined = ap (λ (l : List ℕ). h.sign ++ l) behind.2;
      counted = refl;
    }

-- ---- the words of a text

-- a time ends the bytes, behind counts
pub record TimeEnds (default : Bool) (bytes : List ℕ) (before counts : List Count) : Type 0 where
  pub word : List ℕ
  pub time_counts : List Count
  pub words_are : words bytes ≡ word ∷ []
  pub time : IsSqlTime default word time_counts
  pub counted : counts ≡ before ++ time_counts

last_ends : (default : Bool) (bytes : List ℕ) (before counts : List Count) (r : SqlWord × List ℕ) → StandsWord default bytes r
    → last_time before r ≡ Some counts
    → TimeEnds default bytes before counts
last_ends default bytes before counts (YearMonth negative years months, rest) h e = cc
last_ends default bytes before counts (Days negative days, rest) h e = cc
last_ends default bytes before counts (Time negative hours minutes seconds, b ∷ rest) h e = cc
last_ends default bytes before counts (Time negative hours minutes seconds, []) h e = record {
  word = h.sign ++ h.body;
  time_counts = word_counts (Time negative hours minutes seconds);
  words_are = words_are default bytes (Time negative hours minutes seconds, []) h;
  time = is_time default bytes [] negative hours minutes seconds h;
  counted = sym (same_Some _ _ e);
}

time_ends : (default : Bool) (bytes : List ℕ) (before counts : List Count)
    → option_and_then (last_time before) (read_word default bytes) ≡ Some counts
    → TimeEnds default bytes before counts
time_ends default bytes before counts h =
    option_and_then_some (last_time before) (read_word default bytes) counts h
    (λ r read last. last_ends default bytes before counts r (word_stands default bytes r read) last)

by_words : (text : List ℕ) (all : List (List ℕ)) (counts : List Count) → words (after_blanks text) ≡ all → AreSqlWords all counts
    → IsSql text counts
by_words text all counts h are = inr (subst (λ (ws : List (List ℕ)). AreSqlWords ws counts) (sym (sym (words-after_blanks text) ∙ h)) are)

-- days and a time stand behind a year-month
date_and_days :
    (text : List ℕ) (b : ℕ) (rest : List ℕ) (negative : Bool) (years months : List ℕ) (counts : List Count)
    (h : StandsWord false (after_blanks text) (YearMonth negative years months, b ∷ rest)) (r : SqlWord × List ℕ)
    → StandsWord false (b ∷ rest) r → days_and_time (word_counts (YearMonth negative years months)) r ≡ Some counts
    → IsSql text counts
date_and_days text b rest negative years months counts h (YearMonth n y m, last) then e = cc
date_and_days text b rest negative years months counts h (Time n hours minutes seconds, last) then e = cc
date_and_days text b rest negative years months counts h (Days n days, last) then e =
    let ends = time_ends false last (word_counts (YearMonth negative years months) ++ word_counts (Days n days)) counts e in
    let third = ends.words_are in
    let second = words_are false (b ∷ rest) (Days n days, last) then ∙ ap (λ (ws : List (List ℕ)). (then.sign ++ then.body) ∷ ws) third in
    by_words text ((h.sign ++ h.body) ∷ (then.sign ++ then.body) ∷ ends.word ∷ []) counts
    (words_are false (after_blanks text) (YearMonth negative years months, b ∷ rest) h
    ∙ ap (λ (ws : List (List ℕ)). (h.sign ++ h.body) ∷ ws) second) (
      n,
      word_counts (YearMonth negative years months),
      word_counts (Days n days),
      ends.time_counts,
      is_year_month (after_blanks text) (b ∷ rest) negative years months h,
      are_days (b ∷ rest) last n days then,
      ends.time,
      ends.counted,
    )

-- ---- zero

one_byte : (blanks sign days after : List ℕ) → 0 < length days → length (blanks ++ ((sign ++ (days ++ [])) ++ after)) ≡ 1
    → (d : ℕ) × (days ≡ d ∷ []) × (blanks ++ ((sign ++ (days ++ [])) ++ after) ≡ d ∷ [])
one_byte [] [] (d ∷ []) [] some h = (d, refl, refl)
one_byte [] [] (d ∷ []) (c ∷ after) some h = absurd (omega arith)
one_byte [] [] (d ∷ e ∷ days) after some h = absurd (omega arith)
one_byte [] [] [] after some h = absurd (omega arith)
one_byte [] (c ∷ sign) days after some h = absurd (omega (
  arith,
  length-append (sign ++ (days ++ [])) after,
  length-append sign (days ++ []),
  length-append days [],
))
one_byte (c ∷ blanks) sign days after some h =
    absurd (omega (
      arith,
      length-append blanks ((sign ++ (days ++ [])) ++ after),
      length-append (sign ++ (days ++ [])) after,
      length-append sign (days ++ []),
      length-append days [],
    ))

zero_digit : (d : ℕ) → AreDigits (d ∷ []) → number_of (d ∷ []) ≡ 0 → d ≡ 48
zero_digit d digits none = omega (arith, digit_is_alone d digits.0)

zero_shape : (text : List ℕ) (negative : Bool) (days : List ℕ) (counts : List Count)
    → StandsWord false (after_blanks text) (Days negative days, []) → behind_days text negative days [] ≡ Some counts
    → IsSql text counts
unfolding behind_days
zero_shape text negative days counts h e =
    let found = cond_some _ _ _ e in
    let tests = and_parts (length text == 1) (number_of days == 0) found.0 in
    let skip = are_skipped text in
    let body = h.is.1 in
    let split : text ≡ skip.0 ++ ((h.sign ++ (days ++ [])) ++ h.after) =
    skip.2 ∙ ap (λ (l : List ℕ). skip.0 ++ l) (h.split ∙ ap (λ (l : List ℕ). (h.sign ++ l) ++ h.after) body) in
    let one = one_byte skip.0 h.sign days h.after h.is.0.0 (ap (λ (l : List ℕ). length l) (sym split) ∙ eqb-true (length text) 1 tests.0) in
    let digits : AreDigits (one.0 ∷ []) = subst AreDigits one.1 h.is.0.1 in
    let none : number_of (one.0 ∷ []) ≡ 0 = ap number_of (sym one.1) ∙ eqb-true (number_of days) 0 tests.1 in
    let zero_is : one.0 ≡ 48 = zero_digit one.0 digits none in
    inl (split ∙ one.2 ∙ ap (λ (c : ℕ). c ∷ []) zero_is, sym found.1)

-- ---- the whole text

date_found : (text : List ℕ) (counts : List Count) (negative : Bool) (years months rest : List ℕ)
    → StandsWord false (after_blanks text) (YearMonth negative years months, rest)
    → behind_date (word_counts (YearMonth negative years months)) rest ≡ Some counts
    → IsSql text counts
unfolding behind_date
date_found text counts negative years months [] h e =
    by_words text ((h.sign ++ h.body) ∷ []) counts (words_are false (after_blanks text) (YearMonth negative years months, []) h)
    (inl (subst (IsYearMonth (h.sign ++ h.body)) (same_Some _ _ e) (is_year_month (after_blanks text) [] negative years months h)))
date_found text counts negative years months (b ∷ rest) h e =
    option_and_then_some _ (read_word false (b ∷ rest)) counts e
    (λ r read then. date_and_days text b rest negative years months counts h r (word_stands false (b ∷ rest) r read) then)

days_found : (text : List ℕ) (counts : List Count) (negative : Bool) (days rest : List ℕ)
    → StandsWord false (after_blanks text) (Days negative days, rest) → behind_days text negative days rest ≡ Some counts
    → IsSql text counts
unfolding behind_days
days_found text counts negative days [] h e = zero_shape text negative days counts h e
days_found text counts negative days (b ∷ rest) h e =
    let ends = time_ends negative (b ∷ rest) (word_counts (Days negative days)) counts e in
    by_words text ((h.sign ++ h.body) ∷ ends.word ∷ []) counts
    (words_are false (after_blanks text) (Days negative days, b ∷ rest) h
    ∙ ap (λ (ws : List (List ℕ)). (h.sign ++ h.body) ∷ ws) ends.words_are) (
      negative,
      word_counts (Days negative days),
      ends.time_counts,
      are_days (after_blanks text) (b ∷ rest) negative days h,
      ends.time,
      ends.counted,
    )

words_found : (text : List ℕ) (counts : List Count) (r : SqlWord × List ℕ) → StandsWord false (after_blanks text) r
    → read_words text r ≡ Some counts
    → IsSql text counts
words_found text counts (YearMonth negative years months, rest) h e = date_found text counts negative years months rest h e
words_found text counts (Days negative days, rest) h e = days_found text counts negative days rest h e
words_found text counts (Time negative hours minutes seconds, rest) h e =
    let ends = last_ends false (after_blanks text) [] counts (Time negative hours minutes seconds, rest) h e in
    by_words text (ends.word ∷ []) counts ends.words_are (inr (subst (IsSqlTime false ends.word) (sym ends.counted) ends.time))

pub is_sql : (text : List ℕ) (counts : List Count) → read_sql text ≡ Some counts → IsSql text counts
unfolding read_sql
is_sql text counts h =
    option_and_then_some (read_words text) (read_word false (after_blanks text)) counts h
    (λ r read then. words_found text counts r (word_stands false (after_blanks text) r read) then)

pub not_sql : (text : List ℕ) → read_sql text ≡ None → HasNoShape IsSql text
not_sql text none counts is = let clash : Some counts ≡ None = sym (sql_read text counts is) ∙ none in cc
