-- A text in `sql_standard` style has one list of counts: what the reader finds.
use Rattle.std.proofs.Common.{◌≡◌, ◌⊎◌, ℕ, cond, Bool, true, false, List, [], ◌∷◌, ◌++◌, Some, option_and_then, refl, sym, ◌∙◌, ap, ap₂}
use Rattle.std.proofs.Common.{inl, inr, codes}
use Rattle.scan_core.specs.Blanks.{is_blank, words, EndsWord}
use Rattle.scan_core.specs.Count.{Count}
use Rattle.pg_interval_2.specs.inside.ItemReading.{after_blanks}
use Rattle.pg_interval_2.specs.Sql.{IsYearMonth, IsSqlTime, AreSqlWords, IsSql}
use Rattle.pg_interval_2.specs.inside.SqlReading.{YearMonth, Days, word_counts, read_field, read_word, last_time, behind_date, behind_days}
use Rattle.pg_interval_2.specs.inside.SqlReading.{read_sql}
use Rattle.pg_interval_2.proofs.Answering.{HasOneList}
use Rattle.pg_interval_2.proofs.ItemWords.{first_word, words-after_blanks, words_in_front}
use Rattle.pg_interval_2.proofs.SqlWords.{year_month_read, days_read, time_read}

-- ---- words in front of bytes

-- bytes with no blank in front
abbrev pub NoBlankFirst : List ℕ → Type 0
NoBlankFirst [] = Unit {0}
NoBlankFirst (b ∷ bs) = is_blank b ≡ false

blank_if : (t : Bool) (b : ℕ) (bs rest : List ℕ) → is_blank b ≡ t → NoBlankFirst rest → NoBlankFirst (cond t rest (b ∷ bs))
blank_if true b bs rest e h = h
blank_if false b bs rest e h = e

pub after_blanks-first : (bytes : List ℕ) → NoBlankFirst (after_blanks bytes)
after_blanks-first [] = tt
after_blanks-first (b ∷ bs) = blank_if (is_blank b) b bs (after_blanks bs) refl (after_blanks-first bs)

-- a word in front, and the words behind it
pub record BeginsWith (bytes word : List ℕ) (more : List (List ℕ)) : Type 0 where
  pub first : ℕ
  pub front : List ℕ
  pub rest : List ℕ
  pub bytes_are : bytes ≡ first ∷ front
  pub split : bytes ≡ word ++ rest
  pub ends : EndsWord rest
  pub behind : words rest ≡ more

begins : (bytes word : List ℕ) (more : List (List ℕ)) → NoBlankFirst bytes → words bytes ≡ word ∷ more → BeginsWith bytes word more
begins [] word more clear h = cc
begins (b ∷ bs) word more clear h =
    let found = first_word b bs clear in
    let all : words (b ∷ bs) ≡ found.word ∷ words found.rest = ap words found.split
    ∙ words_in_front found.word found.rest found.some found.solid found.ends in
    let same : found.word ∷ words found.rest ≡ word ∷ more = sym all ∙ h in
    let word_is : found.word ≡ word = cc in
    record {
      first = b;
      front = bs;
      rest = found.rest;
      bytes_are = refl;
      split = found.split ∙ ap (λ (l : List ℕ). l ++ found.rest) word_is;
      ends = found.ends;
      behind = cc;
    }

pub begins_with : (bytes word : List ℕ) (more : List (List ℕ)) → words bytes ≡ word ∷ more → BeginsWith (after_blanks bytes) word more
begins_with bytes word more h = begins (after_blanks bytes) word more (after_blanks-first bytes) (words-after_blanks bytes ∙ h)

nothing_if : (bytes : List ℕ) → NoBlankFirst bytes → words bytes ≡ [] → bytes ≡ []
nothing_if [] clear h = refl
nothing_if (b ∷ bs) clear h =
    let found = first_word b bs clear in
    let all : words (b ∷ bs) ≡ found.word ∷ words found.rest = ap words found.split
    ∙ words_in_front found.word found.rest found.some found.solid found.ends in
    let clash : found.word ∷ words found.rest ≡ [] = sym all ∙ h in cc

pub no_words : (bytes : List ℕ) → words bytes ≡ [] → after_blanks bytes ≡ []
no_words bytes h = nothing_if (after_blanks bytes) (after_blanks-first bytes) (words-after_blanks bytes ∙ h)

-- ---- the words of a text are read

one_word : (text word : List ℕ) (counts : List Count) → words text ≡ word ∷ [] → IsYearMonth word counts ⊎ IsSqlTime false word counts
    → read_sql text ≡ Some counts
unfolding read_sql behind_date
one_word text word counts h (inl date) =
    let found = begins_with text word [] h in
    let read = ap (read_word false) found.split ∙ year_month_read word found.rest counts date found.ends in
    let end = no_words found.rest found.behind in
    rw (read, end) (ap (λ (l : List Count). Some l) (sym date.counted))
one_word text word counts h (inr time) =
    let found = begins_with text word [] h in
    let reads = time_read false word found.rest counts time found.ends in
    let read = ap (read_word false) found.split ∙ reads.read in
    let end = no_words found.rest found.behind in
    rw (read, end) (ap (λ (l : List Count). Some l) (sym reads.counted))

-- a time that ends the bytes, behind counts
ends_in_time : (default : Bool) (bytes word : List ℕ) (before counts : List Count) → words bytes ≡ word ∷ [] → IsSqlTime default word counts
    → option_and_then (last_time before) (read_word default (after_blanks bytes)) ≡ Some (before ++ counts)
ends_in_time default bytes word before counts h time =
    let found = begins_with bytes word [] h in
    let reads = time_read default word found.rest counts time found.ends in
    let read = ap (read_word default) found.split ∙ reads.read in
    let end = no_words found.rest found.behind in
    rw (read, end) (ap (λ (l : List Count). Some (before ++ l)) (sym reads.counted))

two_words : (text first second : List ℕ) (counts : List Count) → words text ≡ first ∷ second ∷ [] → AreSqlWords (first ∷ second ∷ []) counts
    → read_sql text ≡ Some counts
unfolding read_sql behind_days
two_words text first second counts h are =
    let found = begins_with text first (second ∷ []) h in
    let read = ap (read_word false) found.split ∙ days_read are.0 first found.rest are.1 are.3 found.ends in
    let next = (begins_with found.rest second [] found.behind).bytes_are in
    let last = ends_in_time are.0 found.rest second (word_counts (Days are.0 are.3.days)) are.2 found.behind are.4 in
    let counted = are.5 ∙ ap (λ (l : List Count). l ++ are.2) are.3.counted in
    rw (read, next) (rw next at last ∙ ap (λ (l : List Count). Some l) (sym counted))

three_words : (text first second third : List ℕ) (counts : List Count) → words text ≡ first ∷ second ∷ third ∷ []
    → AreSqlWords (first ∷ second ∷ third ∷ []) counts
    → read_sql text ≡ Some counts
unfolding read_sql behind_date
three_words text first second third counts h are =
    let found = begins_with text first (second ∷ third ∷ []) h in
    let read = ap (read_word false) found.split ∙ year_month_read first found.rest are.1 are.4 found.ends in
    let next = begins_with found.rest second (third ∷ []) found.behind in
    let here = next.bytes_are in
    let then = ap (read_word false) (sym next.bytes_are ∙ next.split) ∙ days_read are.0 second next.rest are.2 are.5 next.ends in
    let before = word_counts (YearMonth are.4.negative are.4.years are.4.months) ++ word_counts (Days are.0 are.5.days) in
    let last = ends_in_time false next.rest third before are.3 next.behind are.6 in
    let counted = are.7 ∙ ap₂ (λ (x y : List Count). x ++ (y ++ are.3)) are.4.counted are.5.counted in
    rw (read, here, then) (last ∙ ap (λ (l : List Count). Some l) (sym counted))

zero_read : read_sql (codes "0") ≡ Some []
unfolding read_sql behind_days read_word read_field
zero_read = refl

words_read : (text : List ℕ) (all : List (List ℕ)) (counts : List Count) → words text ≡ all → AreSqlWords all counts
    → read_sql text ≡ Some counts
words_read text [] counts h are = absurd are
words_read text (word ∷ []) counts h are = one_word text word counts h are
words_read text (first ∷ second ∷ []) counts h are = two_words text first second counts h are
words_read text (first ∷ second ∷ third ∷ []) counts h are = three_words text first second third counts h are
words_read text (first ∷ second ∷ third ∷ fourth ∷ more) counts h are = absurd are

pub sql_read : (text : List ℕ) (counts : List Count) → IsSql text counts → read_sql text ≡ Some counts
sql_read text counts (inl zero) = rw (zero.0, zero.1) zero_read
sql_read text counts (inr are) = words_read text (words text) counts refl are

pub one_list : HasOneList IsSql
one_list text a b ha hb = let same : Some a ≡ Some b = sym (sql_read text a ha) ∙ sql_read text b hb in cc
