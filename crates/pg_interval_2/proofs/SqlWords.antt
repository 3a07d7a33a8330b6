-- A word of a text in `sql_standard` style that stands in front is read.
use Rattle.std.proofs.Common.{◌≤◌, ◌≡◌, ℕ, ◌==◌, Bool, true, false, nat_le, List, [], ◌∷◌, ◌++◌, length, Option, Some, None}
use Rattle.std.proofs.Common.{option_and_then, refl, ◌∙◌, ap, append_assoc, arith, inl, inr, codes, lt-ltb}
use Rattle.std.proofs.lemmas.Bool.Decides.{nat_tests}
use Rattle.scan_core.specs.Blanks.{is_blank, EndsWord}
use Rattle.scan_core.specs.Count.{Count, count_of}
use Rattle.scan_core.specs.declared.share.Unit.TheVariants.{Hour, Minute}
use Rattle.scan_core.specs.Number.{IsFraction}
use Rattle.scan_core.specs.Digits.{AreSomeDigits}
use Rattle.pg_interval_2.specs.inside.ItemReading.{after_blanks}
use Rattle.pg_interval_2.specs.Sql.{IsSignOr, IsYearMonth, IsDays, IsSqlTime}
use Rattle.pg_interval_2.specs.inside.SqlParts.{HasSeconds}
use Rattle.pg_interval_2.specs.inside.SqlReading.{SqlWord, YearMonth, Days, Time, seconds_counts, word_counts, read_sign_or, read_field}
use Rattle.pg_interval_2.specs.inside.SqlReading.{read_seconds, read_perhaps_seconds, read_time, read_months, read_behind, closed_word}
use Rattle.pg_interval_2.specs.inside.SqlReading.{read_word}
use Rattle.scan_core.specs.Fronts.{NoDigitFirst}
use Rattle.scan_core.proofs.FrontFacts.{front_of, after_of}
use Rattle.pg_interval_2.proofs.Numbers.{NoSignFirst, fraction_of, tail_no_digit}
use Rattle.pg_interval_2.proofs.ItemFacts.{blank_is_no, ends_test}
use Rattle.pg_interval_2.proofs.ItemsInFront.{end_closes, field_no_sign}

-- ---- a sign and digits

no_sign_or : (default : Bool) (rest : List ℕ) → NoSignFirst rest → read_sign_or default rest ≡ (default, rest)
no_sign_or default [] h = refl
no_sign_or default (b ∷ bs) h = rw (h.0, h.1) refl

sign_read : (default negative : Bool) (sign rest : List ℕ) → IsSignOr default negative sign → NoSignFirst rest
    → read_sign_or default (sign ++ rest) ≡ (negative, rest)
sign_read default true sign rest (inl minus) n = rw minus refl
sign_read default true sign rest (inr none) n = rw (none.0, none.1) (no_sign_or true rest n)
sign_read default false sign rest (inl plus) n = rw plus refl
sign_read default false sign rest (inr none) n = rw (none.0, none.1) (no_sign_or false rest n)

pub field_read : (field rest : List ℕ) → AreSomeDigits field → NoDigitFirst rest → read_field (field ++ rest) ≡ Some (field, rest)
unfolding read_field
field_read field rest h n =
    let front = front_of field rest h.1 n in
    let after = after_of field rest h.1 n in
    let some = lt-ltb 0 (length field) h.0 in
    rw (front, after, some) refl

-- the first digits of a word are read, and what they are is told by what follows them
word_read : (default negative : Bool) (sign digits tail : List ℕ) → IsSignOr default negative sign → AreSomeDigits digits
    → NoDigitFirst tail
    → read_word default (sign ++ (digits ++ tail)) ≡ option_and_then closed_word (read_behind negative digits tail)
unfolding read_word
word_read default negative sign digits tail signed field n =
    let first = sign_read default negative sign (digits ++ tail) signed (field_no_sign digits tail field) in
    let second = field_read digits tail field n in
    rw (first, second) refl

word_ends : (rest : List ℕ) (word : SqlWord) → EndsWord rest → closed_word (word, rest) ≡ Some (word, after_blanks rest)
word_ends rest word ends = let ended = ends_test rest ends in rw ended refl

-- ---- a year-month

months_read : (negative : Bool) (years months rest : List ℕ) → AreSomeDigits months → EndsWord rest
    → read_months negative years (months ++ rest) ≡ Some (YearMonth negative years months, rest)
unfolding read_months
months_read negative years months rest field ends = let found = field_read months rest field (end_closes rest ends).digit in rw found refl

pub year_month_read : (word rest : List ℕ) (counts : List Count) (h : IsYearMonth word counts) → EndsWord rest
    → read_word false (word ++ rest) ≡ Some (YearMonth h.negative h.years h.months, after_blanks rest)
year_month_read word rest counts h ends =
    let split : word ++ rest ≡ h.sign ++ (h.years ++ (codes "-" ++ (h.months ++ rest))) =
    ap (λ (l : List ℕ). l ++ rest) h.joined ∙ append_assoc h.sign (h.years ++ (codes "-" ++ h.months)) rest
    ∙ ap (λ (l : List ℕ). h.sign ++ l) (append_assoc h.years (codes "-" ++ h.months) rest) in
    let first = word_read false h.negative h.sign h.years (codes "-" ++ (h.months ++ rest)) h.signed h.year_field refl in
    let behind = months_read h.negative h.years h.months rest h.month_field ends in
    ap (read_word false) split ∙ first ∙ rw behind (word_ends rest (YearMonth h.negative h.years h.months) ends)

-- ---- days

blank_is_neither : (b : ℕ) → is_blank b ≡ true → ((b == 45) ≡ false) × ((b == 58) ≡ false)
blank_is_neither b h = grind (arith, nat_tests)

end_is_days : (negative : Bool) (days rest : List ℕ) → EndsWord rest → read_behind negative days rest ≡ Some (Days negative days, rest)
end_is_days negative days [] ends = refl
end_is_days negative days (b ∷ bs) ends = let other = blank_is_neither b ends in rw (other.0, other.1) refl

pub days_read : (negative : Bool) (word rest : List ℕ) (counts : List Count) (h : IsDays negative word counts) → EndsWord rest
    → read_word false (word ++ rest) ≡ Some (Days negative h.days, after_blanks rest)
days_read negative word rest counts h ends =
    let split : word ++ rest ≡ h.sign ++ (h.days ++ rest) = ap (λ (l : List ℕ). l ++ rest) h.joined ∙ append_assoc h.sign h.days rest in
    let first = word_read false negative h.sign h.days rest h.signed h.day_field (end_closes rest ends).digit in
    let behind = end_is_days negative h.days rest ends in
    ap (read_word false) split ∙ first ∙ rw behind (word_ends rest (Days negative h.days) ends)

-- ---- a time

-- what seconds are read as, if they are there
pub record ReadsSeconds (negative : Bool) (piece rest : List ℕ) (counts : List Count) : Type 0 where
  pub seconds : Option (List ℕ × List ℕ)
  pub read : read_perhaps_seconds (piece ++ rest) ≡ Some (seconds, rest)
  pub counted : counts ≡ seconds_counts negative seconds
  pub no_digit : NoDigitFirst (piece ++ rest)

no_seconds : (rest : List ℕ) → EndsWord rest → read_perhaps_seconds rest ≡ Some (None, rest)
no_seconds [] ends = refl
no_seconds (b ∷ bs) ends = let other = (blank_is_no b ends).2 in rw other refl

seconds_behind : (seconds fraction tail rest : List ℕ) → AreSomeDigits seconds → IsFraction fraction tail → length fraction ≤ 6
    → EndsWord rest
    → read_seconds (seconds ++ (tail ++ rest)) ≡ Some ((seconds, fraction), rest)
unfolding read_seconds
seconds_behind seconds fraction tail rest digits point few ends =
    let closes = end_closes rest ends in
    let field = field_read seconds (tail ++ rest) digits (tail_no_digit fraction tail rest point closes.digit) in
    let behind = fraction_of fraction tail rest point closes.digit closes.point in
    let short : nat_le (length fraction) 6 ≡ true = grind (arith, nat_tests) in
    rw (field, behind, short) refl

seconds_read : (negative : Bool) (piece rest : List ℕ) (counts : List Count) → HasSeconds negative piece counts → EndsWord rest
    → ReadsSeconds negative piece rest counts
seconds_read negative piece rest counts (inl none) ends =
    let empty = none.0 in
    record { seconds = None; read = rw empty (no_seconds rest ends); counted = none.1; no_digit = rw empty (end_closes rest ends).digit }
seconds_read negative piece rest counts (inr h) ends =
    let split : piece ++ rest ≡ codes ":" ++ (h.seconds ++ (h.tail ++ rest)) =
    ap (λ (l : List ℕ). l ++ rest) h.joined ∙ ap (λ (l : List ℕ). codes ":" ++ l) (append_assoc h.seconds h.tail rest) in
    let behind = seconds_behind h.seconds h.fraction h.tail rest h.second_field h.point h.short ends in
    record {
      seconds = Some (h.seconds, h.fraction);
      read = ap read_perhaps_seconds split ∙ rw behind refl;
      counted = h.counted;
      no_digit = rw split refl;
    }

-- what a time is read as
pub record ReadsTime (default : Bool) (word rest : List ℕ) (counts : List Count) : Type 0 where
  pub negative : Bool
  pub hours : List ℕ
  pub minutes : List ℕ
  pub seconds : Option (List ℕ × List ℕ)
  pub read : read_word default (word ++ rest) ≡ Some (Time negative hours minutes seconds, after_blanks rest)
  pub counted : counts ≡ word_counts (Time negative hours minutes seconds)

minutes_read : (negative : Bool) (hours minutes piece rest : List ℕ) (seconds : Option (List ℕ × List ℕ)) → AreSomeDigits minutes
    → NoDigitFirst (piece ++ rest) → read_perhaps_seconds (piece ++ rest) ≡ Some (seconds, rest)
    → read_time negative hours (minutes ++ (piece ++ rest)) ≡ Some (Time negative hours minutes seconds, rest)
unfolding read_time
minutes_read negative hours minutes piece rest seconds field n read = let found = field_read minutes (piece ++ rest) field n in
    rw (found, read) refl

pub time_read : (default : Bool) (word rest : List ℕ) (counts : List Count) → IsSqlTime default word counts → EndsWord rest
    → ReadsTime default word rest counts
time_read default word rest counts h ends =
    let seconds = seconds_read h.negative h.piece rest h.second_counts h.seconds ends in
    let split : word ++ rest ≡ h.sign ++ (h.hours ++ (codes ":" ++ (h.minutes ++ (h.piece ++ rest)))) =
    ap (λ (l : List ℕ). l ++ rest) h.joined ∙ append_assoc h.sign (h.hours ++ (codes ":" ++ (h.minutes ++ h.piece))) rest
    ∙ ap (λ (l : List ℕ). h.sign ++ l) (append_assoc h.hours (codes ":" ++ (h.minutes ++ h.piece)) rest
    ∙ ap (λ (l : List ℕ). h.hours ++ (codes ":" ++ l)) (append_assoc h.minutes h.piece rest)) in
    let first = word_read default h.negative h.sign h.hours (codes ":" ++ (h.minutes ++ (h.piece ++ rest))) h.signed h.hour_field refl in
    let behind = minutes_read h.negative h.hours h.minutes h.piece rest seconds.seconds h.minute_field seconds.no_digit seconds.read in
    record {
      negative = h.negative;
      hours = h.hours;
      minutes = h.minutes;
      seconds = seconds.seconds;
      read = ap (read_word default) split ∙ first ∙ rw behind (word_ends rest (Time h.negative h.hours h.minutes seconds.seconds) ends);
      counted = h.counted ∙ ap (λ (more : List Count). count_of h.negative h.hours [] Hour ∷ count_of h.negative h.minutes [] Minute ∷ more)
          seconds.counted;
    }
