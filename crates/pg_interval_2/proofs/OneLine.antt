-- A written text is one line.
use Rattle.std.proofs.Common.{◌≡◌, ℕ, ◌^◌, ◌<◌, ◌≤◌, ◌&&◌, ◌==◌, not, Bool, true, false, cond, ℤ, unsigned_abs, pos, IsTrue, List, [], ◌∷◌}
use Rattle.std.proofs.Common.{◌++◌, codes, decimal, refl, sym, subst, arith}
use Rattle.std.proofs.lemmas.Bool.Decides.{nat_tests}
use Rattle.std.specs.Char.{is_ascii_digit}
use Rattle.std.specs.Int.{is_negative}
use Rattle.std.specs.Ordering.{int_eq}
use Rattle.std.specs.Prelude.{if◌then◌else◌}
use Rattle.std.specs.List.{list_all, join_with_byte}
use Rattle.scan_core.specs.Padded.{padded_digits, trimmed_digits}
use Rattle.scan_core.specs.declared.share.Part.TheVariants.{Months, Days, Micros}
use Rattle.scan_core.proofs.DigitFacts.{digits_decimal}
use Rattle.scan_core.proofs.PaddedFacts.{digits-padded}
use Rattle.scan_core.proofs.TrimmedFacts.{digits-trimmed}
use Rattle.pg_interval_2.specs.Alphabet.{is_no_feed}
use Rattle.pg_interval_2.specs.inside.ClockSteps.{hours_text, field_text, fraction_text, clock_steps}
use Rattle.pg_interval_2.specs.IsoText.{iso_part}
use Rattle.pg_interval_2.specs.inside.IsoSteps.{nonzero_digits, iso_decimal, iso_seconds, iso_date, iso_time, iso_steps}
use Rattle.scan_core.specs.Number.{minus}
use Rattle.pg_interval_2.specs.inside.PartSteps.{years_of, months_of, hours_of, minutes_of, seconds_of, subsecond_of}
use Rattle.pg_interval_2.specs.inside.PostgresSteps.{counted_name, number_words, named_words, clock_words, postgres_words, postgres_steps}
use Rattle.pg_interval_2.specs.Ranges.{IsInRange}
use Rattle.scan_core.specs.Number.{sign_text}
use Rattle.pg_interval_2.specs.inside.SqlSteps.{has_all_signs, year_month_text, signed_text, months_text, days_text, time_text, plain_text}
use Rattle.pg_interval_2.specs.inside.SqlSteps.{sql_steps}
use Rattle.pg_interval_2.specs.Styles.{style_text}
use Rattle.pg_interval_2.specs.Turned.{turned_sign}
use Rattle.pg_interval_2.specs.inside.VerboseSteps.{behind_spaces, unit_words, second_digits, second_words, verbose_date, verbose_time}
use Rattle.pg_interval_2.specs.inside.VerboseSteps.{parts_text, verbose_steps, has_ago}
use Rattle.pg_interval_2.specs.declared.interval.Interval.{Interval}
use Rattle.pg_interval_2.specs.declared.style.Style.{Style}
use Rattle.pg_interval_2.specs.declared.style.Style.TheVariants.{Iso, Postgres, Verbose, Sql, IsoStrict}
use Rattle.pg_interval_2.proofs.EachByte.{Each, EachWord, each-append, each_word-append, each-digits, each-if, each_word-if}
use Rattle.scan_core.proofs.Signs.{abs_fits}
use Rattle.scan_core.proofs.FitFacts.{fits_32, fits_64}
use Rattle.pg_interval_2.proofs.SumsTo.{}
use Rattle.pg_interval_2.proofs.TextsInSteps.{steps_of, in_steps}

abbrev OneLine : List ℕ → Type 0
OneLine bytes = Each is_no_feed bytes

abbrev OneLineEach : List (List ℕ) → Type 0
OneLineEach all = EachWord is_no_feed all

lit : (bytes : List ℕ) → list_all is_no_feed bytes ≡ true → OneLine bytes
lit bytes h = record { passes = h }

append : (a b : List ℕ) → OneLine a → OneLine b → OneLine (a ++ b)
append a b h k = each-append is_no_feed a b h k

if_line : (t : Bool) (a b : List ℕ) → OneLine a → OneLine b → OneLine (cond t a b)
if_line t a b h k = each-if is_no_feed t a b h k

words_then : (a b : List (List ℕ)) → OneLineEach a → OneLineEach b → OneLineEach (a ++ b)
words_then a b h k = each_word-append is_no_feed a b h k

if_words : (t : Bool) (a b : List (List ℕ)) → OneLineEach a → OneLineEach b → OneLineEach (cond t a b)
if_words t a b h k = each_word-if is_no_feed t a b h k

-- ---- parts are small

abbrev IsSmall : ℤ → Type 0
IsSmall z = unsigned_abs z ≤ 2 ^ 63

abs_small : (z : ℤ) → IsSmall z → unsigned_abs z < 2 ^ 64
abs_small z h = omega (arith, h)

years_small : (z : ℤ) → IsSmall z → years_of z < 2 ^ 64
years_small z h = omega (arith, h)

months_small : (z : ℤ) → IsSmall z → months_of z < 2 ^ 64
months_small z h = omega (arith, h)

hours_small : (z : ℤ) → IsSmall z → hours_of z < 2 ^ 64
hours_small z h = omega (arith, h)

minutes_small : (z : ℤ) → IsSmall z → minutes_of z < 2 ^ 64
minutes_small z h = omega (arith, h)

seconds_small : (z : ℤ) → IsSmall z → seconds_of z < 2 ^ 64
seconds_small z h = omega (arith, h)

subsecond_small : (z : ℤ) → IsSmall z → subsecond_of z < 2 ^ 64
subsecond_small z h = omega (arith, h)

-- ---- numbers

digit_line : (d : ℕ) → is_ascii_digit d ≡ true → is_no_feed d ≡ true
digit_line d h = grind (arith, nat_tests)

decimal_line : (n : ℕ) → n < 2 ^ 64 → OneLine (decimal n)
decimal_line n small = each-digits is_no_feed digit_line (decimal n) (digits_decimal n small)

padded_line : (width n : ℕ) → n < 2 ^ 64 → OneLine (padded_digits width n)
padded_line width n small = each-digits is_no_feed digit_line (padded_digits width n) (digits-padded width n small)

trimmed_line : (width n : ℕ) → n < 2 ^ 64 → OneLine (trimmed_digits (padded_digits width n))
trimmed_line width n small = each-digits is_no_feed digit_line (trimmed_digits (padded_digits width n))
    (digits-trimmed (padded_digits width n) (digits-padded width n small))

minus_line : (negative : Bool) → OneLine (minus negative)
minus_line true = lit (codes "-") refl
minus_line false = lit [] refl

-- ---- clocks

fraction_line : (n : ℕ) → n < 2 ^ 64 → OneLine (fraction_text n)
unfolding fraction_text
fraction_line n small = if_line (n == 0) [] (codes "." ++ padded_digits 6 n) (lit [] refl)
    (append (codes ".") (padded_digits 6 n) (lit (codes ".") refl) (padded_line 6 n small))

field_line : (n : ℕ) → n < 2 ^ 64 → OneLine (field_text n)
unfolding field_text
field_line n small = append (codes ":") (padded_digits 2 n) (lit (codes ":") refl) (padded_line 2 n small)

hours_line : (width n : ℕ) → n < 2 ^ 64 → OneLine (hours_text width n)
unfolding hours_text
hours_line width n small = padded_line width n small

clock_line : (width : ℕ) (micros : ℤ) → IsSmall micros → OneLine (clock_steps width micros)
unfolding clock_steps
clock_line width micros u =
    let fraction = fraction_line (subsecond_of micros) (subsecond_small micros u) in
    let seconds = append (field_text (seconds_of micros)) (fraction_text (subsecond_of micros))
    (field_line (seconds_of micros) (seconds_small micros u)) fraction in
    let minutes = append (field_text (minutes_of micros)) (field_text (seconds_of micros) ++ fraction_text (subsecond_of micros))
    (field_line (minutes_of micros) (minutes_small micros u)) seconds in
    append (hours_text width (hours_of micros)) (field_text (minutes_of micros)
    ++ (field_text (seconds_of micros) ++ fraction_text (subsecond_of micros)))
    (hours_line width (hours_of micros) (hours_small micros u)) minutes

signed_clock_line : (width : ℕ) (micros : ℤ) → IsSmall micros → OneLine (minus (is_negative micros) ++ clock_steps width micros)
signed_clock_line width micros u = append (minus (is_negative micros)) (clock_steps width micros) (minus_line (is_negative micros))
    (clock_line width micros u)

-- ---- the ISO style

part_line : (negative : Bool) (n : ℕ) (letter : List ℕ) → n < 2 ^ 64 → OneLine letter → OneLine (iso_part negative n letter)
unfolding iso_part
part_line negative n letter small h =
    let digits = append (decimal n) letter (decimal_line n small) h in
    if_line (n == 0) [] (minus negative ++ (decimal n ++ letter)) (lit [] refl)
    (append (minus negative) (decimal n ++ letter) (minus_line negative) digits)

nonzero_line : (n : ℕ) → n < 2 ^ 64 → OneLine (nonzero_digits n)
unfolding nonzero_digits
nonzero_line n small = if_line (n == 0) [] (decimal n) (lit [] refl) (decimal_line n small)

iso_decimal_line : (negative : Bool) (seconds micros : ℕ) → seconds < 2 ^ 64 → micros < 2 ^ 64
    → OneLine (iso_decimal negative seconds micros)
unfolding iso_decimal
iso_decimal_line negative seconds micros s m =
    let end : List ℕ = padded_digits 6 micros ++ codes "S" in
    let fraction = append (codes ".") end (lit (codes ".") refl)
    (append (padded_digits 6 micros) (codes "S") (padded_line 6 micros m) (lit (codes "S") refl)) in
    let number = append (nonzero_digits seconds) (codes "." ++ end) (nonzero_line seconds s) fraction in
    append (minus negative) (nonzero_digits seconds ++ (codes "." ++ end)) (minus_line negative) number

iso_seconds_line : (negative : Bool) (seconds micros : ℕ) → seconds < 2 ^ 64 → micros < 2 ^ 64
    → OneLine (iso_seconds negative seconds micros)
unfolding iso_seconds
iso_seconds_line negative seconds micros s m =
    if_line (micros == 0) (iso_part negative seconds (codes "S")) (iso_decimal negative seconds micros)
    (part_line negative seconds (codes "S") s (lit (codes "S") refl)) (iso_decimal_line negative seconds micros s m)

iso_date_line : (months days : ℤ) → IsSmall months → IsSmall days → OneLine (iso_date months days)
unfolding iso_date
iso_date_line months days m d =
    let year : List ℕ = iso_part (is_negative months) (years_of months) (codes "Y") in
    let month : List ℕ = iso_part (is_negative months) (months_of months) (codes "M") in
    let day : List ℕ = iso_part (is_negative days) (unsigned_abs days) (codes "D") in
    let months_in = part_line (is_negative months) (months_of months) (codes "M") (months_small months m) (lit (codes "M") refl) in
    let days_in = part_line (is_negative days) (unsigned_abs days) (codes "D") (abs_small days d) (lit (codes "D") refl) in
    append year (month ++ day) (part_line (is_negative months) (years_of months) (codes "Y") (years_small months m) (lit (codes "Y") refl))
    (append month day months_in days_in)

iso_clock_line : (micros : ℤ) → IsSmall micros
    → OneLine
    (iso_part (is_negative micros) (hours_of micros) (codes "H")
    ++ (iso_part (is_negative micros) (minutes_of micros) (codes "M")
    ++ iso_seconds (is_negative micros) (seconds_of micros) (subsecond_of micros)))
iso_clock_line micros u =
    let hour : List ℕ = iso_part (is_negative micros) (hours_of micros) (codes "H") in
    let minute : List ℕ = iso_part (is_negative micros) (minutes_of micros) (codes "M") in
    let second : List ℕ = iso_seconds (is_negative micros) (seconds_of micros) (subsecond_of micros) in
    let minutes = part_line (is_negative micros) (minutes_of micros) (codes "M") (minutes_small micros u) (lit (codes "M") refl) in
    let seconds = iso_seconds_line (is_negative micros) (seconds_of micros) (subsecond_of micros) (seconds_small micros u)
    (subsecond_small micros u) in
    append hour (minute ++ second) (part_line (is_negative micros) (hours_of micros) (codes "H") (hours_small micros u)
    (lit (codes "H") refl)) (append minute second minutes seconds)

iso_time_line : (micros : ℤ) → IsSmall micros → OneLine (iso_time micros)
unfolding iso_time
iso_time_line micros u = if_line (int_eq micros (pos 0)) [] _ (lit [] refl)
    (append (codes "T") _ (lit (codes "T") refl) (iso_clock_line micros u))

iso_line : (months days micros : ℤ) → IsSmall months → IsSmall days → IsSmall micros → OneLine (iso_steps months days micros)
unfolding iso_steps
iso_line months days micros m d u =
    let parts = append (iso_date months days) (iso_time micros) (iso_date_line months days m d) (iso_time_line micros u) in
    if_line (int_eq months (pos 0) && (int_eq days (pos 0) && int_eq micros (pos 0))) (codes "PT0S")
    (codes "P" ++ (iso_date months days ++ iso_time micros)) (lit (codes "PT0S") refl)
    (append (codes "P") (iso_date months days ++ iso_time micros) (lit (codes "P") refl) parts)

-- ---- words with spaces

name_line : (negative : Bool) (n : ℕ) (name : List ℕ) → OneLine name → OneLine (counted_name negative n name)
unfolding counted_name
name_line negative n name h = if_line (not negative && n == 1) name (name ++ codes "s") h (append name (codes "s") h (lit (codes "s") refl))

number_line : (negative : Bool) (n : ℕ) (word : List ℕ) → n < 2 ^ 64 → OneLine word → OneLineEach (number_words negative n word)
unfolding number_words
number_line negative n word small h =
    let number = append (minus negative) (decimal n) (minus_line negative) (decimal_line n small) in
    if_words (n == 0) [] ((minus negative ++ decimal n) ∷ word ∷ []) tt (number, (h, tt))

counted_line : (negative plural : Bool) (n : ℕ) (name : List ℕ) → n < 2 ^ 64 → list_all is_no_feed name ≡ true
    → OneLineEach (number_words negative n (counted_name plural n name))
counted_line negative plural n name small h = number_line negative n (counted_name plural n name) small
    (name_line plural n name (lit name h))

clock_words_line : (micros : ℤ) → IsSmall micros → OneLineEach (clock_words micros)
unfolding clock_words
clock_words_line micros u = if_words (int_eq micros (pos 0)) [] ((minus (is_negative micros) ++ clock_steps 2 micros) ∷ []) tt
    (signed_clock_line 2 micros u, tt)

postgres_words_line : (months days micros : ℤ) → IsSmall months → IsSmall days → IsSmall micros
    → OneLineEach (postgres_words months days micros)
postgres_words_line months days micros m d u =
    let year : List (List ℕ) = named_words (is_negative months) (years_of months) (codes "year") in
    let month : List (List ℕ) = named_words (is_negative months) (months_of months) (codes "mon") in
    let day : List (List ℕ) = named_words (is_negative days) (unsigned_abs days) (codes "day") in
    let years = counted_line (is_negative months) (is_negative months) (years_of months) (codes "year") (years_small months m) refl in
    let months_in = counted_line (is_negative months) (is_negative months) (months_of months) (codes "mon") (months_small months m) refl in
    let days_in = counted_line (is_negative days) (is_negative days) (unsigned_abs days) (codes "day") (abs_small days d) refl in
    words_then year (month ++ (day ++ clock_words micros)) years
    (words_then month (day ++ clock_words micros) months_in (words_then day (clock_words micros) days_in (clock_words_line micros u)))

joined_line : (all : List (List ℕ)) → OneLineEach all → OneLine (join_with_byte 32 all)
joined_line [] h = lit [] refl
joined_line (word ∷ []) h = h.0
joined_line (word ∷ next ∷ more) h =
    let rest = append (codes " ") (join_with_byte 32 (next ∷ more)) (lit (codes " ") refl) (joined_line (next ∷ more) h.1) in
    append word (codes " " ++ join_with_byte 32 (next ∷ more)) h.0 rest

postgres_line : (months days micros : ℤ) → IsSmall months → IsSmall days → IsSmall micros → OneLine (postgres_steps months days micros)
unfolding postgres_steps
postgres_line months days micros m d u =
    if_line (int_eq months (pos 0) && (int_eq days (pos 0) && int_eq micros (pos 0))) (codes "00:00:00")
    (join_with_byte 32 (postgres_words months days micros)) (lit (codes "00:00:00") refl)
    (joined_line (postgres_words months days micros) (postgres_words_line months days micros m d u))

spaced_line : (all : List (List ℕ)) → OneLineEach all → OneLine (behind_spaces all)
spaced_line [] h = lit [] refl
spaced_line (word ∷ more) h = append (codes " ") (word ++ behind_spaces more) (lit (codes " ") refl)
    (append word (behind_spaces more) h.0 (spaced_line more h.1))

unit_line : (negative : Bool) (n : ℕ) (name : List ℕ) → n < 2 ^ 64 → list_all is_no_feed name ≡ true
    → OneLine (behind_spaces (unit_words negative n name))
unit_line negative n name small h = spaced_line (unit_words negative n name) (counted_line negative false n name small h)

second_digits_line : (seconds micros : ℕ) → seconds < 2 ^ 64 → micros < 2 ^ 64 → OneLine (second_digits seconds micros)
unfolding second_digits
second_digits_line seconds micros s m =
    let fraction = append (codes ".") (trimmed_digits (padded_digits 6 micros)) (lit (codes ".") refl) (trimmed_line 6 micros m) in
    append (decimal seconds) (codes "." ++ trimmed_digits (padded_digits 6 micros)) (decimal_line seconds s) fraction

second_words_line : (negative : Bool) (seconds micros : ℕ) → seconds < 2 ^ 64 → micros < 2 ^ 64
    → OneLineEach (second_words negative seconds micros)
unfolding second_words
second_words_line negative seconds micros s m =
    let number = append (minus negative) (second_digits seconds micros) (minus_line negative) (second_digits_line seconds micros s m) in
    if_words (micros == 0) (unit_words negative seconds (codes "sec"))
    ((minus negative ++ second_digits seconds micros) ∷ codes "secs" ∷ [])
    (counted_line negative false seconds (codes "sec") s refl) (number, (lit (codes "secs") refl, tt))

verbose_date_line : (ago : Bool) (months days : ℤ) → IsSmall months → IsSmall days → OneLine (verbose_date ago months days)
unfolding verbose_date
verbose_date_line ago months days m d =
    let sign : Bool = turned_sign ago (is_negative months) in
    let year : List ℕ = behind_spaces (unit_words sign (years_of months) (codes "year")) in
    let month : List ℕ = behind_spaces (unit_words sign (months_of months) (codes "mon")) in
    let day : List ℕ = behind_spaces (unit_words (turned_sign ago (is_negative days)) (unsigned_abs days) (codes "day")) in
    let months_in = unit_line sign (months_of months) (codes "mon") (months_small months m) refl in
    let days_in = unit_line (turned_sign ago (is_negative days)) (unsigned_abs days) (codes "day") (abs_small days d) refl in
    append year (month ++ day) (unit_line sign (years_of months) (codes "year") (years_small months m) refl)
    (append month day months_in days_in)

verbose_time_line : (ago : Bool) (micros : ℤ) → IsSmall micros → OneLine (verbose_time ago micros)
unfolding verbose_time
verbose_time_line ago micros u =
    let sign : Bool = turned_sign ago (is_negative micros) in
    let hour : List ℕ = behind_spaces (unit_words sign (hours_of micros) (codes "hour")) in
    let minute : List ℕ = behind_spaces (unit_words sign (minutes_of micros) (codes "min")) in
    let second : List ℕ = behind_spaces (second_words sign (seconds_of micros) (subsecond_of micros)) in
    let minutes = unit_line sign (minutes_of micros) (codes "min") (minutes_small micros u) refl in
    let seconds = spaced_line (second_words sign (seconds_of micros) (subsecond_of micros))
    (second_words_line sign (seconds_of micros) (subsecond_of micros) (seconds_small micros u) (subsecond_small micros u)) in
    append hour (minute ++ second) (unit_line sign (hours_of micros) (codes "hour") (hours_small micros u) refl)
    (append minute second minutes seconds)

parts_line : (ago : Bool) (months days micros : ℤ) → IsSmall months → IsSmall days → IsSmall micros
    → OneLine (parts_text ago months days micros)
unfolding parts_text
parts_line ago months days micros m d u =
    let end = if_line ago (codes " ago") [] (lit (codes " ago") refl) (lit [] refl) in
    let time = append (verbose_time ago micros) (if ago then codes " ago" else []) (verbose_time_line ago micros u) end in
    let behind : List ℕ = verbose_date ago months days ++ (verbose_time ago micros ++ (if ago then codes " ago" else [])) in
    append (codes "@") behind (lit (codes "@") refl) (append (verbose_date ago months days)
    (verbose_time ago micros ++ (if ago then codes " ago" else [])) (verbose_date_line ago months days m d) time)

verbose_line : (months days micros : ℤ) → IsSmall months → IsSmall days → IsSmall micros → OneLine (verbose_steps months days micros)
unfolding verbose_steps
verbose_line months days micros m d u =
    if_line (int_eq months (pos 0) && (int_eq days (pos 0) && int_eq micros (pos 0))) (codes "@ 0")
    (parts_text (has_ago months days micros) months days micros) (lit (codes "@ 0") refl)
    (parts_line (has_ago months days micros) months days micros m d u)

-- ---- the SQL style

plus_line : (negative : Bool) → OneLine (sign_text negative)
plus_line true = lit (codes "-") refl
plus_line false = lit (codes "+") refl

year_month_line : (months : ℤ) → IsSmall months → OneLine (year_month_text months)
unfolding year_month_text
year_month_line months m =
    let month = append (codes "-") (decimal (months_of months)) (lit (codes "-") refl)
    (decimal_line (months_of months) (months_small months m)) in
    append (decimal (years_of months)) (codes "-" ++ decimal (months_of months))
    (decimal_line (years_of months) (years_small months m)) month

signed_text_line : (months days micros : ℤ) → IsSmall months → IsSmall days → IsSmall micros → OneLine (signed_text months days micros)
unfolding signed_text
signed_text_line months days micros m d u =
    let date : List ℕ = sign_text (is_negative months) ++ year_month_text months in
    let day : List ℕ = sign_text (is_negative days) ++ decimal (unsigned_abs days) in
    let time : List ℕ = sign_text (is_negative micros) ++ clock_steps 1 micros in
    let dates = append (sign_text (is_negative months)) (year_month_text months) (plus_line (is_negative months))
    (year_month_line months m) in
    let days_in = append (sign_text (is_negative days)) (decimal (unsigned_abs days)) (plus_line (is_negative days))
    (decimal_line (unsigned_abs days) (abs_small days d)) in
    let times = append (sign_text (is_negative micros)) (clock_steps 1 micros) (plus_line (is_negative micros)) (clock_line 1 micros u) in
    let behind_days = append (codes " ") time (lit (codes " ") refl) times in
    let behind_date = append (codes " ") (day ++ (codes " " ++ time)) (lit (codes " ") refl)
    (append day (codes " " ++ time) days_in behind_days) in
    append date (codes " " ++ (day ++ (codes " " ++ time))) dates behind_date

months_line : (months : ℤ) → IsSmall months → OneLine (months_text months)
unfolding months_text
months_line months m = append (minus (is_negative months)) (year_month_text months) (minus_line (is_negative months))
    (year_month_line months m)

days_line : (days micros : ℤ) → IsSmall days → IsSmall micros → OneLine (days_text days micros)
unfolding days_text
days_line days micros d u =
    let day : List ℕ = minus (is_negative days) ++ decimal (unsigned_abs days) in
    let days_in = append (minus (is_negative days)) (decimal (unsigned_abs days)) (minus_line (is_negative days))
    (decimal_line (unsigned_abs days) (abs_small days d)) in
    append day (codes " " ++ clock_steps 1 micros) days_in (append (codes " ") (clock_steps 1 micros) (lit (codes " ") refl)
    (clock_line 1 micros u))

time_line : (micros : ℤ) → IsSmall micros → OneLine (time_text micros)
unfolding time_text
time_line micros u = signed_clock_line 1 micros u

plain_line : (months days micros : ℤ) → IsSmall months → IsSmall days → IsSmall micros → OneLine (plain_text months days micros)
unfolding plain_text
plain_line months days micros m d u =
    let rest : List ℕ = if not (int_eq days (pos 0)) then days_text days micros else time_text micros in
    if_line (not (int_eq months (pos 0))) (months_text months) rest (months_line months m)
    (if_line (not (int_eq days (pos 0))) (days_text days micros) (time_text micros) (days_line days micros d u) (time_line micros u))

sql_line : (months days micros : ℤ) → IsSmall months → IsSmall days → IsSmall micros → OneLine (sql_steps months days micros)
unfolding sql_steps
sql_line months days micros m d u =
    let rest : List ℕ = if has_all_signs months days micros then signed_text months days micros else plain_text months days micros in
    if_line (int_eq months (pos 0) && (int_eq days (pos 0) && int_eq micros (pos 0))) (codes "0") rest (lit (codes "0") refl)
    (if_line (has_all_signs months days micros) (signed_text months days micros) (plain_text months days micros)
    (signed_text_line months days micros m d u) (plain_line months days micros m d u))

-- ---- every style

style_line : (style : Style) (t : Interval) → IsSmall t.months → IsSmall t.days → IsSmall t.microseconds → OneLine (steps_of style t)
style_line Iso t m d u = iso_line t.months t.days t.microseconds m d u
style_line Postgres t m d u = postgres_line t.months t.days t.microseconds m d u
style_line Verbose t m d u = verbose_line t.months t.days t.microseconds m d u
style_line Sql t m d u = sql_line t.months t.days t.microseconds m d u
style_line IsoStrict t m d u = iso_line t.months t.days t.microseconds m d u

pub one_line : (style : Style) (t : Interval) → IsInRange t → IsTrue (list_all is_no_feed (style_text style t))
one_line style t range =
    let months = abs_fits Months t.months (fits_32 t.months range.months) in
    let days = abs_fits Days t.days (fits_32 t.days range.days) in
    let micros = abs_fits Micros t.microseconds (fits_64 t.microseconds range.microseconds) in
    (subst (λ (l : List ℕ). OneLine l) (sym (in_steps style t)) (style_line style t months days micros)).passes
