-- A text written in `postgres_verbose` style spells the counts of its interval.
use Rattle.std.proofs.Common.{◌≡◌, ℕ, ◌<◌, ◌≤◌, ◌^◌, Bool, true, false, ◌&&◌, ◌==◌, cond, IsTrue, List, [], ◌∷◌, ◌++◌, length, codes}
use Rattle.std.proofs.Common.{decimal, if◌then◌else◌, ℤ, pos, unsigned_abs, int_eq, Some, refl, sym, ap, ◌∙◌, arith, inl, inr, append_assoc}
use Rattle.std.proofs.Common.{append-nil, length-append}
use Rattle.std.proofs.lemmas.Bool.{cond_both}
use Rattle.std.proofs.lemmas.Fmt.{decimal_nonempty}
use Rattle.std.specs.Int.{is_negative}
use Rattle.scan_core.specs.Blanks.{words}
use Rattle.scan_core.specs.Count.{Count, count_of}
use Rattle.scan_core.specs.Join.{IsJoin}
use Rattle.scan_core.specs.Padded.{padded_digits, trimmed_digits}
use Rattle.scan_core.specs.declared.share.Unit.{Unit as TimeUnit}
use Rattle.scan_core.specs.declared.share.Unit.TheVariants.{Year, Month, Day, Hour, Minute, Second}
use Rattle.scan_core.proofs.DigitFacts.{digits_decimal}
use Rattle.scan_core.proofs.Joins.{IsJoin-append, IsJoin-one}
use Rattle.scan_core.proofs.PaddedFacts.{digits-padded}
use Rattle.scan_core.proofs.TrimmedFacts.{digits-trimmed, trimmed_some}
use Rattle.scan_core.proofs.WordFacts.{NoBlanks}
use Rattle.scan_core.specs.Number.{minus}
use Rattle.pg_interval_2.specs.inside.PartSteps.{years_of, months_of, hours_of, minutes_of, seconds_of, subsecond_of}
use Rattle.pg_interval_2.specs.Postgres.{IsNamed, IsItem, all_counts}
use Rattle.pg_interval_2.specs.inside.UnitPlaces.{has_distinct_units}
use Rattle.pg_interval_2.specs.inside.PostgresSteps.{counted_name}
use Rattle.pg_interval_2.specs.Turned.{turned_sign, turned_counts}
use Rattle.pg_interval_2.specs.UnitNames.{verbose_names}
use Rattle.pg_interval_2.specs.inside.NamedUnits.{unit_named}
use Rattle.pg_interval_2.specs.Verbose.{IsVerbose}
use Rattle.pg_interval_2.specs.inside.VerboseSteps.{behind_spaces, has_ago, unit_words, second_digits, second_words, verbose_date}
use Rattle.pg_interval_2.specs.inside.VerboseSteps.{verbose_time, parts_text, verbose_steps}
use Rattle.pg_interval_2.proofs.UnitsApart.{named_contains, distinct_pairs}
use Rattle.pg_interval_2.proofs.PostgresSpelled.{counted_unit, part_items, number_join, all_counts-part, all_counts-append}
use Rattle.pg_interval_2.proofs.PostgresWords.{no_blank-minus, counted_name_is, AreWords-number_words, AreWords-append}
use Rattle.pg_interval_2.proofs.Spaces.{AreWords}
use Rattle.pg_interval_2.proofs.SpacedWords.{behind_spaces-append, words-spaces}
use Rattle.pg_interval_2.proofs.UnitOrder.{RisesFrom, rises_lower, rises_front, distinct_units}
use Rattle.pg_interval_2.proofs.WrittenCounts.{part_counts}
use Rattle.pg_interval_2.proofs.WrittenNumbers.{cond_two, IsNumber-point}
use Rattle.pg_interval_2.proofs.ItemWords.{no_blanks-append, digits_no_blanks}

-- ---- the words

unit_are_words : (negative : Bool) (n : ℕ) (name : List ℕ) → n < 2 ^ 64 → 0 < length name → NoBlanks name
    → AreWords (unit_words negative n name)
unit_are_words negative n name small some clear = AreWords-number_words negative n (counted_name false n name) small
    (counted_name_is false n name some clear)

-- the digits of microseconds behind the point
abbrev pub micros_behind : ℕ → List ℕ
micros_behind micros = trimmed_digits (padded_digits 6 micros)

no_blank-second : (seconds micros : ℕ) → seconds < 2 ^ 64 → micros < 2 ^ 64 → NoBlanks (second_digits seconds micros)
unfolding second_digits
no_blank-second seconds micros small below =
    no_blanks-append (decimal seconds) _ (digits_no_blanks (decimal seconds) (digits_decimal seconds small))
    (no_blanks-append (codes ".") (micros_behind micros) (refl, tt)
    (digits_no_blanks (micros_behind micros) (digits-trimmed (padded_digits 6 micros) (digits-padded 6 micros below))))

some-second : (negative : Bool) (seconds micros : ℕ) → seconds < 2 ^ 64 → 0 < length (minus negative ++ second_digits seconds micros)
unfolding second_digits
some-second negative seconds micros small =
    omega (
      arith,
      length-append (minus negative) (decimal seconds ++ (codes "." ++ micros_behind micros)),
      length-append (decimal seconds) (codes "." ++ micros_behind micros),
      decimal_nonempty seconds small,
    )

second_are_words : (negative : Bool) (seconds micros : ℕ) → seconds < 2 ^ 64 → micros < 2 ^ 64
    → AreWords (second_words negative seconds micros)
unfolding second_words
second_are_words negative seconds micros small below =
    cond_both (micros == 0) _ _ AreWords
    (λ _. unit_are_words negative seconds (codes "sec") small (omega arith) (refl, (refl, (refl, tt))))
    (λ _. (
      some-second negative seconds micros small,
      no_blanks-append (minus negative) (second_digits seconds micros) (no_blank-minus negative)
          (no_blank-second seconds micros small below),
      (omega arith, (refl, (refl, (refl, (refl, tt)))), tt),
    ))

-- ---- the items

unit_join : (negative : Bool) (n : ℕ) (name : List ℕ) (unit : TimeUnit) → n < 2 ^ 64
    → (unit_named verbose_names name ≡ Some unit) × (unit_named verbose_names (name ++ codes "s") ≡ Some unit)
    → IsJoin (IsItem verbose_names) (unit_words negative n name) (part_items negative n unit)
unit_join negative n name unit small names =
    number_join verbose_names negative n (counted_name false n name) unit small
    (counted_unit verbose_names false n name unit names.0 names.1)

year_names : (unit_named verbose_names (codes "year") ≡ Some Year) × (unit_named verbose_names (codes "year" ++ codes "s") ≡ Some Year)
unfolding unit_named
year_names = (refl, refl)

month_names : (unit_named verbose_names (codes "mon") ≡ Some Month) × (unit_named verbose_names (codes "mon" ++ codes "s") ≡ Some Month)
unfolding unit_named
month_names = (refl, refl)

day_names : (unit_named verbose_names (codes "day") ≡ Some Day) × (unit_named verbose_names (codes "day" ++ codes "s") ≡ Some Day)
unfolding unit_named
day_names = (refl, refl)

hour_names : (unit_named verbose_names (codes "hour") ≡ Some Hour) × (unit_named verbose_names (codes "hour" ++ codes "s") ≡ Some Hour)
unfolding unit_named
hour_names = (refl, refl)

minute_names : (unit_named verbose_names (codes "min") ≡ Some Minute) × (unit_named verbose_names (codes "min" ++ codes "s") ≡ Some Minute)
unfolding unit_named
minute_names = (refl, refl)

second_names : (unit_named verbose_names (codes "sec") ≡ Some Second) × (unit_named verbose_names (codes "sec" ++ codes "s") ≡ Some Second)
unfolding unit_named
second_names = (refl, refl)

-- the counts of seconds and microseconds, or none where they are 0
abbrev pub second_counts : Bool → ℕ → ℕ → List Count
second_counts negative seconds micros =
    if micros == 0 then part_counts negative seconds Second else (count_of negative (decimal seconds) (micros_behind micros) Second ∷ [])

abbrev second_items : Bool → ℕ → ℕ → List (List Count)
second_items negative seconds micros =
    if micros == 0 then part_items negative seconds Second else
    ((count_of negative (decimal seconds) (micros_behind micros) Second ∷ []) ∷ [])

positive : (n : ℕ) → (n == 0) ≡ false → 0 < n
positive n h = grind (arith)

second_named : (negative : Bool) (seconds micros : ℕ) → seconds < 2 ^ 64 → micros < 2 ^ 64 → (micros == 0) ≡ false
    → IsNamed verbose_names ((minus negative ++ second_digits seconds micros) ∷ codes "secs" ∷ [])
    (count_of negative (decimal seconds) (micros_behind micros) Second)
unfolding second_digits
second_named negative seconds micros small below some = record {
  number = minus negative ++ second_digits seconds micros;
  name = codes "secs";
  digits = IsNumber-point true negative (decimal seconds) (micros_behind micros) (digits_decimal seconds small)
      (digits-trimmed (padded_digits 6 micros) (digits-padded 6 micros below)) (trimmed_some 6 micros (positive micros some) below);
  unit = named_contains verbose_names (codes "secs") Second second_names.1;
  spelled = inl refl;
}

second_join : (negative : Bool) (seconds micros : ℕ) → seconds < 2 ^ 64 → micros < 2 ^ 64
    → IsJoin (IsItem verbose_names) (second_words negative seconds micros) (second_items negative seconds micros)
unfolding second_words
second_join negative seconds micros small below =
    cond_two (micros == 0) (IsJoin (IsItem verbose_names)) _ _ _ _ (λ _. unit_join negative seconds (codes "sec") Second small second_names)
    (λ some. IsJoin-one (IsItem verbose_names) _ _ (inl (
      count_of negative (decimal seconds) (micros_behind micros) Second,
      second_named negative seconds micros small below some,
      refl,
    )))

all_counts-second : (negative : Bool) (seconds micros : ℕ)
    → all_counts (second_items negative seconds micros) ≡ second_counts negative seconds micros
all_counts-second negative seconds micros =
    cond_two (micros == 0) (λ (items : List (List Count)) (counts : List Count). all_counts items ≡ counts) _ _ _ _
    (λ _. all_counts-part negative seconds Second) (λ _. refl)

-- ---- the whole text

-- the words of years, months, days, hours, minutes and seconds, each with its sign, turned or not
abbrev verbose_words : Bool → ℤ → ℤ → ℤ → List (List ℕ)
verbose_words ago months days micros =
    unit_words (turned_sign ago (is_negative months)) (years_of months) (codes "year")
    ++ (unit_words (turned_sign ago (is_negative months)) (months_of months) (codes "mon")
    ++ (unit_words (turned_sign ago (is_negative days)) (unsigned_abs days) (codes "day")
    ++ (unit_words (turned_sign ago (is_negative micros)) (hours_of micros) (codes "hour")
    ++ (unit_words (turned_sign ago (is_negative micros)) (minutes_of micros) (codes "min")
    ++ second_words (turned_sign ago (is_negative micros)) (seconds_of micros) (subsecond_of micros)))))

six_pieces : (a b c d e f : List (List ℕ)) (rest : List ℕ)
    → (behind_spaces a ++ (behind_spaces b ++ behind_spaces c)) ++ ((behind_spaces d ++ (behind_spaces e ++ behind_spaces f)) ++ rest)
    ≡ behind_spaces (a ++ (b ++ (c ++ (d ++ (e ++ f))))) ++ rest
six_pieces a b c d e f rest =
    rw (
      behind_spaces-append a (b ++ (c ++ (d ++ (e ++ f)))),
      behind_spaces-append b (c ++ (d ++ (e ++ f))),
      behind_spaces-append c (d ++ (e ++ f)),
      behind_spaces-append d (e ++ f),
      behind_spaces-append e f,
    )
    (simp append_assoc)

pieces : (ago : Bool) (months days micros : ℤ) (rest : List ℕ)
    → verbose_date ago months days ++ (verbose_time ago micros ++ rest) ≡ behind_spaces (verbose_words ago months days micros) ++ rest
unfolding verbose_date verbose_time
pieces ago months days micros rest =
    six_pieces (unit_words (turned_sign ago (is_negative months)) (years_of months) (codes "year"))
    (unit_words (turned_sign ago (is_negative months)) (months_of months) (codes "mon"))
    (unit_words (turned_sign ago (is_negative days)) (unsigned_abs days) (codes "day"))
    (unit_words (turned_sign ago (is_negative micros)) (hours_of micros) (codes "hour"))
    (unit_words (turned_sign ago (is_negative micros)) (minutes_of micros) (codes "min"))
    (second_words (turned_sign ago (is_negative micros)) (seconds_of micros) (subsecond_of micros)) rest

-- the counts of the written text, each sign turned or not
abbrev pub verbose_counts : Bool → ℤ → ℤ → ℤ → List Count
verbose_counts ago months days micros =
    part_counts (turned_sign ago (is_negative months)) (years_of months) Year
    ++ (part_counts (turned_sign ago (is_negative months)) (months_of months) Month
    ++ (part_counts (turned_sign ago (is_negative days)) (unsigned_abs days) Day
    ++ (part_counts (turned_sign ago (is_negative micros)) (hours_of micros) Hour
    ++ (part_counts (turned_sign ago (is_negative micros)) (minutes_of micros) Minute
    ++ second_counts (turned_sign ago (is_negative micros)) (seconds_of micros) (subsecond_of micros)))))

rises_second : (negative : Bool) (seconds micros : ℕ) → RisesFrom 6 (second_counts negative seconds micros)
rises_second negative seconds micros =
    cond_both (micros == 0) _ _ (RisesFrom 6) (λ _. cond_both (seconds == 0) _ _ (RisesFrom 6) (λ _. tt) (λ _. (omega arith, tt)))
    (λ _. (omega arith, tt))

distinct : (ago : Bool) (months days micros : ℤ) → IsTrue (has_distinct_units (verbose_counts ago months days micros))
distinct ago months days micros =
    distinct_units 0 (verbose_counts ago months days micros)
    (rises_front (years_of months == 0) _ _ (rises_front (months_of months == 0) _ _
    (rises_lower _ _ _ (omega arith) (rises_front (unsigned_abs days == 0) _ _
    (rises_front (hours_of micros == 0) _ _ (rises_front (minutes_of micros == 0) _ _
    (rises_second (turned_sign ago (is_negative micros)) (seconds_of micros) (subsecond_of micros))))))))

-- words in front of words, and what they come to
record Spells (all : List (List ℕ)) (counts : List Count) : Type 0 where
  words : AreWords all
  items : List (List Count)
  join : IsJoin (IsItem verbose_names) all items
  counted : all_counts items ≡ counts

spells-append : (xs ys : List (List ℕ)) (cs ds : List Count) → Spells xs cs → Spells ys ds → Spells (xs ++ ys) (cs ++ ds)
spells-append xs ys cs ds h k = record {
  words = AreWords-append xs ys h.words k.words;
  items = h.items ++ k.items;
  join = IsJoin-append (IsItem verbose_names) xs ys h.items k.items h.join k.join;
  counted = all_counts-append h.items k.items ∙ rw (h.counted, k.counted) refl;
}

unit_spells : (negative : Bool) (n : ℕ) (name : List ℕ) (unit : TimeUnit) → n < 2 ^ 64 → 0 < length name → NoBlanks name
    → (unit_named verbose_names name ≡ Some unit) × (unit_named verbose_names (name ++ codes "s") ≡ Some unit)
    → Spells (unit_words negative n name) (part_counts negative n unit)
unit_spells negative n name unit small some clear names = record {
  words = unit_are_words negative n name small some clear;
  items = part_items negative n unit;
  join = unit_join negative n name unit small names;
  counted = all_counts-part negative n unit;
}

second_spells : (negative : Bool) (seconds micros : ℕ) → seconds < 2 ^ 64 → micros < 2 ^ 64
    → Spells (second_words negative seconds micros) (second_counts negative seconds micros)
second_spells negative seconds micros small below = record {
  words = second_are_words negative seconds micros small below;
  items = second_items negative seconds micros;
  join = second_join negative seconds micros small below;
  counted = all_counts-second negative seconds micros;
}

words_spell : (ago : Bool) (months days micros : ℤ) → unsigned_abs months ≤ 2 ^ 63 → unsigned_abs days ≤ 2 ^ 63
    → unsigned_abs micros ≤ 2 ^ 63
    → Spells (verbose_words ago months days micros) (verbose_counts ago months days micros)
words_spell ago months days micros small_months small_days small_micros =
    spells-append _ _ _ _ (unit_spells _ (years_of months) (codes "year") Year (omega arith) (omega arith)
    (refl, (refl, (refl, (refl, tt)))) year_names)
    (spells-append _ _ _ _ (unit_spells _ (months_of months) (codes "mon") Month (omega arith) (omega arith)
    (refl, (refl, (refl, tt))) month_names)
    (spells-append _ _ _ _ (unit_spells _ (unsigned_abs days) (codes "day") Day (omega arith) (omega arith)
    (refl, (refl, (refl, tt))) day_names)
    (spells-append _ _ _ _ (unit_spells _ (hours_of micros) (codes "hour") Hour (omega arith) (omega arith)
    (refl, (refl, (refl, (refl, tt)))) hour_names)
    (spells-append _ _ _ _ (unit_spells _ (minutes_of micros) (codes "min") Minute (omega arith) (omega arith)
    (refl, (refl, (refl, tt))) minute_names)
    (second_spells _ (seconds_of micros) (subsecond_of micros) (omega arith) (omega arith))))))

-- the words as a body, behind which `ago` and nothing else stands, or nothing
ago_joined : (ago : Bool) (spaces : List ℕ)
    → codes "@" ++ (spaces ++ cond ago (codes " ago") [])
    ≡ codes "@" ++ ((spaces ++ cond {A = List ℕ} ago (codes " ") []) ++ (cond ago (codes "ago") [] ++ []))
ago_joined true spaces = ap (λ (l : List ℕ). 64 ∷ l) (sym (append_assoc spaces (codes " ") (codes "ago")))
ago_joined false spaces = ap (λ (l : List ℕ). 64 ∷ l) (sym (append-nil (spaces ++ [])))

ago_words : (ago : Bool) (all : List (List ℕ)) → AreWords all → words (behind_spaces all ++ cond {A = List ℕ} ago (codes " ") []) ≡ all
ago_words true all are = words-spaces all (codes " ") are refl ∙ append-nil all
ago_words false all are = words-spaces all [] are tt ∙ append-nil all

words_spelled : (ago : Bool) (months days micros : ℤ) → unsigned_abs months ≤ 2 ^ 63 → unsigned_abs days ≤ 2 ^ 63
    → unsigned_abs micros ≤ 2 ^ 63
    → IsVerbose (parts_text ago months days micros) (turned_counts ago (verbose_counts ago months days micros))
unfolding parts_text
words_spelled ago months days micros small_months small_days small_micros =
    let all = verbose_words ago months days micros in
    let spells = words_spell ago months days micros small_months small_days small_micros in
    record {
      before = [];
      body = behind_spaces all ++ cond {A = List ℕ} ago (codes " ") [];
      ago = ago;
      body_counts = verbose_counts ago months days micros;
      framed = record {
        after = [];
        blank_before = refl;
        blank_after = refl;
        joined = ap (λ (l : List ℕ). 64 ∷ l) (pieces ago months days micros _) ∙ ago_joined ago (behind_spaces all);
      };
      spelled = inr (rw (ago_words ago all spells.words) (
        spells.items,
        spells.join,
        sym spells.counted,
        distinct_pairs _ (distinct ago months days micros),
      ));
      counted = refl;
    }

zero_spelled : IsVerbose (codes "@ 0") []
zero_spelled = record {
  before = [];
  body = codes " 0";
  ago = false;
  body_counts = [];
  framed = record { after = []; blank_before = refl; blank_after = refl; joined = refl };
  spelled = inl (refl, refl);
  counted = refl;
}

-- the counts that the written text spells
abbrev pub written_counts : ℤ → ℤ → ℤ → List Count
written_counts months days micros =
    if int_eq months (pos 0) && (int_eq days (pos 0) && int_eq micros (pos 0)) then []
    else turned_counts (has_ago months days micros) (verbose_counts (has_ago months days micros) months days micros)

pub verbose_spelled : (months days micros : ℤ) → unsigned_abs months ≤ 2 ^ 63 → unsigned_abs days ≤ 2 ^ 63 → unsigned_abs micros ≤ 2 ^ 63
    → IsVerbose (verbose_steps months days micros) (written_counts months days micros)
unfolding verbose_steps
verbose_spelled months days micros small_months small_days small_micros =
    cond_two (int_eq months (pos 0) && (int_eq days (pos 0) && int_eq micros (pos 0))) IsVerbose _ _ _ _ (λ _. zero_spelled)
    (λ _. words_spelled (has_ago months days micros) months days micros small_months small_days small_micros)
