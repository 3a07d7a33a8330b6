-- The written texts as the public definitions say them are those that the writers push step by step.
use Rattle.std.proofs.Common.{◌≡◌, ℕ, pos, unsigned_abs, Bool, true, false, List, [], ◌∷◌, ◌++◌, codes, decimal, ◌==◌, if◌then◌else◌, refl}
use Rattle.std.proofs.Common.{sym, ◌∙◌, ap, append_assoc, append-nil, int_eq}
use Rattle.std.specs.List.{join_with_byte}
use Rattle.std.specs.Int.{is_negative}
use Rattle.scan_core.specs.Number.{minus}
use Rattle.scan_core.specs.Padded.{padded_digits}
use Rattle.pg_interval_2.specs.declared.interval.Interval.{Interval}
use Rattle.pg_interval_2.specs.declared.style.Style.{Style}
use Rattle.pg_interval_2.specs.declared.style.Style.TheVariants.{Iso, Postgres, Verbose, Sql, IsoStrict}
use Rattle.pg_interval_2.specs.Parts.{parts_of, is_zero, clock_text}
use Rattle.pg_interval_2.specs.IsoText.{iso_part, iso_text}
use Rattle.pg_interval_2.specs.PostgresText.{part_words, postgres_text}
use Rattle.pg_interval_2.specs.SqlText.{sql_text}
use Rattle.pg_interval_2.specs.Styles.{style_text}
use Rattle.pg_interval_2.specs.Turned.{turned_sign}
use Rattle.pg_interval_2.specs.VerboseText.{second_words, has_ago, verbose_text}
use Rattle.pg_interval_2.specs.inside.ClockSteps.{hours_text, field_text, fraction_text, clock_steps}
use Rattle.pg_interval_2.specs.inside.IsoSteps.{nonzero_digits, iso_decimal, iso_seconds, iso_date, iso_time, iso_steps}
use Rattle.pg_interval_2.specs.inside.PartSteps.{years_of, months_of, hours_of, minutes_of, seconds_of, subsecond_of}
use Rattle.pg_interval_2.specs.inside.PostgresSteps.{counted_name, number_words, clock_words, postgres_steps}
use Rattle.pg_interval_2.specs.inside.SqlSteps.{year_month_text, signed_text, months_text, days_text, time_text, plain_text, sql_steps}
use Rattle.pg_interval_2.specs.inside.SqlSteps as sql
use Rattle.pg_interval_2.specs.inside.VerboseSteps.{behind_spaces, unit_words, second_digits, verbose_date, verbose_time, parts_text}
use Rattle.pg_interval_2.specs.inside.VerboseSteps.{verbose_steps}
use Rattle.pg_interval_2.specs.inside.VerboseSteps as verbose
use Rattle.pg_interval_2.proofs.SpacedWords.{behind_spaces-append}

-- ---- the ISO style

iso_brackets : (a b c d : List ℕ) → a ++ (b ++ (c ++ d)) ≡ (a ++ (b ++ c)) ++ d
iso_brackets a b c d = rw (append_assoc, append_assoc) refl

iso_time_same : (t : Interval) → (if int_eq t.microseconds (pos 0) then [] else (codes "T"
    ++ (iso_part (parts_of t).time_negative (parts_of t).hours (codes "H")
    ++ (iso_part (parts_of t).time_negative (parts_of t).minutes (codes "M")
    ++ (if (parts_of t).micros == 0 then iso_part (parts_of t).time_negative (parts_of t).seconds (codes "S")
    else (minus (parts_of t).time_negative
    ++ ((if (parts_of t).seconds == 0 then [] else decimal (parts_of t).seconds)
    ++ (codes "." ++ (padded_digits 6 (parts_of t).micros ++ codes "S"))))))))) ≡ iso_time t.microseconds
unfolding iso_time iso_seconds iso_decimal nonzero_digits
iso_time_same t = refl

pub iso_in_steps : (t : Interval) → iso_text t ≡ iso_steps t.months t.days t.microseconds
unfolding iso_text iso_steps iso_date
iso_in_steps t = rw (iso_time_same t, append_assoc, append_assoc) refl

-- ---- the clock

clock_same : (width : ℕ) (t : Interval) → clock_text width (parts_of t) ≡ clock_steps width t.microseconds
unfolding clock_steps hours_text field_text fraction_text
clock_same width t = refl

-- ---- the postgres style

pub postgres_in_steps : (t : Interval) → postgres_text t ≡ postgres_steps t.months t.days t.microseconds
unfolding postgres_text postgres_steps part_words number_words counted_name clock_words clock_steps hours_text field_text fraction_text
postgres_in_steps t = refl

-- ---- the verbose style

-- words with one space between are the first word, and each other one behind a space
spaced : (word : List ℕ) (ws : List (List ℕ)) → join_with_byte 32 (word ∷ ws) ≡ word ++ behind_spaces ws
spaced word [] = sym (append-nil word)
spaced word (next ∷ more) = ap (λ (l : List ℕ). word ++ (32 ∷ l)) (spaced next more)

seven : (y m d h i s e : List (List ℕ))
    → behind_spaces (y ++ (m ++ (d ++ (h ++ (i ++ (s ++ e))))))
    ≡ (behind_spaces y ++ (behind_spaces m ++ behind_spaces d))
    ++ ((behind_spaces h ++ (behind_spaces i ++ behind_spaces s)) ++ behind_spaces e)
seven y m d h i s e =
    rw (
      behind_spaces-append,
      behind_spaces-append,
      behind_spaces-append,
      behind_spaces-append,
      behind_spaces-append,
      behind_spaces-append,
      append_assoc,
      append_assoc,
      append_assoc,
      append_assoc,
    ) refl

end_same : (ago : Bool) → behind_spaces (if ago then (codes "ago" ∷ []) else []) ≡ (if ago then codes " ago" else [])
end_same true = refl
end_same false = refl

-- behind the `@` stand words, or a `0`
behind_at : (zero : Bool) (ws : List (List ℕ)) (rest : List ℕ) → behind_spaces ws ≡ rest
    → join_with_byte 32 (codes "@" ∷ (if zero then (codes "0" ∷ []) else ws)) ≡ (if zero then codes "@ 0" else (codes "@" ++ rest))
behind_at true ws rest h = refl
behind_at false ws rest h = spaced (codes "@") ws ∙ ap (λ (l : List ℕ). codes "@" ++ l) h

pub verbose_in_steps : (t : Interval) → verbose_text t ≡ verbose_steps t.months t.days t.microseconds
unfolding verbose_text verbose_steps parts_text verbose_date verbose_time verbose.has_ago second_words verbose.second_words second_digits
    part_words number_words counted_name
verbose_in_steps t =
    let ago : Bool = has_ago t in
    let month_sign : Bool = turned_sign ago (is_negative t.months) in
    let time_sign : Bool = turned_sign ago (is_negative t.microseconds) in
    behind_at (is_zero t) _ _
    (seven (unit_words month_sign (years_of t.months) (codes "year")) (unit_words month_sign (months_of t.months) (codes "mon"))
    (unit_words (turned_sign ago (is_negative t.days)) (unsigned_abs t.days) (codes "day"))
    (unit_words time_sign (hours_of t.microseconds) (codes "hour")) (unit_words time_sign (minutes_of t.microseconds) (codes "min"))
    (verbose.second_words time_sign (seconds_of t.microseconds) (subsecond_of t.microseconds)) (if ago then (codes "ago" ∷ []) else [])
    ∙ ap (λ (l : List ℕ). verbose_date ago t.months t.days ++ (verbose_time ago t.microseconds ++ l)) (end_same ago))

-- ---- the SQL style

pub sql_in_steps : (t : Interval) → sql_text t ≡ sql_steps t.months t.days t.microseconds
unfolding sql_text sql_steps sql.has_all_signs year_month_text signed_text months_text days_text time_text plain_text clock_steps hours_text
    field_text fraction_text
sql_in_steps t = refl

-- ---- all styles

-- the text that is pushed step by step
abbrev pub steps_of : Style → Interval → List ℕ
steps_of Iso t = iso_steps t.months t.days t.microseconds
steps_of Postgres t = postgres_steps t.months t.days t.microseconds
steps_of Verbose t = verbose_steps t.months t.days t.microseconds
steps_of Sql t = sql_steps t.months t.days t.microseconds
steps_of IsoStrict t = iso_steps t.months t.days t.microseconds

pub in_steps : (style : Style) (t : Interval) → style_text style t ≡ steps_of style t
in_steps Iso = iso_in_steps
in_steps Postgres = postgres_in_steps
in_steps Verbose = verbose_in_steps
in_steps Sql = sql_in_steps
in_steps IsoStrict = iso_in_steps
