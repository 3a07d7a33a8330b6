-- Dates are read: what is read is a date, and no longer front is one.
use Rattle.std.proofs.Common.{◌≡◌, ℕ, List, [], ◌++◌, Some, refl, sym, ◌∙◌, ap, append_assoc}
use Rattle.std.proofs.lemmas.Option.{option_and_then_some, some_pair_parts}
use Rattle.iso8601.specs.declared.types.Date.{Date}
use Rattle.iso8601.specs.Dates.{IsDate}
use Rattle.iso8601.specs.inside.Reading.{after_mark, read_day, read_date}
use Rattle.iso8601.proofs.Longest.{Sound, Reach}
use Rattle.scan_core.specs.Fronts.{NoDigitFirst}
use Rattle.iso8601.proofs.FieldFacts.{behind, joins, year_exact, year_sound, mark_exact, mark_sound}
use Rattle.iso8601.proofs.DayFacts.{day_sound, day_reach, day_exact, no_hyphen}

pub date_sound : Sound IsDate read_date
unfolding read_date
date_sound bytes rest date h =
    option_and_then_some _ _ _ h (λ y found body.
    let year = year_sound bytes y.1 y.0 found in
    let mark = mark_sound 45 y.1 in
    let day = day_sound y.0 (after_mark 45 y.1) rest date body in (
      year.0 ++ (mark.0 ++ day.0),
      record {
        year_text = year.0;
        hyphen = mark.0;
        day_text = day.0;
        year = y.0;
        years = year.1;
        mark = mark.1;
        days = day.1;
        joined = refl;
      },
      joins bytes year.0 (mark.0 ++ day.0) _ rest year.2 (joins y.1 mark.0 day.0 _ rest mark.2 day.2),
    ))

-- behind the year and the hyphen the day is read
pub date_at : (text rest : List ℕ) (date : Date) (d : IsDate text date) → read_date (text ++ rest) ≡ read_day d.year (d.day_text ++ rest)
unfolding read_date
date_at text rest date d =
    let split : text ++ rest ≡ d.year_text ++ (d.hyphen ++ (d.day_text ++ rest)) = behind text d.year_text
    (d.hyphen ++ d.day_text) rest d.joined ∙ ap (λ (l : List ℕ). d.year_text ++ l) (append_assoc d.hyphen d.day_text rest) in
    let year = year_exact d.year_text (d.hyphen ++ (d.day_text ++ rest)) d.year d.years in
    let mark = mark_exact 45 d.hyphen (d.day_text ++ rest) d.mark (no_hyphen d.year d.day_text rest date d.days) in
    ap read_date split ∙ rw (year, mark) refl

pub date_reach : Reach IsDate read_date
date_reach text rest date d = rw (date_at text rest date d) (day_reach d.year d.day_text rest date d.days)

-- where no digit follows, a date is read exactly
pub date_exact : (text rest : List ℕ) (date : Date) → IsDate text date → NoDigitFirst rest → read_date (text ++ rest) ≡ Some (date, rest)
date_exact text rest date d n = date_at text rest date d ∙ day_exact d.year d.day_text rest date d.days n

pub one_date : (text : List ℕ) (a b : Date) → IsDate text a → IsDate text b → a ≡ b
one_date text a b is_a is_b = (some_pair_parts a b [] [] (sym (date_exact text [] a is_a tt) ∙ date_exact text [] b is_b tt)).0
