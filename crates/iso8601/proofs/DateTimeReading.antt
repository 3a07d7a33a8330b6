-- Date-times are read: a date that `T` follows is read exactly.
use Rattle.std.proofs.Common.{◌≡◌, ℕ, List, [], ◌∷◌, ◌++◌, Some, refl, sym, ◌∙◌, ap, subst, append_assoc}
use Rattle.std.proofs.lemmas.Option.{option_and_then_some, some_pair_parts}
use Rattle.iso8601.specs.declared.types.DateTime.{DateTime}
use Rattle.iso8601.specs.DateTimes.{IsDateTime}
use Rattle.iso8601.specs.inside.TimeReading.{read_time}
use Rattle.iso8601.specs.inside.DateTimeReading.{date_time_of, read_date_time}
use Rattle.iso8601.proofs.Longest.{Sound, Reach, with_value, reaches_with}
use Rattle.iso8601.proofs.FieldFacts.{joins, letter_sound}
use Rattle.iso8601.proofs.DateReading.{date_sound, date_exact}
use Rattle.iso8601.proofs.TimeReading.{time_sound, time_reach, time_exact}

pub date_time_sound : Sound IsDateTime read_date_time
unfolding read_date_time
date_time_sound bytes rest value h =
    option_and_then_some _ _ _ h (λ d found body. option_and_then_some _ _ _ body
    (λ behind marked more. option_and_then_some _ _ _ more (λ t found_time ready.
    let dates = date_sound bytes d.1 d.0 found in
    let times = time_sound behind t.1 t.0 found_time in
    let parts = some_pair_parts _ _ _ _ ready in
    let P : DateTime → Type 0 = λ v. IsDateTime (dates.0 ++ (84 ∷ times.0)) v in
    let is : P (date_time_of d.0 t.0) = record { date_text = dates.0; time_text = times.0; dates = dates.1; times = times.1; joined = refl }
    in (
      dates.0 ++ (84 ∷ times.0),
      subst P parts.0 is,
      joins bytes dates.0 (84 ∷ times.0) _ rest dates.2
          (letter_sound 84 d.1 behind marked ∙ ap (λ (l : List ℕ). 84 ∷ l) (times.2 ∙ ap (λ (l : List ℕ). times.0 ++ l) parts.1)),
    ))))

-- behind the date and the `T` the time is read
date_time_at : (text rest : List ℕ) (value : DateTime) (is : IsDateTime text value)
    → read_date_time (text ++ rest) ≡ with_value (date_time_of value.date) (read_time (is.time_text ++ rest))
unfolding read_date_time
date_time_at text rest value is =
    let split : text ++ rest ≡ is.date_text ++ (84 ∷ (is.time_text ++ rest)) = ap (λ (l : List ℕ). l ++ rest) is.joined
    ∙ append_assoc is.date_text (84 ∷ is.time_text) rest in
    rw (split, date_exact is.date_text (84 ∷ (is.time_text ++ rest)) value.date is.dates refl) refl

pub date_time_reach : Reach IsDateTime read_date_time
date_time_reach text rest value is = rw (date_time_at text rest value is)
    (reaches_with (date_time_of value.date) _ rest (time_reach is.time_text rest value.time is.times))

whole : (text : List ℕ) (value : DateTime) → IsDateTime text value → read_date_time (text ++ []) ≡ Some (value, [])
whole text value is = date_time_at text [] value is ∙ ap (with_value (date_time_of value.date))
    (time_exact is.time_text value.time is.times)

pub one_date_time : (text : List ℕ) (a b : DateTime) → IsDateTime text a → IsDateTime text b → a ≡ b
one_date_time text a b is_a is_b =
    (some_pair_parts a b [] [] (sym (whole text a is_a) ∙ whole text b is_b)).0
