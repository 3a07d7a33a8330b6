-- The checks of a date hold exactly for dates.
use Rattle.std.proofs.Common.{◌≡◌, ℕ, ◌≤◌, pos, List, ◌∷◌, ◌++◌, Ok, codes, refl, ◌∙◌, ap, subst, arith}
use Rattle.scan_core.specs.Digits.{AreDigits, number_of}
use Rattle.port_toml_datetime.specs.declared.date.Date.{Date}
use Rattle.port_toml_datetime.specs.Dates.{IsFullDate}
use Rattle.scan_core.specs.Calendar.{days_in_month}
use Rattle.port_toml_datetime.specs.Tokens.{token, after, after_token}
use Rattle.port_toml_datetime.specs.Checks.{date_outcome}
use Rattle.scan_core.specs.Fronts.{NoDigitFirst}
use Rattle.port_toml_datetime.proofs.TokenFacts.{run_sound}
use Rattle.port_toml_datetime.proofs.Marks.{mark_sound}
use Rattle.port_toml_datetime.proofs.Rows.{same_ok, all_held, all_pass}
use Rattle.port_toml_datetime.proofs.FieldFacts.{is_length, within_is, is_within_them, field_made, four_made, field_run}

pub record DateFound (year text : List ℕ) (date : Date) : Type 0 where
  pub is : IsFullDate (year ++ (codes "-" ++ (token 0 text ++ (codes "-" ++ token 2 text)))) date
  pub joined : text ≡ token 0 text ++ (codes "-" ++ (token 2 text ++ after 3 text))

pub date_sound : (year text : List ℕ) (date : Date) → AreDigits year → date_outcome year text ≡ Ok date → DateFound year text date
unfolding date_outcome
date_sound year text date digits h =
    let held = all_held _ _ date h in
    let a = held.all in
    let month = run_sound text a.0 in
    let mark = mark_sound 45 (after_token text) refl refl a.1.0 in
    let day = run_sound (after 2 text) a.1.1.0 in
    let w = a.1.1.1 in
    let months = within_is 1 12 (number_of (token 0 text)) w.1.1.1.0 in
    let days = within_is 1 _ (number_of (token 2 text)) w.1.1.1.1.0 in
    subst (λ (d : Date). DateFound year text d) (same_ok _ date held.answered) (record {
      is = record {
        year_text = year;
        month_text = token 0 text;
        day_text = token 2 text;
        years = four_made year digits w.0;
        months = field_made 2 1 12 (token 0 text) month.digits w.1.0 months.0 months.1;
        days = field_made 2 1 _ (token 2 text) day.digits w.1.1.0 days.0 days.1;
        joined = refl;
      };
      joined = month.joined ∙ ap (λ (l : List ℕ). token 0 text ++ l) (mark ∙ ap (λ (l : List ℕ). 45 ∷ l) day.joined);
    })

pub record DateRead (year text : List ℕ) (date : Date) (rest : List ℕ) : Type 0 where
  pub read : date_outcome year text ≡ Ok date
  pub follows : after 3 text ≡ rest

same_bound : (y m d a b c : ℕ) → y ≡ a → m ≡ b → d ≡ c → d ≤ days_in_month (pos y) m → c ≤ days_in_month (pos a) b
same_bound y m d a b c e f g h = rw (← e, ← f, ← g) h

same_date : (y m d : ℕ) (date : Date) → date.year ≡ y → date.month ≡ m → date.day ≡ d
    → ◌≡◌ {A = Date} (record { year = y; month = m; day = d }) date
same_date y m d date e f g = rw (← e, ← f, ← g) refl

pub date_exact : (text rest : List ℕ) (date : Date) (i : IsFullDate text date) → NoDigitFirst rest
    → DateRead i.year_text (i.month_text ++ (codes "-" ++ (i.day_text ++ rest))) date rest
unfolding date_outcome
date_exact text rest date i n =
    let month = field_run 2 1 12 i.month_text (45 ∷ (i.day_text ++ rest)) date.month i.months (omega arith) refl in
    let day = field_run 2 1 _ i.day_text rest date.day i.days (omega arith) n in
    let second : after 2 (i.month_text ++ (45 ∷ (i.day_text ++ rest))) ≡ i.day_text ++ rest = ap after_token month.follows in
    let bound = same_bound _ _ _ _ _ _ i.years.number i.months.number i.days.number i.days.most in
    let days = is_within_them 1 _ (number_of i.day_text) (omega (arith, i.days.number, i.days.least)) bound in
    let months = is_within_them 1 12 (number_of i.month_text) (omega (arith, i.months.number, i.months.least))
    (omega (arith, i.months.number, i.months.most)) in
    record {
      read = all_pass _ _ (
        month.is,
        (
          rw month.follows refl,
          (
            rw second day.is,
            (
              is_length 4 i.year_text i.years.long,
              (
                rw month.first (is_length 2 i.month_text i.months.long),
                (
                  rw (second, day.first) (is_length 2 i.day_text i.days.long),
                  (
                    rw month.first months,
                    (rw (second, day.first, month.first) days, tt),
                  ),
                ),
              ),
            ),
          ),
        ),
      ) ∙ ap (λ (d : Date). Ok d) (rw (month.first, second, day.first) (same_date _ _ _ date i.years.number i.months.number i.days.number));
      follows = ap after_token second ∙ day.follows;
    }
