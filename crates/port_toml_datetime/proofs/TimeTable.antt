-- The checks of a time hold exactly for times.
use Rattle.std.proofs.Common.{◌≡◌, ℕ, nat_le, Bool, true, false, cond, List, [], ◌∷◌, ◌++◌, Option, Some, None, Ok, codes, refl, sym, ◌∙◌, ap}
use Rattle.std.proofs.Common.{append_assoc, subst, arith, inl, inr}
use Rattle.std.specs.Prelude.{is_some, option_map}
use Rattle.scan_core.specs.Digits.{AreDigits, number_of}
use Rattle.port_toml_datetime.specs.declared.time.Time.{Time}
use Rattle.port_toml_datetime.specs.Times.{nanoseconds, IsPartialTime}
use Rattle.port_toml_datetime.specs.inside.GrammarParts.{IsPerhapsSecondFraction, IsPerhapsSeconds}
use Rattle.port_toml_datetime.specs.Tokens.{first_token, after_token, token, after, is_digits, is_of}
use Rattle.port_toml_datetime.specs.Checks.{has_length, where_there, marked, after_marked, fraction, after_fraction}
use Rattle.port_toml_datetime.specs.Checks.{time_outcome, after_time}
use Rattle.scan_core.specs.Fronts.{NoDigitFirst}
use Rattle.port_toml_datetime.proofs.TokenFacts.{run_exact, run_sound}
use Rattle.port_toml_datetime.proofs.Marks.{mark_sound}
use Rattle.port_toml_datetime.proofs.Rows.{same_ok, all_held, all_pass}
use Rattle.port_toml_datetime.proofs.FieldFacts.{is_length, two_made, field_run, most_of}

-- ---- what the checks let through

point_if : (t : Bool) (text : List ℕ) → is_of (46 ∷ []) (first_token text) ≡ t
    → where_there is_digits (cond {A = Option (List ℕ)} t (Some (token 1 text)) None) ≡ true
    → (piece : List ℕ) × IsPerhapsSecondFraction piece (option_map nanoseconds (cond {A = Option (List ℕ)} t (Some (token 1 text)) None))
    × (text ≡ piece ++ cond t (after 2 text) text)
point_if true text e h =
    let run = run_sound (after_token text) h in (
      46 ∷ token 1 text,
      inr (record { digits = token 1 text; some = run.some; all_digits = run.digits; joined = refl; value = refl }),
      mark_sound 46 text refl refl e ∙ ap (λ (l : List ℕ). 46 ∷ l) run.joined,
    )
point_if false text e h = ([], inl (refl, refl), refl)

fraction_sound : (second : Bool) (text : List ℕ) → where_there is_digits (fraction second text) ≡ true
    → (piece : List ℕ) × IsPerhapsSecondFraction piece (option_map nanoseconds (fraction second text))
    × (text ≡ piece ++ after_fraction second text)
fraction_sound false text h = ([], inl (refl, refl), refl)
fraction_sound true text h = point_if (is_of (46 ∷ []) (first_token text)) text refl h

-- the second and the fraction, where the colon is there or isn't
abbrev second_if : Bool → List ℕ → Option (List ℕ)
second_if t text = cond {A = Option (List ℕ)} t (Some (token 1 text)) None

abbrev after_if : Bool → List ℕ → List ℕ
after_if t text = cond {A = List ℕ} t (after 2 text) text

colon_if : (t : Bool) (text : List ℕ) → is_of (58 ∷ []) (first_token text) ≡ t → where_there is_digits (second_if t text) ≡ true
    → where_there is_digits (fraction (is_some (second_if t text)) (after_if t text)) ≡ true
    → where_there (has_length 2) (second_if t text) ≡ true
    → where_there (λ (n : ℕ). nat_le n 60) (option_map number_of (second_if t text)) ≡ true
    → (piece : List ℕ) × IsPerhapsSeconds piece (option_map number_of (second_if t text))
    (option_map nanoseconds (fraction (is_some (second_if t text)) (after_if t text)))
    × (text ≡ piece ++ after_fraction (is_some (second_if t text)) (after_if t text))
colon_if true text e h f two most =
    let run = run_sound (after_token text) h in
    let more = fraction_sound true (after 2 text) f in (
      58 ∷ (token 1 text ++ more.0),
      inr (record {
        digits = token 1 text;
        fraction = more.0;
        number = number_of (token 1 text);
        field = two_made 60 (token 1 text) run.digits two most;
        fractions = more.1;
        joined = refl;
        value = refl;
      }),
      mark_sound 58 text refl refl e ∙ ap (λ (l : List ℕ). 58 ∷ l)
          (run.joined ∙ ap (λ (l : List ℕ). token 1 text ++ l) more.2 ∙ sym (append_assoc (token 1 text) more.0 _)),
    )
colon_if false text e h f two most = ([], inl (refl, refl, refl), refl)

pub record TimeFound (hour text : List ℕ) (time : Time) : Type 0 where
  pub piece : List ℕ
  pub is : IsPartialTime (hour ++ (codes ":" ++ piece)) time
  pub joined : text ≡ piece ++ after_time text

pub time_sound : (hour text : List ℕ) (time : Time) → AreDigits hour → time_outcome hour text ≡ Ok time → TimeFound hour text time
unfolding time_outcome after_time
time_sound hour text time digits h =
    let held = all_held _ _ time h in
    let a = held.all in
    let minute = run_sound text a.0 in
    let w = a.1.1.1 in
    let m = w.1.1.1 in
    let s = colon_if (is_of (58 ∷ []) (first_token (after_token text))) (after_token text) refl a.1.0 a.1.1.0 w.1.1.0 m.1.1.0 in
    subst (λ (t : Time). TimeFound hour text t) (same_ok _ time held.answered) (record {
      piece = token 0 text ++ s.0;
      is = record {
        hour_text = hour;
        minute_text = token 0 text;
        second_text = s.0;
        hours = two_made 23 hour digits w.0 m.0;
        minutes = two_made 59 (token 0 text) minute.digits w.1.0 m.1.0;
        seconds = s.1;
        joined = refl;
      };
      joined = minute.joined ∙ ap (λ (l : List ℕ). token 0 text ++ l) s.2 ∙ sym (append_assoc (token 0 text) s.0 _);
    })

-- ---- times pass the checks

-- what may stand behind a time
pub record Stops (rest : List ℕ) : Type 0 where
  pub digit : NoDigitFirst rest
  pub colon : is_of (58 ∷ []) (first_token rest) ≡ false
  pub point : is_of (46 ∷ []) (first_token rest) ≡ false

record FractionRead (second : Bool) (text : List ℕ) (value : Option ℕ) (rest : List ℕ) : Type 0 where
  pass : where_there is_digits (fraction second text) ≡ true
  number : option_map nanoseconds (fraction second text) ≡ value
  follows : after_fraction second text ≡ rest

fraction_exact : (piece rest : List ℕ) (value : Option ℕ) → IsPerhapsSecondFraction piece value → Stops rest
    → FractionRead true (piece ++ rest) value rest
fraction_exact piece rest value (inl none) s =
    rw none.0 (record { pass = rw s.point refl; number = rw s.point (sym none.1); follows = rw s.point refl })
fraction_exact piece rest value (inr f) s =
    let split : piece ++ rest ≡ 46 ∷ (f.digits ++ rest) = ap (λ (l : List ℕ). l ++ rest) f.joined in
    let run = run_exact f.digits rest f.some f.all_digits s.digit in
    rw split (record { pass = run.is; number = rw run.first (sym f.value); follows = run.follows })

record SecondsRead (text : List ℕ) (second value : Option ℕ) (rest : List ℕ) : Type 0 where
  digits : where_there is_digits (marked (codes ":") text) ≡ true
  more : where_there is_digits (fraction (is_some (marked (codes ":") text)) (after_marked (codes ":") text)) ≡ true
  two : where_there (has_length 2) (marked (codes ":") text) ≡ true
  most : where_there (λ (n : ℕ). nat_le n 60) (option_map number_of (marked (codes ":") text)) ≡ true
  number : option_map number_of (marked (codes ":") text) ≡ second
  nanos : option_map nanoseconds (fraction (is_some (marked (codes ":") text)) (after_marked (codes ":") text)) ≡ value
  follows : after_fraction (is_some (marked (codes ":") text)) (after_marked (codes ":") text) ≡ rest

fraction_first : (piece rest : List ℕ) (value : Option ℕ) → IsPerhapsSecondFraction piece value → Stops rest → NoDigitFirst (piece ++ rest)
fraction_first piece rest value (inl none) s = rw none.0 s.digit
fraction_first piece rest value (inr f) s = rw f.joined refl

seconds_exact : (piece rest : List ℕ) (second value : Option ℕ) → IsPerhapsSeconds piece second value → Stops rest
    → SecondsRead (piece ++ rest) second value rest
seconds_exact piece rest second value (inl none) s =
    rw none.0 (record {
      digits = rw s.colon refl;
      more = rw s.colon refl;
      two = rw s.colon refl;
      most = rw s.colon refl;
      number = rw s.colon (sym none.1);
      nanos = rw s.colon (sym none.2);
      follows = rw s.colon refl;
    })
seconds_exact piece rest second value (inr f) s =
    let split : piece ++ rest ≡ 58 ∷ (f.digits ++ (f.fraction ++ rest)) = ap (λ (l : List ℕ). l ++ rest) f.joined
    ∙ ap (λ (l : List ℕ). 58 ∷ l) (append_assoc f.digits f.fraction rest) in
    let run = field_run 2 0 60 f.digits (f.fraction ++ rest) f.number f.field (omega arith)
    (fraction_first f.fraction rest value f.fractions s) in
    let more = fraction_exact f.fraction rest value f.fractions s in
    rw split (record {
      digits = run.is;
      more = rw run.follows more.pass;
      two = rw run.first (is_length 2 f.digits f.field.long);
      most = rw run.first (most_of 2 0 60 f.digits f.number f.field);
      number = rw run.first (sym (f.value ∙ ap (λ (n : ℕ). Some n) f.field.number));
      nanos = rw run.follows more.number;
      follows = rw run.follows more.follows;
    })

seconds_first : (piece rest : List ℕ) (second value : Option ℕ) → IsPerhapsSeconds piece second value → Stops rest
    → NoDigitFirst (piece ++ rest)
seconds_first piece rest second value (inl none) s = rw none.0 s.digit
seconds_first piece rest second value (inr f) s = rw f.joined refl

pub record TimeRead (hour text : List ℕ) (time : Time) (rest : List ℕ) : Type 0 where
  pub read : time_outcome hour text ≡ Ok time
  pub follows : after_time text ≡ rest

same_time : (h m : ℕ) (s n : Option ℕ) (time : Time) → time.hour ≡ h → time.minute ≡ m → s ≡ time.second → n ≡ time.nanosecond
    → ◌≡◌ {A = Time} (record { hour = h; minute = m; second = s; nanosecond = n }) time
same_time h m s n time e f g k = rw (← e, ← f, g, k) refl

pub time_exact : (text rest : List ℕ) (time : Time) (i : IsPartialTime text time) → Stops rest
    → TimeRead i.hour_text (i.minute_text ++ (i.second_text ++ rest)) time rest
unfolding time_outcome after_time
time_exact text rest time i st =
    let minute = field_run 2 0 59 i.minute_text (i.second_text ++ rest) time.minute i.minutes (omega arith)
    (seconds_first i.second_text rest time.second time.nanosecond i.seconds st) in
    let s = seconds_exact i.second_text rest time.second time.nanosecond i.seconds st in
    record {
      read = all_pass _ _ (
        minute.is,
        (
          rw minute.follows s.digits,
          (
            rw minute.follows s.more,
            (
              is_length 2 i.hour_text i.hours.long,
              (
                rw minute.first (is_length 2 i.minute_text i.minutes.long),
                (
                  rw minute.follows s.two,
                  (
                    most_of 2 0 23 i.hour_text time.hour i.hours,
                    (
                      rw minute.first (most_of 2 0 59 i.minute_text time.minute i.minutes),
                      (rw minute.follows s.most, tt),
                    ),
                  ),
                ),
              ),
            ),
          ),
        ),
      ) ∙ ap (λ (t : Time). Ok t)
          (rw (minute.first, minute.follows) (same_time _ _ _ _ time i.hours.number i.minutes.number s.number s.nanos));
      follows = rw minute.follows s.follows;
    }
