-- Times of day are read, and what is read is one.
use Rattle.std.proofs.Common.{◌≡◌, ℕ, ◌⊎◌, ◌==◌, Bool, true, false, cond, List, [], ◌∷◌, ◌++◌, Some, refl, sym, ◌∙◌, ap, subst}
use Rattle.std.proofs.Common.{append_assoc, inl, inr}
use Rattle.std.proofs.lemmas.Bool.{eqb-true}
use Rattle.std.proofs.lemmas.Option.{some_pair_parts, option_and_then_some}
use Rattle.scan_core.specs.Fields.{IsField}
use Rattle.internet_dates.specs.Fields.{IsFullClock, IsShortClock}
use Rattle.internet_dates.specs.declared.fields.Clock.{Clock}
use Rattle.internet_dates.specs.inside.Reading.{clock_made, read_clock, read_two, read_seconds, read_mail_clock}
use Rattle.internet_dates.proofs.Readers.{pair_sound, pair_exact, two_sound, two_exact}

clock_joins : (h m s rest : List ℕ) → h ++ (58 ∷ (m ++ (58 ∷ (s ++ rest)))) ≡ (h ++ (58 ∷ (m ++ (58 ∷ s)))) ++ rest
clock_joins h m s rest = simp append_assoc refl

short_joins : (h m rest : List ℕ) → h ++ (58 ∷ (m ++ rest)) ≡ (h ++ (58 ∷ m)) ++ rest
short_joins h m rest = simp append_assoc refl

pub clock_exact : (text rest : List ℕ) (h m s : ℕ) → IsFullClock text h m s → read_clock (32 ∷ (text ++ rest)) ≡ Some (clock_made h m s, rest)
unfolding read_clock
clock_exact text rest h m s c =
    let split : text ++ rest ≡ c.hour_text ++ (58 ∷ (c.minute_text ++ (58 ∷ (c.second_text ++ rest)))) =
    ap (λ (l : List ℕ). l ++ rest) c.joined ∙ sym (clock_joins c.hour_text c.minute_text c.second_text rest) in
    let hours = pair_exact 32 0 24 c.hour_text (58 ∷ (c.minute_text ++ (58 ∷ (c.second_text ++ rest)))) h c.hours in
    let minutes = pair_exact 58 0 59 c.minute_text (58 ∷ (c.second_text ++ rest)) m c.minutes in
    let seconds = pair_exact 58 0 60 c.second_text rest s c.seconds in
    rw (split, hours, minutes, seconds) refl

pub clock_sound : (bytes rest : List ℕ) (c : Clock) → read_clock bytes ≡ Some (c, rest)
    → (text : List ℕ) × IsFullClock text c.hour c.minute c.second × (bytes ≡ 32 ∷ (text ++ rest))
unfolding read_clock
clock_sound bytes rest c h =
    option_and_then_some _ _ _ h (λ x found_hour body. option_and_then_some _ _ _ body
    (λ y found_minute more. option_and_then_some _ _ _ more (λ z found_second ready.
    let hours = pair_sound 32 0 24 bytes x.1 x.0 found_hour in
    let minutes = pair_sound 58 0 59 x.1 y.1 y.0 found_minute in
    let seconds = pair_sound 58 0 60 y.1 z.1 z.0 found_second in
    let parts = some_pair_parts _ _ _ _ ready in
    let text : List ℕ = hours.0 ++ (58 ∷ (minutes.0 ++ (58 ∷ seconds.0))) in
    let P : Clock → Type 0 = λ v. IsFullClock text v.hour v.minute v.second in
    let clock : P (clock_made x.0 y.0 z.0) = record {
      hour_text = hours.0;
      minute_text = minutes.0;
      second_text = seconds.0;
      hours = hours.1;
      minutes = minutes.1;
      seconds = seconds.1;
      joined = refl;
    } in
    let behind : y.1 ≡ 58 ∷ (seconds.0 ++ rest) = seconds.2 ∙ ap (λ (l : List ℕ). 58 ∷ (seconds.0 ++ l)) parts.1 in
    let later : x.1 ≡ 58 ∷ (minutes.0 ++ (58 ∷ (seconds.0 ++ rest))) = minutes.2 ∙ ap (λ (l : List ℕ). 58 ∷ (minutes.0 ++ l)) behind in
    let split : bytes ≡ 32 ∷ (text ++ rest) =
    hours.2 ∙ ap (λ (l : List ℕ). 32 ∷ (hours.0 ++ l)) later
    ∙ ap (λ (l : List ℕ). 32 ∷ l) (clock_joins hours.0 minutes.0 seconds.0 rest) in
    (text, subst P parts.0 clock, split))))

-- ---- perhaps without seconds

abbrev pub IsMailClock : List ℕ → ℕ → ℕ → ℕ → Type 0
IsMailClock text h m s = IsFullClock text h m s ⊎ IsShortClock text h m s

abbrev AreSeconds : List ℕ → List ℕ → ℕ → Type 0
AreSeconds bytes rest n = ((text : List ℕ) × IsField 2 0 60 text n × (bytes ≡ 58 ∷ (text ++ rest))) ⊎ ((n ≡ 0) × (bytes ≡ rest))

seconds_if : (t : Bool) (b : ℕ) (bs rest : List ℕ) (n : ℕ) → (b == 58) ≡ t → cond t (read_two 0 60 bs) (Some (0, b ∷ bs)) ≡ Some (n, rest)
    → AreSeconds (b ∷ bs) rest n
seconds_if true b bs rest n e h =
    let s = two_sound 0 60 bs rest n h in
    let here = eqb-true b 58 e in
    inl (s.0, s.1, rw here (ap (λ (l : List ℕ). 58 ∷ l) s.2))
seconds_if false b bs rest n e h = let parts = some_pair_parts _ _ _ _ h in inr (sym parts.0, parts.1)

seconds_sound : (bytes rest : List ℕ) (n : ℕ) → read_seconds bytes ≡ Some (n, rest) → AreSeconds bytes rest n
seconds_sound [] rest n h = let parts = some_pair_parts _ _ _ _ h in inr (sym parts.0, parts.1)
seconds_sound (b ∷ bs) rest n h = seconds_if (b == 58) b bs rest n refl h

pub mail_clock_exact : (text rest : List ℕ) (h m s : ℕ) → IsMailClock text h m s
    → read_mail_clock (32 ∷ (text ++ (32 ∷ rest))) ≡ Some (clock_made h m s, 32 ∷ rest)
unfolding read_mail_clock
mail_clock_exact text rest h m s (inl c) =
    let all : List ℕ = 32 ∷ rest in
    let split : text ++ all ≡ c.hour_text ++ (58 ∷ (c.minute_text ++ (58 ∷ (c.second_text ++ all)))) =
    ap (λ (l : List ℕ). l ++ all) c.joined ∙ sym (clock_joins c.hour_text c.minute_text c.second_text all) in
    let hours = pair_exact 32 0 24 c.hour_text (58 ∷ (c.minute_text ++ (58 ∷ (c.second_text ++ all)))) h c.hours in
    let minutes = pair_exact 58 0 59 c.minute_text (58 ∷ (c.second_text ++ all)) m c.minutes in
    let seconds = two_exact 0 60 c.second_text all s c.seconds in
    rw (split, hours, minutes, seconds) refl
mail_clock_exact text rest h m s (inr c) =
    let all : List ℕ = 32 ∷ rest in
    let split : text ++ all ≡ c.hour_text ++ (58 ∷ (c.minute_text ++ all)) =
    ap (λ (l : List ℕ). l ++ all) c.joined ∙ sym (short_joins c.hour_text c.minute_text all) in
    let hours = pair_exact 32 0 24 c.hour_text (58 ∷ (c.minute_text ++ all)) h c.hours in
    let minutes = pair_exact 58 0 59 c.minute_text all m c.minutes in
    rw (split, hours, minutes, c.on_minute) refl

pub mail_clock_sound : (bytes rest : List ℕ) (c : Clock) → read_mail_clock bytes ≡ Some (c, rest)
    → (text : List ℕ) × IsMailClock text c.hour c.minute c.second × (bytes ≡ 32 ∷ (text ++ rest))
unfolding read_mail_clock
mail_clock_sound bytes rest c h =
    option_and_then_some _ _ _ h (λ x found_hour body. option_and_then_some _ _ _ body
    (λ y found_minute more. option_and_then_some _ _ _ more (λ z found_second ready.
    let hours = pair_sound 32 0 24 bytes x.1 x.0 found_hour in
    let minutes = pair_sound 58 0 59 x.1 y.1 y.0 found_minute in
    let parts = some_pair_parts _ _ _ _ ready in
    elim (seconds_sound y.1 z.1 z.0 found_second) [
      | inl seconds ↦
          let text : List ℕ = hours.0 ++ (58 ∷ (minutes.0 ++ (58 ∷ seconds.0))) in
          let P : Clock → Type 0 = λ v. IsMailClock text v.hour v.minute v.second in
          let clock : P (clock_made x.0 y.0 z.0) = inl (record {
            hour_text = hours.0;
            minute_text = minutes.0;
            second_text = seconds.0;
            hours = hours.1;
            minutes = minutes.1;
            seconds = seconds.1;
            joined = refl;
          }) in
          let behind : y.1 ≡ 58 ∷ (seconds.0 ++ rest) = seconds.2 ∙ ap (λ (l : List ℕ). 58 ∷ (seconds.0 ++ l)) parts.1 in
          let later : x.1 ≡ 58 ∷ (minutes.0 ++ (58 ∷ (seconds.0 ++ rest))) =
          minutes.2 ∙ ap (λ (l : List ℕ). 58 ∷ (minutes.0 ++ l)) behind in
          let split : bytes ≡ 32 ∷ (text ++ rest) =
          hours.2 ∙ ap (λ (l : List ℕ). 32 ∷ (hours.0 ++ l)) later
          ∙ ap (λ (l : List ℕ). 32 ∷ l) (clock_joins hours.0 minutes.0 seconds.0 rest) in
          (text, subst P parts.0 clock, split)
      | inr none ↦
          let text : List ℕ = hours.0 ++ (58 ∷ minutes.0) in
          let P : Clock → Type 0 = λ v. IsMailClock text v.hour v.minute v.second in
          let clock : P (clock_made x.0 y.0 z.0) = inr (record {
            hour_text = hours.0;
            minute_text = minutes.0;
            hours = hours.1;
            minutes = minutes.1;
            joined = refl;
            on_minute = none.0;
          }) in
          let behind : y.1 ≡ rest = none.1 ∙ parts.1 in
          let later : x.1 ≡ 58 ∷ (minutes.0 ++ rest) = minutes.2 ∙ ap (λ (l : List ℕ). 58 ∷ (minutes.0 ++ l)) behind in
          let split : bytes ≡ 32 ∷ (text ++ rest) =
          hours.2 ∙ ap (λ (l : List ℕ). 32 ∷ (hours.0 ++ l)) later ∙ ap (λ (l : List ℕ). 32 ∷ l) (short_joins hours.0 minutes.0 rest) in
          (text, subst P parts.0 clock, split)
    ])))
