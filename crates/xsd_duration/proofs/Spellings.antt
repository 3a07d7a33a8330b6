-- The reader finds the spelling of a text, and what it finds is one.
use Rattle.std.proofs.Common.{◌≡◌, ℕ, ◌==◌, Bool, true, false, cond, List, [], ◌∷◌, ◌++◌, Option, Some, None, refl, sym, ◌∙◌, ap, subst}
use Rattle.std.proofs.Common.{append_assoc, codes}
use Rattle.std.proofs.lemmas.Bool.{eqb-true}
use Rattle.std.proofs.lemmas.Option.{option_and_then_some}
use Rattle.scan_core.specs.Digits.{AreDigits}
use Rattle.scan_core.specs.Number.{minus}
use Rattle.xsd_duration.specs.Durations.{Spelling, IsSpelling, lettered_text, date_counts_text, marked_text, spelling_text, time_counts_text}
use Rattle.xsd_duration.specs.inside.Reading.{Clock, read_body, read_clock, read_count, read_counts}
use Rattle.xsd_duration.specs.inside.Reading.{read_spelling, read_time, read_unsigned, spelled}
use Rattle.xsd_duration.proofs.Counts.{Stops, count_exact, count_sound, stops_byte, stops_count, stops_nil}
use Rattle.xsd_duration.proofs.Counts.{same_some, second_text, seconds_exact, seconds_sound, seconds_stop, some_bytes}
use Rattle.xsd_duration.proofs.WrittenFacts.{no_count, none_left}

-- ---- a clock

-- the text of a clock's counts
abbrev clock_text : Clock → List ℕ
clock_text c = lettered_text c.0 (codes "H") ++ (lettered_text c.1.0 (codes "M") ++ second_text c.1.1.0 c.1.1.1)

-- the counts of a clock are digits, and a fraction stands behind whole seconds
record AreCounts (c : Clock) : Type 0 where
  pub hours : AreDigits c.0
  pub minutes : AreDigits c.1.0
  pub seconds : AreDigits c.1.1.0
  pub fraction : AreDigits c.1.1.1
  pub pointed : c.1.1.0 ≡ [] → c.1.1.1 ≡ []

time_sound : (bytes : List ℕ) (c : Clock) → read_time bytes ≡ Some c → AreCounts c × (bytes ≡ clock_text c)
unfolding read_time
time_sound bytes c h =
    let hour = read_count 72 bytes in
    let minute = read_count 77 hour.1 in
    let hours = count_sound 72 bytes in
    let minutes = count_sound 77 hour.1 in
    option_and_then_some _ _ _ h (λ s found made.
    let seconds = seconds_sound minute.1 s found in
    let clock : Clock = (hour.0, (minute.0, s)) in
    let counts : AreCounts clock = record {
      hours = hours.0;
      minutes = minutes.0;
      seconds = seconds.seconds;
      fraction = seconds.fraction;
      pointed = seconds.pointed;
    } in
    let split : bytes ≡ clock_text clock = hours.1 ∙ ap (λ (l : List ℕ). lettered_text hour.0 (codes "H") ++ l) (minutes.1
    ∙ ap (λ (l : List ℕ). lettered_text minute.0 (codes "M") ++ l) seconds.joined) in
    subst (λ (v : Clock). AreCounts v × (bytes ≡ clock_text v)) (same_some clock c made) (counts, split))

time_exact : (h m s f : List ℕ) → AreCounts (h, (m, (s, f))) → read_time (clock_text (h, (m, (s, f)))) ≡ Some (h, (m, (s, f)))
unfolding read_time
time_exact h m s f c =
    let seconds = seconds_exact s f c.seconds c.fraction c.pointed in
    let minute = count_exact 77 m (second_text s f) refl c.minutes (seconds_stop 77 s f refl refl c.seconds c.pointed) in
    let hour = count_exact 72 h (lettered_text m (codes "M") ++ second_text s f) refl c.hours
    (stops_count 72 77 m (second_text s f) c.minutes refl refl (seconds_stop 72 s f refl refl c.seconds c.pointed)) in
    rw (hour, minute, seconds) refl

abbrev no_clock : Clock
no_clock = ([], ([], ([], [])))

clock_if : (t : Bool) (b c : ℕ) (cs : List ℕ) (v : Clock) → (t ≡ true → b ≡ 84)
    → cond {A = Option Clock} t (read_time (c ∷ cs)) None ≡ Some v
    → AreCounts v × (b ∷ (c ∷ cs) ≡ marked_text (codes "T") (clock_text v))
clock_if true b c cs v is h =
    let time = time_sound (c ∷ cs) v h in (
      time.0,
      ap (λ (x : ℕ). x ∷ (c ∷ cs)) (is refl) ∙ ap (λ (l : List ℕ). marked_text (codes "T") l) time.1,
    )
clock_if false b c cs v is h = cc

clock_sound : (bytes : List ℕ) (v : Clock) → read_clock bytes ≡ Some v → AreCounts v × (bytes ≡ marked_text (codes "T") (clock_text v))
clock_sound [] v h =
    let none : AreCounts no_clock = record { hours = tt; minutes = tt; seconds = tt; fraction = tt; pointed = λ e. refl } in
    subst (λ (c : Clock). AreCounts c × ([] ≡ marked_text (codes "T") (clock_text c))) (same_some no_clock v h) (none, refl)
clock_sound (b ∷ []) v h = cc
clock_sound (b ∷ c ∷ cs) v h = clock_if (b == 84) b c cs v (eqb-true b 84) h

-- no count leaves no text
no_times : (h m s f : List ℕ) → AreCounts (h, (m, (s, f))) → clock_text (h, (m, (s, f))) ≡ []
    → no_clock ≡ (h, (m, (s, f)))
no_times h m s f c none =
    let first = none_left (lettered_text h (codes "H")) (lettered_text m (codes "M") ++ second_text s f) none in
    let second = none_left (lettered_text m (codes "M")) (second_text s f) first.1 in
    let seconds = none_left s (marked_text (codes ".") f) (no_count (s ++ marked_text (codes ".") f) (codes "S") second.1) in
    rw (no_count h (codes "H") first.0, no_count m (codes "M") second.0, seconds.0, c.pointed seconds.0) refl

marked_at : (h m s f text : List ℕ) → AreCounts (h, (m, (s, f))) → text ≡ clock_text (h, (m, (s, f)))
    → read_clock (marked_text (codes "T") text) ≡ Some (h, (m, (s, f)))
marked_at h m s f [] c is = ap Some (no_times h m s f c (sym is))
marked_at h m s f (b ∷ bs) c is = ap read_time is ∙ time_exact h m s f c

clock_exact : (h m s f : List ℕ) → AreCounts (h, (m, (s, f)))
    → read_clock (marked_text (codes "T") (clock_text (h, (m, (s, f))))) ≡ Some (h, (m, (s, f)))
clock_exact h m s f c = marked_at h m s f (clock_text (h, (m, (s, f)))) c refl

-- ---- all counts

clock_stop : (letter : ℕ) (text : List ℕ) → Stops letter (marked_text (codes "T") text)
clock_stop letter [] = stops_nil letter
clock_stop letter (b ∷ bs) = stops_byte letter 84 (b ∷ bs) refl

-- the counts with a clock behind them
date_and_clock : (y m d clock : List ℕ) → (y ++ (m ++ d)) ++ clock ≡ y ++ (m ++ (d ++ clock))
date_and_clock y m d clock = append_assoc y (m ++ d) clock ∙ ap (λ (l : List ℕ). y ++ l) (append_assoc m d clock)

abbrev body_text : Spelling → List ℕ
body_text s = date_counts_text s ++ marked_text (codes "T") (time_counts_text s)

no_counts : (date time : List ℕ) → date ++ time ≡ [] → date ++ marked_text (codes "T") time ≡ []
no_counts date time h = let none = none_left date time h in rw (none.0, none.1) refl

counts_sound : (negative : Bool) (b : ℕ) (bs : List ℕ) (s : Spelling) → read_counts negative (b ∷ bs) ≡ Some s
    → IsSpelling s × (s.negative ≡ negative) × (b ∷ bs ≡ body_text s)
unfolding read_counts
counts_sound negative b bs s h =
    let bytes : List ℕ = b ∷ bs in
    let year = read_count 89 bytes in
    let month = read_count 77 year.1 in
    let day = read_count 68 month.1 in
    let years = count_sound 89 bytes in
    let months = count_sound 77 year.1 in
    let days = count_sound 68 month.1 in
    option_and_then_some _ _ _ h (λ c found made.
    let clock = clock_sound day.1 c found in
    let spelling : Spelling = spelled negative year.0 month.0 day.0 c in
    let split : bytes ≡ body_text spelling = years.1 ∙ ap (λ (l : List ℕ). lettered_text year.0 (codes "Y") ++ l) (months.1
    ∙ ap (λ (l : List ℕ). lettered_text month.0 (codes "M") ++ l) (days.1
    ∙ ap (λ (l : List ℕ). lettered_text day.0 (codes "D") ++ l) clock.1))
    ∙ sym (date_and_clock (lettered_text year.0 (codes "Y")) (lettered_text month.0 (codes "M")) (lettered_text day.0 (codes "D"))
    (marked_text (codes "T") (clock_text c))) in
    let is : IsSpelling spelling = record {
      years = years.0;
      months = months.0;
      days = days.0;
      hours = clock.0.hours;
      minutes = clock.0.minutes;
      seconds = clock.0.seconds;
      fraction = clock.0.fraction;
      pointed = clock.0.pointed;
      some = λ none. some_bytes b bs (split ∙ no_counts (date_counts_text spelling) (time_counts_text spelling) none);
    } in
    subst (λ (v : Spelling). IsSpelling v × (v.negative ≡ negative) × (bytes ≡ body_text v)) (same_some spelling s made)
    (is, refl, split))

clock_counts : (s : Spelling) → IsSpelling s → AreCounts (s.hours, (s.minutes, (s.seconds, s.fraction)))
clock_counts s is =
    record { hours = is.hours; minutes = is.minutes; seconds = is.seconds; fraction = is.fraction; pointed = is.pointed }

counts_exact : (s : Spelling) → IsSpelling s → read_counts s.negative (body_text s)
    ≡ Some (spelled s.negative s.years s.months s.days (s.hours, (s.minutes, (s.seconds, s.fraction))))
unfolding read_counts
counts_exact s is =
    let behind : List ℕ = marked_text (codes "T") (time_counts_text s) in
    let day_text : List ℕ = lettered_text s.days (codes "D") ++ behind in
    let month_text : List ℕ = lettered_text s.months (codes "M") ++ day_text in
    let year = count_exact 89 s.years month_text refl is.years (stops_count 89 77 s.months day_text is.months refl refl
    (stops_count 89 68 s.days behind is.days refl refl (clock_stop 89 (time_counts_text s)))) in
    let month = count_exact 77 s.months day_text refl is.months
    (stops_count 77 68 s.days behind is.days refl refl (clock_stop 77 (time_counts_text s))) in
    let day = count_exact 68 s.days behind refl is.days (clock_stop 68 (time_counts_text s)) in
    let clock = clock_exact s.hours s.minutes s.seconds s.fraction (clock_counts s is) in
    let split = date_and_clock (lettered_text s.years (codes "Y")) (lettered_text s.months (codes "M")) (lettered_text s.days (codes "D"))
    behind in
    rw (split, year, month, day, clock) refl

-- ---- the whole text

body_sound : (negative : Bool) (bytes : List ℕ) (s : Spelling) → read_body negative bytes ≡ Some s
    → IsSpelling s × (s.negative ≡ negative) × (bytes ≡ body_text s)
body_sound negative [] s h = cc
body_sound negative (b ∷ bs) s h = counts_sound negative b bs s h

unsigned_if : (t negative : Bool) (b : ℕ) (bs : List ℕ) (s : Spelling) → (t ≡ true → b ≡ 80)
    → cond {A = Option Spelling} t (read_body negative bs) None ≡ Some s
    → IsSpelling s × (s.negative ≡ negative) × (b ∷ bs ≡ codes "P" ++ body_text s)
unsigned_if true negative b bs s is h =
    let body = body_sound negative bs s h in
    (body.0, body.1, ap (λ (x : ℕ). x ∷ bs) (is refl) ∙ ap (λ (l : List ℕ). 80 ∷ l) body.2)
unsigned_if false negative b bs s is h = cc

unsigned_sound : (negative : Bool) (bytes : List ℕ) (s : Spelling) → read_unsigned negative bytes ≡ Some s
    → IsSpelling s × (s.negative ≡ negative) × (bytes ≡ codes "P" ++ body_text s)
unsigned_sound negative [] s h = cc
unsigned_sound negative (b ∷ bs) s h = unsigned_if (b == 80) negative b bs s (eqb-true b 80) h

signed_if : (t : Bool) (b : ℕ) (bs : List ℕ) (s : Spelling) → (t ≡ true → b ≡ 45)
    → cond {A = Option Spelling} t (read_unsigned true bs) (read_unsigned false (b ∷ bs)) ≡ Some s
    → IsSpelling s × (b ∷ bs ≡ spelling_text s)
signed_if true b bs s is h =
    let rest = unsigned_sound true bs s h in
    let sign : minus s.negative ≡ codes "-" = ap minus rest.1 in (
      rest.0,
      ap (λ (x : ℕ). x ∷ bs) (is refl) ∙ ap (λ (l : List ℕ). 45 ∷ l) rest.2
          ∙ ap (λ (l : List ℕ). l ++ (codes "P" ++ body_text s)) (sym sign),
    )
signed_if false b bs s is h =
    let rest = unsigned_sound false (b ∷ bs) s h in
    let sign : minus s.negative ≡ [] = ap minus rest.1 in
    (rest.0, rest.2 ∙ ap (λ (l : List ℕ). l ++ (codes "P" ++ body_text s)) (sym sign))

pub spelling_sound : (text : List ℕ) (s : Spelling) → read_spelling text ≡ Some s → IsSpelling s × (text ≡ spelling_text s)
unfolding read_spelling
spelling_sound [] s h = cc
spelling_sound (b ∷ bs) s h = signed_if (b == 45) b bs s (eqb-true b 45) h

unmarked : (text : List ℕ) → marked_text (codes "T") text ≡ [] → text ≡ []
unmarked [] h = refl
unmarked (b ∷ bs) h = absurd (some_bytes 84 (b ∷ bs) h)

body_some : (s : Spelling) (body : List ℕ) → IsSpelling s → body ≡ body_text s
    → read_body s.negative body ≡ read_counts s.negative body
body_some s [] is e =
    let none = none_left (date_counts_text s) (marked_text (codes "T") (time_counts_text s)) (sym e) in
    absurd (is.some (rw (none.0, unmarked (time_counts_text s) none.1) refl))
body_some s (b ∷ bs) is e = refl

signed_exact : (negative : Bool) (body : List ℕ) (s : Option Spelling) → read_body negative body ≡ s
    → read_spelling (minus negative ++ (codes "P" ++ body)) ≡ s
unfolding read_spelling
signed_exact true body s h = h
signed_exact false body s h = h

pub spelling_exact : (s : Spelling) → IsSpelling s → read_spelling (spelling_text s)
    ≡ Some (spelled s.negative s.years s.months s.days (s.hours, (s.minutes, (s.seconds, s.fraction))))
spelling_exact s is = signed_exact s.negative (body_text s) _ (body_some s (body_text s) is refl ∙ counts_exact s is)
