-- Which kind of duration stands behind a `P`, by the byte behind its first digits.
use Rattle.std.proofs.Common.{◌≡◌, ◌≢◌, ℕ, ◌-◌, ◌<◌, ◌⊎◌, ◌==◌, nat_lt, false, List, [], ◌∷◌, length, Option, Some, None, IfSome, IfNone}
use Rattle.std.proofs.Common.{refl, sym, ◌∙◌, ap, subst, append-nil, arith, inl, inr}
use Rattle.std.specs.Prelude.{option_and_then}
use Rattle.std.proofs.lemmas.Bool.Decides.{nat_tests}
use Rattle.std.proofs.lemmas.Option.{option_and_then_some, some_pair_parts}
use Rattle.scan_core.specs.Fronts.{front_digits, after_digits}
use Rattle.scan_core.specs.Runs.{digits_of}
use Rattle.scan_core.specs.Scanning.{Passes, Place, ahead, front_byte}
use Rattle.scan_core.specs.declared.runs.Run.{Run}
use Rattle.scan_core.proofs.FrontFacts.{front_are_digits, front_and_after}
use Rattle.scan_core.proofs.RunFacts.{run_length}
use Rattle.iso8601.specs.Durations.{IsDuration}
use Rattle.iso8601.specs.declared.types.Duration.{Duration}
use Rattle.iso8601.specs.declared.types.Duration.TheVariants.{Weeks}
use Rattle.iso8601.specs.declared.types.Time.{Time}
use Rattle.iso8601.specs.inside.CountedReading.{BeginsUnit, IsBehind, from_run}
use Rattle.iso8601.specs.inside.DurationReading.{Peeked, dated_of, peek, read_body, read_clock, read_count, read_counted, read_counts}
use Rattle.iso8601.specs.inside.DurationReading.{read_dated, read_weeks, with_letter}
use Rattle.iso8601.specs.inside.Reading.{number_in, or_else, read_field, read_marked}
use Rattle.iso8601.specs.inside.TimeReading.{read_time}
use Rattle.iso8601.proofs.CountedFacts.{none_passed, number_none, other_byte, peek_behind, peek_none, behind_number, some_passed}
use Rattle.iso8601.proofs.DurationReading.{body_sound, body_whole, clock_missing, not_dated, not_less, perhaps_none, some_none}
use Rattle.iso8601.proofs.FieldFacts.{NotFirst, digits_first}

some_bytes : (run : Run) (place : Place) (n : ℕ) → n ≡ run.end - run.start → IsBehind run place → run.start ≢ run.end → 0 < n
some_bytes run place n long b apart = omega (arith, b.is_run.order)

-- digits that were passed begin with no `T`
no_t : (run : Run) (place : Place) → IsBehind run place → run.start ≢ run.end → NotFirst 84 (from_run place.text run)
no_t run place b apart =
    let bytes : List ℕ = from_run place.text run in
    let long : length (front_digits bytes) ≡ run.end - run.start = ap length (sym b.digits) ∙ run_length place.text run b.is_run in
    rw (← front_and_after bytes) (digits_first 84 (front_digits bytes) (after_digits bytes) refl
    (some_bytes run place (length (front_digits bytes)) long b apart) (front_are_digits bytes))

pub clock_left : (run : Run) (place : Place) → IsBehind run place → run.start ≢ run.end → (read_clock (from_run place.text run)).1 ≢ []
clock_left run place b apart none =
    let bytes : List ℕ = from_run place.text run in
    let whole : (read_clock bytes).1 ≡ bytes = ap (λ (r : (ℕ × (ℕ × (ℕ × ℕ))) × List ℕ). r.1)
    (clock_missing bytes (no_t run place b apart)) in
    some_passed run place b apart (sym whole ∙ none)

less_zero : (n : ℕ) → nat_lt n 0 ≡ false
less_zero n = grind (arith, nat_tests)

nothing_counted : read_counted [] ≡ None
unfolding read_counted
nothing_counted = rw (less_zero (length (read_counts []).1)) refl

pub counts_nothing : (run : Run) (place : Place) → IsBehind run place → run.start ≡ run.end → ahead place ≡ [] → (d : Duration)
    → read_counted (from_run place.text run) ≢ Some (d, [])
counts_nothing run place b same none d h =
    let empty : from_run place.text run ≡ [] = sym (none_passed run place b same) ∙ none in
    some_none (d, []) (sym (ap read_counted (sym empty) ∙ h) ∙ nothing_counted)

-- ---- a date and a time

pub dated_stuck : (bytes one two three four : List ℕ) (y m k : ℕ) → Some (y, one) ≡ read_field 4 0 9999 bytes
    → Some (m, two) ≡ read_marked 45 2 1 12 one → Some (k, three) ≡ read_marked 45 2 1 31 two → three ≡ 84 ∷ four
    → ((t : Time) → read_time four ≢ Some (t, [])) → (d : Duration) → read_dated bytes ≢ Some (d, [])
unfolding read_dated
dated_stuck bytes one two three four y m k p q r t stuck d whole =
    let year : read_field 4 0 9999 bytes ≡ Some (y, one) = sym p in
    let month : read_marked 45 2 1 12 one ≡ Some (m, two) = sym q in
    let day : read_marked 45 2 1 31 two ≡ Some (k, three) = sym r in
    let read : read_dated bytes ≡ option_and_then (λ x. Some (dated_of y m k x.0, x.1)) (read_time four) = rw (year, month, day, t) refl in
    option_and_then_some _ _ _ (sym read ∙ whole) (λ x found made.
    let parts = some_pair_parts _ _ _ _ made in
    stuck x.0 (found ∙ ap (λ (l : List ℕ). Some (x.0, l)) parts.1))

-- ---- which kind

body_weeks : (bytes rest : List ℕ) (n : ℕ) → peek bytes ≡ with_letter n (87 ∷ rest) → read_body bytes ≡ Some (Weeks n, rest)
unfolding read_body read_weeks read_count
body_weeks bytes rest n h = rw h refl

no_weeks : (bytes rest : List ℕ) (n : ℕ) → peek bytes ≡ with_letter n rest → front_byte rest ≢ Some 87 → read_weeks bytes ≡ None
unfolding read_weeks read_count
no_weeks bytes [] n h other = rw h refl
no_weeks bytes (b ∷ bs) n h other = rw (h, other_byte b 87 other) refl

weeks_unseen : (bytes : List ℕ) → peek bytes ≡ None → read_weeks bytes ≡ None
unfolding read_weeks read_count
weeks_unseen bytes h = rw h refl

none_from : {A : Type 0} (o : Option A) → ((x : A) → o ≡ Some x → ⊥) → o ≡ None
none_from None n = refl
none_from (Some x) n = absurd (n x refl)

dated_unseen : (bytes : List ℕ) → peek bytes ≡ None → read_dated bytes ≡ None
dated_unseen bytes h = none_from (read_dated bytes) (λ x found. let p = not_dated bytes x found in let never : None ≡ Some p.0 = sym h
    ∙ p.1 in cc)

abbrev HasLetter : ℕ → Option Peeked → Type 0
HasLetter b None = ⊥
HasLetter b (Some p) = b ≡ p.letter

letter_same : (n : ℕ) (b : ℕ) (bs : List ℕ) (p : Peeked) → with_letter n (b ∷ bs) ≡ Some p → b ≡ p.letter
letter_same n b bs p h = let P : Option Peeked → Type 0 = λ o. HasLetter b o in subst P h refl

unit_test : (b letter : ℕ) → b ≡ letter → (b ≡ 89) ⊎ ((b ≡ 77) ⊎ (b ≡ 68)) → ((letter == 89) ≡ false) × ((letter == 77) ≡ false)
    × ((letter == 68) ≡ false) → ⊥
unit_test b letter same unit none = grind (arith, nat_tests)

no_date : (bytes rest : List ℕ) (n : ℕ) → peek bytes ≡ with_letter n rest → BeginsUnit rest → read_dated bytes ≡ None
no_date bytes [] n h unit = absurd unit
no_date bytes (b ∷ bs) n h unit =
    none_from (read_dated bytes) (λ x found.
    let p = not_dated bytes x found in
    let same : b ≡ p.0.letter = letter_same n b bs p.0 (sym h ∙ p.1) in
    unit_test b p.0.letter same unit p.2)

no_counted : (bytes : List ℕ) → read_count 89 bytes ≡ None → read_count 77 bytes ≡ None → read_count 68 bytes ≡ None → NotFirst 84 bytes
    → read_counted bytes ≡ None
unfolding read_counted read_counts
no_counted bytes y m d t = rw (
  perhaps_none 89 bytes y,
  perhaps_none 77 bytes m,
  perhaps_none 68 bytes d,
  clock_missing bytes t,
  not_less (length bytes),
) refl

count_missing : (unit n : ℕ) (bytes rest : List ℕ) → peek bytes ≡ with_letter n rest → front_byte rest ≢ Some unit
    → read_count unit bytes ≡ None
unfolding read_count
count_missing unit n bytes [] h other = rw h refl
count_missing unit n bytes (b ∷ bs) h other = rw (h, other_byte b unit other) refl

no_unit : (rest : List ℕ) (unit : ℕ) → (unit ≡ 89) ⊎ ((unit ≡ 77) ⊎ (unit ≡ 68)) → (BeginsUnit rest → ⊥) → front_byte rest ≢ Some unit
no_unit [] unit is never h = cc
no_unit (b ∷ bs) unit is never h =
    let same : unit ≡ b = cc in
    let P : ℕ → Type 0 = λ u. (u ≡ 89) ⊎ ((u ≡ 77) ⊎ (u ≡ 68)) in
    never (subst P same is)

last : {A : Type 0} (o : Option A) → or_else o None ≡ o
last None = refl
last (Some x) = refl

counts_body : (bytes : List ℕ) → read_weeks bytes ≡ None → read_dated bytes ≡ None → read_body bytes ≡ read_counted bytes
unfolding read_body
counts_body bytes w d = rw (w, d) (last (read_counted bytes))

dated_body : (bytes : List ℕ) → read_weeks bytes ≡ None → read_counted bytes ≡ None → read_body bytes ≡ read_dated bytes
unfolding read_body
dated_body bytes w c = rw (w, c) refl

pub is_weeks : (run : Run) (place new : Place) (n : ℕ) → IsBehind run place → number_in (digits_of place.text run) ≡ Some n
    → Passes (87 ∷ []) place new → read_body (from_run place.text run) ≡ Some (Weeks n, ahead new)
is_weeks run place new n b h p = body_weeks (from_run place.text run) (ahead new) n
    (peek_behind run place n b h ∙ ap (with_letter n) p.split)

pub is_counts : (run : Run) (place : Place) (n : ℕ) → IsBehind run place → number_in (digits_of place.text run) ≡ Some n
    → front_byte (ahead place) ≢ Some 87 → BeginsUnit (ahead place)
    → read_body (from_run place.text run) ≡ read_counted (from_run place.text run)
is_counts run place n b h other unit =
    let bytes : List ℕ = from_run place.text run in
    let seen = peek_behind run place n b h in
    counts_body bytes (no_weeks bytes (ahead place) n seen other) (no_date bytes (ahead place) n seen unit)

pub is_no_number : (run : Run) (place : Place) → IsBehind run place → number_in (digits_of place.text run) ≡ None
    → read_body (from_run place.text run) ≡ read_counted (from_run place.text run)
is_no_number run place b h =
    let bytes : List ℕ = from_run place.text run in
    let unseen = peek_none bytes (behind_number run place None b h) in
    counts_body bytes (weeks_unseen bytes unseen) (dated_unseen bytes unseen)

pub is_dated : (run : Run) (place : Place) (n : ℕ) → IsBehind run place → run.start ≢ run.end
    → number_in (digits_of place.text run) ≡ Some n → front_byte (ahead place) ≢ Some 87 → (BeginsUnit (ahead place) → ⊥)
    → read_body (from_run place.text run) ≡ read_dated (from_run place.text run)
is_dated run place n b apart h other never =
    let bytes : List ℕ = from_run place.text run in
    let seen = peek_behind run place n b h in
    let y = count_missing 89 n bytes (ahead place) seen (no_unit (ahead place) 89 (inl refl) never) in
    let m = count_missing 77 n bytes (ahead place) seen (no_unit (ahead place) 77 (inr (inl refl)) never) in
    let d = count_missing 68 n bytes (ahead place) seen (no_unit (ahead place) 68 (inr (inr refl)) never) in
    dated_body bytes (no_weeks bytes (ahead place) n seen other) (no_counted bytes y m d (no_t run place b apart))

-- ---- what is answered

pub some_as : (o : Option Duration) (x y : Option (Duration × List ℕ)) → x ≡ y → IfSome o (λ d. y ≡ Some (d, []))
    → IfSome o (λ d. x ≡ Some (d, []))
some_as None x y e h = tt
some_as (Some d) x y e h = e ∙ h

pub none_as : (o : Option Duration) (x y : Option (Duration × List ℕ)) → x ≡ y → IfNone o ((d : Duration) → y ≢ Some (d, []))
    → IfNone o ((d : Duration) → x ≢ Some (d, []))
none_as None x y e h = λ d whole. h d (sym e ∙ whole)
none_as (Some d) x y e h = tt

pub weeks_some : (o : Option Duration) (x : Option (Duration × List ℕ)) (n : ℕ) (rest : List ℕ) → x ≡ Some (Weeks n, rest)
    → IfSome o (λ d. (d ≡ Weeks n) × (rest ≡ [])) → IfSome o (λ d. x ≡ Some (d, []))
weeks_some None x n rest e h = tt
weeks_some (Some d) x n rest e h = e ∙ rw (h.0, h.1) refl

pub weeks_none : (o : Option Duration) (x : Option (Duration × List ℕ)) (n : ℕ) (rest : List ℕ) → x ≡ Some (Weeks n, rest)
    → IfNone o (rest ≢ []) → IfNone o ((d : Duration) → x ≢ Some (d, []))
weeks_none None x n rest e h = λ d whole. h (some_pair_parts _ _ _ _ (sym e ∙ whole)).1
weeks_none (Some d) x n rest e h = tt

pub dated_some : (o : Option Duration) (text body : List ℕ) → text ≡ 80 ∷ body → read_body body ≡ read_dated body
    → IfSome o (λ d. (b : List ℕ) → text ≡ 80 ∷ b → read_dated b ≡ Some (d, [])) → IfSome o (λ d. read_body body ≡ Some (d, []))
dated_some None text body start e h = tt
dated_some (Some d) text body start e h = e ∙ h body start

pub dated_none : (o : Option Duration) (text body : List ℕ) → text ≡ 80 ∷ body → read_body body ≡ read_dated body
    → IfNone o ((b : List ℕ) (d : Duration) → text ≡ 80 ∷ b → read_dated b ≢ Some (d, []))
    → IfNone o ((d : Duration) → read_body body ≢ Some (d, []))
dated_none None text body start e h = λ d whole. h body d start (sym e ∙ whole)
dated_none (Some d) text body start e h = tt

-- a number has digits
pub number_apart : (run : Run) (place : Place) (n : ℕ) → IsBehind run place → number_in (digits_of place.text run) ≡ Some n
    → run.start ≢ run.end
number_apart run place n b h same = some_none n (sym h ∙ number_none place.text run b.is_run (inl same))

-- ---- a whole text

pub whole_start : (text : List ℕ) (first mid new : Place) (run : Run) → first ≡ record { text = text; at = 0 } → Passes (80 ∷ []) first mid
    → run.start ≡ mid.at → new.text ≡ mid.text → text ≡ 80 ∷ from_run new.text run
whole_start text first mid new run begin p start same =
    let all : ahead first ≡ text = ap ahead begin in
    sym all ∙ p.split ∙ rw (same, start) refl

pub whole_body : (text body : List ℕ) (d : Duration) → text ≡ 80 ∷ body → read_body body ≡ Some (d, []) → IsDuration text d
whole_body text body d start h =
    let s = body_sound body [] d h in
    let all : s.0 ≡ body = sym (s.2 ∙ append-nil s.0) in
    (s.0, s.1, start ∙ ap (λ (l : List ℕ). 80 ∷ l) (sym all))

pub no_body : (text body : List ℕ) → text ≡ 80 ∷ body → ((d : Duration) → read_body body ≢ Some (d, [])) → (d : Duration)
    → IsDuration text d → ⊥
no_body text body start none d is =
    let same : body ≡ is.0 = let whole : 80 ∷ body ≡ 80 ∷ is.0 = sym start ∙ is.2 in cc in
    none d (ap read_body (same ∙ sym (append-nil is.0)) ∙ body_whole is.0 d is.1)
