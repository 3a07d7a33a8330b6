-- Runs of digits that a scan passed, as the readers on lists see them.
use Rattle.std.proofs.Common.{◌≡◌, ◌≢◌, ℕ, pos, zero, suc, ◌-◌, ◌*◌, ◌^◌, ◌<◌, ◌≤◌, ◌⊎◌, ◌==◌, Bool, true, false, List, [], ◌∷◌, ◌++◌}
use Rattle.std.proofs.Common.{length, take, drop, Option, Some, None, refl, sym, ◌∙◌, ap, subst, arith, inl, inr, length-take}
use Rattle.std.proofs.Common.{length-append}
use Rattle.std.proofs.lemmas.Bool.{eqb-true, eq-eqb, false_from_ne_true}
use Rattle.std.proofs.lemmas.Bool.Decides.{nat_tests}
use Rattle.std.proofs.lemmas.List.{take_at, drop_at}
use Rattle.std.proofs.lemmas.Option.{some_pair_parts}
use Rattle.std.proofs.Math.Nat.{pow-le-pow_right}
use Rattle.std.specs.Char.{is_ascii_digit}
use Rattle.scan_core.specs.Digits.{AreDigits, number_of}
use Rattle.scan_core.specs.Fronts.{front_digits, after_digits}
use Rattle.scan_core.specs.Runs.{IsRun, Knows, digits_of}
use Rattle.scan_core.specs.Scanning.{Passes, Place, ahead, front_byte}
use Rattle.scan_core.specs.declared.runs.Run.{Run}
use Rattle.scan_core.proofs.DigitFacts.{digits-take, number_of-lt, test_from_digit}
use Rattle.scan_core.proofs.FrontFacts.{front_are_digits, front_and_after}
use Rattle.scan_core.proofs.RunFacts.{run_length}
use Rattle.iso8601.specs.declared.types.Time.{Time}
use Rattle.iso8601.specs.inside.CountedReading.{BeginsField, BeginsNoPoint, IsBehind, IsPointed, IsStuck, from_run}
use Rattle.iso8601.specs.inside.DurationReading.{closed_by, with_letter, peek, read_count, read_perhaps, read_seconds}
use Rattle.iso8601.specs.inside.Reading.{number_in, read_field, read_mark, read_marked}
use Rattle.iso8601.specs.inside.TimeReading.{millis_of, read_fraction, read_later, read_offset, read_signed, read_tail, read_time, time_of}
use Rattle.iso8601.proofs.FieldFacts.{field_some, field_none}
use Rattle.iso8601.proofs.Longest.{nothing}
use Rattle.iso8601.proofs.NumberFacts.{number_exact, number_missing}
use Rattle.iso8601.proofs.TimeParts.{stops_later}

-- ---- values of runs

-- a value below the bound is the number
known : (value n : ℕ) → Knows (10 ^ 18) value n → value < 10 ^ 18 → value ≡ n
known value n (inl same) h = same
known value n (inr great) h = absurd (omega (arith, great.0))

small : (value n : ℕ) → Knows (10 ^ 18) value n → n < 10 ^ 18 → value ≡ n
small value n (inl same) h = same
small value n (inr great) h = absurd (omega (arith, great.1))

at_least : (value n : ℕ) → Knows (10 ^ 18) value n → 2 ^ 32 ≤ value → 2 ^ 32 ≤ n
at_least value n (inl same) h = omega arith
at_least value n (inr great) h = omega (arith, great.1)

-- ---- numbers of 32 bits

pub number_some : (text : List ℕ) (run : Run) → IsRun text run → run.start ≢ run.end → run.value < 2 ^ 32
    → number_in (digits_of text run) ≡ Some run.value
number_some text run is apart fits =
    let same = known run.value (number_of (digits_of text run)) is.value (omega arith) in
    let long = run_length text run is in
    number_exact (digits_of text run) run.value (record {
      some = omega (arith, is.order);
      all_digits = is.digits;
      number = same;
      fits = fits;
    })

pub number_none : (text : List ℕ) (run : Run) → IsRun text run → (run.start ≡ run.end) ⊎ (2 ^ 32 ≤ run.value)
    → number_in (digits_of text run) ≡ None
number_none text run is (inl same) =
    let long = run_length text run is in
    number_missing (digits_of text run) (inl (omega arith))
number_none text run is (inr great) = number_missing (digits_of text run)
    (inr (at_least run.value (number_of (digits_of text run)) is.value great))

-- ---- fields

-- digits in front that are so many are the first bytes
front_take : (count : ℕ) (bytes : List ℕ) → AreDigits (take count bytes) → take count (front_digits bytes) ≡ take count bytes
front_take zero bytes d = refl
front_take (suc count) [] d = refl
front_take (suc count) (b ∷ bs) d = let yes = test_from_digit b d.0 in rw yes (ap (λ (l : List ℕ). b ∷ l) (front_take count bs d.1))

-- a scan that passed so many digits
pub record IsShort (count : ℕ) (run : Run) (old new : Place) : Type 0 where
  pub is_run : IsRun new.text run
  pub front : digits_of new.text run ≡ take count (front_digits (ahead old))
  pub passed : Passes (take count (front_digits (ahead old))) old new

short_length : (count : ℕ) (run : Run) (old new : Place) (s : IsShort count run old new)
    → length (take count (front_digits (ahead old))) ≡ run.end - run.start
short_length count run old new s = ap length (sym s.front) ∙ run_length new.text run s.is_run

short_value : (count : ℕ) (run : Run) (old new : Place) → IsShort count run old new → count ≤ 9
    → run.value ≡ number_of (take count (front_digits (ahead old)))
short_value count run old new s most =
    let ds : List ℕ = take count (front_digits (ahead old)) in
    let are = digits-take count (front_digits (ahead old)) (front_are_digits (ahead old)) in
    let short : length ds ≤ 9 = omega (arith, length-take count (front_digits (ahead old))) in
    let less = number_of-lt ds are in
    let power : 10 ^ length ds ≤ 10 ^ 9 = pow-le-pow_right {n = 10} (omega arith) {i = length ds} {j = 9} short in
    let P : List ℕ → Type 0 = λ l. Knows (10 ^ 18) run.value (number_of l) in
    small run.value (number_of ds) (subst P s.front s.is_run.value) (omega arith)

pub field_passed : (count lo hi : ℕ) (run : Run) (old new : Place) → IsShort count run old new → count ≤ 9 → run.end - run.start ≡ count
    → lo ≤ run.value → run.value ≤ hi
    → read_field count lo hi (ahead old) ≡ Some (run.value, ahead new)
field_passed count lo hi run old new s most all least bound =
    let ds : List ℕ = take count (front_digits (ahead old)) in
    let long : length ds ≡ count = short_length count run old new s ∙ all in
    let value = short_value count run old new s most in
    let split : ahead old ≡ ds ++ ahead new = s.passed.split in
    let taken : take count (ahead old) ≡ ds = ap (take count) split ∙ take_at ds (ahead new) count long in
    let left : drop count (ahead old) ≡ ahead new = ap (drop count) split ∙ drop_at ds (ahead new) count long in
    let enough : count ≤ length (ahead old) = omega (
      arith,
      long,
      length-take count (front_digits (ahead old)),
      ap length split,
      length-append ds (ahead new),
    ) in
    let are : AreDigits (take count (ahead old)) = rw taken (digits-take count (front_digits (ahead old)) (front_are_digits (ahead old))) in
    let number : run.value ≡ number_of (take count (ahead old)) = value ∙ ap number_of (sym taken) in
    field_some count lo hi (ahead old) enough are (omega (arith, number)) (omega (arith, number)) ∙ rw (left, sym number) refl

pub field_missing : (count lo hi : ℕ) (run : Run) (old new : Place) → IsShort count run old new → count ≤ 9
    → (run.end - run.start ≡ count → lo ≤ run.value → run.value ≤ hi → ⊥) → read_field count lo hi (ahead old) ≡ None
field_missing count lo hi run old new s most never =
    field_none count lo hi (ahead old) (λ is.
    let same = front_take count (ahead old) is.1 in
    let long : length (take count (front_digits (ahead old))) ≡ count = omega
    (arith, ap length same, length-take count (ahead old), is.0) in
    let value = short_value count run old new s most ∙ ap number_of same in
    never (sym (short_length count run old new s) ∙ long) (omega (arith, value, is.2)) (omega (arith, value, is.3)))

-- ---- milliseconds

millis_of_front : (fd : List ℕ) (n v : ℕ) → n ≡ length (take 3 fd) → v ≡ number_of (take 3 fd)
    → (n ≡ 0 → millis_of fd ≡ 0) × (n ≡ 1 → millis_of fd ≡ 100 * v) × (n ≡ 2 → millis_of fd ≡ 10 * v)
    × (n ≢ 0 → n ≢ 1 → n ≢ 2 → millis_of fd ≡ v)
unfolding millis_of
millis_of_front [] n v long value = (λ h. refl, λ h. absurd (omega arith), λ h. absurd (omega arith), λ h k l. absurd (h long))
millis_of_front (a ∷ []) n v long value = (λ h. absurd (omega arith), λ h. omega arith, λ h. absurd (omega arith), λ h k l. absurd (k long))
millis_of_front (a ∷ b ∷ []) n v long value = (
  λ h. absurd (omega arith),
  λ h. absurd (omega arith),
  λ h. omega arith,
  λ h k l. absurd
      (l long),
)
millis_of_front (a ∷ b ∷ c ∷ fd) n v long value = (
  λ h. absurd (omega arith),
  λ h. absurd (omega arith),
  λ h. absurd (omega arith),
  λ h k l. sym value,
)

pub millis_passed : (run : Run) (old new : Place) → IsShort 3 run old new
    → let n = run.end - run.start in let m = millis_of (front_digits (ahead old)) in
    (n ≡ 0 → m ≡ 0) × (n ≡ 1 → m ≡ 100 * run.value) × (n ≡ 2 → m ≡ 10 * run.value) × (n ≢ 0 → n ≢ 1 → n ≢ 2 → m ≡ run.value)
millis_passed run old new s = millis_of_front (front_digits (ahead old)) (run.end - run.start) run.value
    (sym (short_length 3 run old new s)) (short_value 3 run old new s (omega arith))

-- ---- counts

pub peek_number : (bytes : List ℕ) (n : ℕ) → number_in (front_digits bytes) ≡ Some n → peek bytes ≡ with_letter n (after_digits bytes)
unfolding peek
peek_number bytes n h = rw h refl

pub peek_none : (bytes : List ℕ) → number_in (front_digits bytes) ≡ None → peek bytes ≡ None
unfolding peek
peek_none bytes h = rw h refl

other_if : (b unit : ℕ) (t : Bool) → (b == unit) ≡ t → Some b ≢ Some unit → t ≡ false
other_if b unit true h other = absurd (other (ap (λ (x : ℕ). Some x) (eqb-true b unit h)))
other_if b unit false h other = refl

pub other_byte : (b unit : ℕ) → Some b ≢ Some unit → (b == unit) ≡ false
other_byte b unit h = other_if b unit (b == unit) refl h

-- the number of the digits of a run that a scan passed
pub behind_number : (run : Run) (place : Place) (o : Option ℕ) → IsBehind run place → number_in (digits_of place.text run) ≡ o
    → number_in (front_digits (from_run place.text run)) ≡ o
behind_number run place o b h = ap number_in (sym b.digits) ∙ h

pub count_taken : (unit : ℕ) (run : Run) (old mid : Place) (n : ℕ) → IsBehind run old → number_in (digits_of old.text run) ≡ Some n
    → Passes (unit ∷ []) old mid
    → read_perhaps unit (from_run old.text run) ≡ (n, ahead mid)
unfolding read_perhaps read_count
count_taken unit run old mid n b h p =
    let bytes : List ℕ = from_run old.text run in
    let rest : after_digits bytes ≡ unit ∷ ahead mid = sym b.rest ∙ p.split in
    rw (peek_number bytes n (behind_number run old (Some n) b h), rest, eq-eqb unit unit refl) refl

other_letter : (unit n : ℕ) (bytes rest : List ℕ) → peek bytes ≡ with_letter n rest → front_byte rest ≢ Some unit
    → read_perhaps unit bytes ≡ (0, bytes)
unfolding read_perhaps read_count
other_letter unit n bytes [] h other = rw h refl
other_letter unit n bytes (b ∷ bs) h other = rw (h, other_byte b unit other) refl

pub count_other : (unit : ℕ) (run : Run) (old : Place) (n : ℕ) → IsBehind run old → number_in (digits_of old.text run) ≡ Some n
    → front_byte (ahead old) ≢ Some unit
    → read_perhaps unit (from_run old.text run) ≡ (0, from_run old.text run)
count_other unit run old n b h other =
    let bytes : List ℕ = from_run old.text run in
    other_letter unit n bytes (ahead old) (peek_number bytes n (behind_number run old (Some n) b h) ∙ ap (with_letter n) (sym b.rest)) other

pub count_none : (unit : ℕ) (run : Run) (old : Place) → IsBehind run old → number_in (digits_of old.text run) ≡ None
    → read_perhaps unit (from_run old.text run) ≡ (0, from_run old.text run)
unfolding read_perhaps read_count
count_none unit run old b h = rw (peek_none (from_run old.text run) (behind_number run old None b h)) refl

-- ---- a field that may be left out

not_digit : (b : ℕ) → ((b ≡ 58) ⊎ (is_ascii_digit b ≡ true) → ⊥) → is_ascii_digit b ≡ false
not_digit b n = false_from_ne_true (is_ascii_digit b) (λ h. n (inr h))

not_colon : (b : ℕ) → ((b ≡ 58) ⊎ (is_ascii_digit b ≡ true) → ⊥) → (b == 58) ≡ false
not_colon b n = false_from_ne_true (b == 58) (λ h. n (inl (eqb-true b 58 h)))

pub no_field : (hi : ℕ) (bytes : List ℕ) → (BeginsField bytes → ⊥) → read_later hi bytes ≡ (0, bytes)
unfolding read_later
no_field hi [] n = rw (stops_later hi [] tt) refl
no_field hi (b ∷ bs) n = rw (stops_later hi (b ∷ bs) (not_digit b n, not_colon b n)) refl

-- where a colon or a digit is in front and no field, what is left isn't read by what follows
some_left : (bytes : List ℕ) → BeginsField bytes → bytes ≢ []
some_left [] b none = b
some_left (c ∷ cs) b none = cc

byte_test : (b c : ℕ) → (b ≡ 58) ⊎ (is_ascii_digit b ≡ true) → (58 == c) ≡ false → is_ascii_digit c ≡ false → (b == c) ≡ false
byte_test b c h k d = grind (arith, nat_tests)

stuck_fraction : (bytes : List ℕ) → BeginsField bytes → read_fraction bytes ≡ (0, bytes)
stuck_fraction [] b = refl
stuck_fraction (c ∷ cs) b = rw (byte_test c 46 b refl refl, byte_test c 44 b refl refl) refl

stuck_offset : (bytes : List ℕ) → BeginsField bytes → read_offset bytes ≡ ((pos 0, pos 0), bytes)
stuck_offset [] b = refl
stuck_offset (c ∷ cs) b = rw (byte_test c 90 b refl refl, byte_test c 45 b refl refl, byte_test c 43 b refl refl) refl

stuck_later : (hi : ℕ) (bytes : List ℕ) → IsStuck hi bytes → read_later hi bytes ≡ (0, bytes)
unfolding read_later
stuck_later hi bytes s = rw s.1 refl

pub signed_stuck : (negative : Bool) (bytes behind mid : List ℕ) (h : ℕ) → Some (h, mid) ≡ read_field 2 0 24 behind → IsStuck 59 mid
    → (read_signed negative bytes behind).1 ≢ []
unfolding read_signed
signed_stuck negative bytes behind mid h found s none =
    let hours : read_field 2 0 24 behind ≡ Some (h, mid) = sym found in
    let left : (read_signed negative bytes behind).1 ≡ mid = rw (hours, stuck_later 59 mid s) refl in
    some_left mid s.0 (sym left ∙ none)

pub time_stuck : (bytes one two : List ℕ) (h m : ℕ) → Some (h, one) ≡ read_field 2 0 24 bytes → Some (m, two) ≡ read_marked 58 2 0 59 one
    → IsStuck 60 two → (t : Time) → read_time bytes ≢ Some (t, [])
unfolding read_time read_tail
time_stuck bytes one two h m p q s t whole =
    let hours : read_field 2 0 24 bytes ≡ Some (h, one) = sym p in
    let minutes : read_marked 58 2 0 59 one ≡ Some (m, two) = sym q in
    let read : read_time bytes ≡ Some (time_of h m (0, (0, (pos 0, pos 0))), two) = rw
    (hours, minutes, stuck_later 60 two s, stuck_fraction two s.0, stuck_offset two s.0) refl in
    some_left two s.0 (some_pair_parts _ _ _ _ (sym read ∙ whole)).1

-- ---- seconds

-- no digits were passed
pub none_passed : (run : Run) (place : Place) → IsBehind run place → run.start ≡ run.end → ahead place ≡ from_run place.text run
none_passed run place b same =
    let bytes : List ℕ = from_run place.text run in
    let long = run_length place.text run b.is_run in
    let none : front_digits bytes ≡ [] = sym b.digits ∙ nothing (digits_of place.text run) (omega (arith, same)) in
    b.rest ∙ ap (λ (l : List ℕ). l ++ after_digits bytes) (sym none) ∙ front_and_after bytes

-- some were
pub some_passed : (run : Run) (place : Place) → IsBehind run place → run.start ≢ run.end → from_run place.text run ≢ []
some_passed run place b apart none =
    let long = run_length place.text run b.is_run in
    let front : length (digits_of place.text run) ≡ 0 = ap length (b.digits ∙ ap front_digits none) in
    apart (omega (arith, b.is_run.order))

no_peek : (bytes : List ℕ) → peek bytes ≡ None → read_seconds bytes ≡ ((0, 0), bytes)
unfolding read_seconds
no_peek bytes h = rw h refl

pub seconds_none : (run : Run) (place : Place) → IsBehind run place → number_in (digits_of place.text run) ≡ None
    → read_seconds (from_run place.text run) ≡ ((0, 0), from_run place.text run)
seconds_none run place b h = no_peek (from_run place.text run) (peek_none (from_run place.text run) (behind_number run place None b h))

-- a number that was passed, and what follows it
pub peek_behind : (run : Run) (place : Place) (n : ℕ) → IsBehind run place → number_in (digits_of place.text run) ≡ Some n
    → peek (from_run place.text run) ≡ with_letter n (ahead place)
peek_behind run place n b h = peek_number (from_run place.text run) n (behind_number run place (Some n) b h)
    ∙ ap (with_letter n) (sym b.rest)

pub seconds_whole : (run : Run) (place new : Place) (n : ℕ) → IsBehind run place → number_in (digits_of place.text run) ≡ Some n
    → Passes (83 ∷ []) place new
    → read_seconds (from_run place.text run) ≡ ((n, 0), ahead new)
unfolding read_seconds
seconds_whole run place new n b h p = rw (peek_behind run place n b h, p.split) refl

other_seconds : (bytes rest : List ℕ) (n : ℕ) → peek bytes ≡ with_letter n rest → front_byte rest ≢ Some 83 → BeginsNoPoint rest
    → read_seconds bytes ≡ ((0, 0), bytes)
unfolding read_seconds
other_seconds bytes [] n h other point = rw h refl
other_seconds bytes (b ∷ bs) n h other point =
    rw (
      h,
      other_byte b 83 other,
      other_byte b 46 (λ e. point.0 (let same : b ≡ 46 = cc in same)),
      other_byte b 44 (λ e. point.1 (let same : b ≡ 44 = cc in same)),
    ) refl

pub seconds_other : (run : Run) (place : Place) (n : ℕ) → IsBehind run place → number_in (digits_of place.text run) ≡ Some n
    → front_byte (ahead place) ≢ Some 83 → BeginsNoPoint (ahead place)
    → read_seconds (from_run place.text run) ≡ ((0, 0), from_run place.text run)
seconds_other run place n b h other point = other_seconds (from_run place.text run) (ahead place) n
    (peek_behind run place n b h) other point

pointed_seconds : (bytes front rest : List ℕ) (n ms : ℕ) → peek bytes ≡ with_letter n front → IsPointed front ms rest
    → read_seconds bytes ≡ closed_by bytes (n, ms) (read_mark 83 rest)
unfolding read_seconds
pointed_seconds bytes [] rest n ms h p = absurd p
pointed_seconds bytes (b ∷ bs) rest n ms h (inl point, millis, left) = rw (h, point, millis, left) refl
pointed_seconds bytes (b ∷ bs) rest n ms h (inr comma, millis, left) = rw (h, comma, millis, left) refl

pub seconds_closed : (run : Run) (place mid new : Place) (n ms : ℕ) → IsBehind run place → number_in (digits_of place.text run) ≡ Some n
    → IsPointed (ahead place) ms (ahead mid) → Passes (83 ∷ []) mid new
    → read_seconds (from_run place.text run) ≡ ((n, ms), ahead new)
seconds_closed run place mid new n ms b h point p =
    pointed_seconds (from_run place.text run) (ahead place) (ahead mid) n ms (peek_behind run place n b h) point ∙ rw p.split refl

no_mark : (rest : List ℕ) → front_byte rest ≢ Some 83 → read_mark 83 rest ≡ None
no_mark [] other = refl
no_mark (b ∷ bs) other = rw (other_byte b 83 other) refl

pub seconds_open : (run : Run) (place mid : Place) (n ms : ℕ) → IsBehind run place → number_in (digits_of place.text run) ≡ Some n
    → IsPointed (ahead place) ms (ahead mid) → front_byte (ahead mid) ≢ Some 83
    → read_seconds (from_run place.text run) ≡ ((0, 0), from_run place.text run)
seconds_open run place mid n ms b h point other =
    pointed_seconds (from_run place.text run) (ahead place) (ahead mid) n ms (peek_behind run place n b h) point
    ∙ rw (no_mark (ahead mid) other) refl

-- what is read with all of the bytes left leaves something
pub left_over : (bytes : List ℕ) → bytes ≢ [] → read_seconds bytes ≡ ((0, 0), bytes) → (read_seconds bytes).1 ≢ []
left_over bytes some h none = some (sym (ap (λ (r : (ℕ × ℕ) × List ℕ). r.1) h) ∙ none)
