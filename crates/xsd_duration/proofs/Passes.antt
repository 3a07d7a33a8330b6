-- One pass over a text finds the numbers of the spelling that reading count by count finds.
use Rattle.std.proofs.Common.{◌≡◌, ℕ, ◌==◌, Bool, true, false, cond, List, [], ◌∷◌, ◌++◌, Option, Some, None, refl, subst}
use Rattle.std.specs.Prelude.{option_and_then, option_map}
use Rattle.std.proofs.lemmas.Bool.{eqb-true}
use Rattle.std.specs.Char.{is_ascii_digit}
use Rattle.scan_core.specs.Fronts.{front_digits, after_digits}
use Rattle.scan_core.specs.Shares.{rounded}
use Rattle.scan_core.proofs.FrontFacts.{front_and_after}
use Rattle.scan_core.proofs.RoundingFacts.{rounded-nil}
use Rattle.xsd_duration.specs.declared.reading.Clock.{Clock as Numbered}
use Rattle.xsd_duration.specs.declared.reading.Numbers.{Numbers}
use Rattle.xsd_duration.specs.inside.Fronts.{Front, clock_counted, clock_left, clock_made, counted, counts_counted, front_in}
use Rattle.xsd_duration.specs.inside.Fronts.{fraction_counted, fraction_left}
use Rattle.xsd_duration.specs.inside.Fronts.{numbers_made, seconds_counted, seconds_left, sign_split, taken, time_counted, unsigned_counted}
use Rattle.xsd_duration.specs.inside.Fronts.{body_counted}
use Rattle.xsd_duration.specs.inside.Numbers.{cut_number, numbers_of}
use Rattle.xsd_duration.specs.inside.Reading.{Clock, closed_by, fraction_in, is_letter}
use Rattle.xsd_duration.specs.inside.Reading.{read_body, read_clock, read_count, read_counts, read_fraction}
use Rattle.xsd_duration.specs.inside.Reading.{read_seconds, read_spelling, read_time, read_unsigned, seconds_in, spelled}

-- no digits are the number 0
cut-nil : cut_number [] ≡ 0
unfolding cut_number
cut-nil = refl

front_is : (bytes digits rest : List ℕ) → front_digits bytes ≡ digits → after_digits bytes ≡ rest
    → front_in bytes ≡ (cut_number digits, (digits, rest))
unfolding front_in
front_is bytes digits rest f a = rw (f, a) refl

-- ---- a count

-- a count in lists, with its number and what is in front behind it
abbrev number_and_front : List ℕ × List ℕ → ℕ × Front
number_and_front r = (cut_number r.0, front_in r.1)

none_taken : (letter : ℕ) (bytes digits rest : List ℕ) → front_digits bytes ≡ digits → after_digits bytes ≡ rest
    → (0, (cut_number digits, (digits, rest))) ≡ number_and_front ([], bytes)
none_taken letter bytes digits rest f a = rw (front_is bytes digits rest f a, cut-nil) refl

taken_if : (t : Bool) (letter d b : ℕ) (bytes ds bs : List ℕ) → front_digits bytes ≡ d ∷ ds → after_digits bytes ≡ b ∷ bs
    → cond {A = ℕ × Front} t (cut_number (d ∷ ds), front_in bs) (0, (cut_number (d ∷ ds), (d ∷ ds, b ∷ bs)))
    ≡ number_and_front (cond {A = List ℕ × List ℕ} t (d ∷ ds, bs) ([], bytes))
taken_if true letter d b bytes ds bs f a = refl
taken_if false letter d b bytes ds bs f a = none_taken letter bytes (d ∷ ds) (b ∷ bs) f a

taken_is : (letter : ℕ) (bytes digits rest : List ℕ) → front_digits bytes ≡ digits → after_digits bytes ≡ rest
    → taken letter (cut_number digits) digits rest ≡ number_and_front (closed_by letter bytes digits rest)
taken_is letter bytes [] rest f a = none_taken letter bytes [] rest f a
taken_is letter bytes (d ∷ ds) [] f a = none_taken letter bytes (d ∷ ds) [] f a
taken_is letter bytes (d ∷ ds) (b ∷ bs) f a = taken_if (b == letter) letter d b bytes ds bs f a

counted_is : (letter : ℕ) (bytes : List ℕ) → counted letter (front_in bytes) ≡ number_and_front (read_count letter bytes)
unfolding front_in read_count
counted_is letter bytes = taken_is letter bytes (front_digits bytes) (after_digits bytes) refl refl

-- ---- seconds

abbrev fraction_numbers : List ℕ × List ℕ → ℕ × List ℕ
fraction_numbers r = (rounded 1_000_000 r.0, r.1)

no_fraction : (bytes : List ℕ) → (0, bytes) ≡ fraction_numbers ([], bytes)
no_fraction bytes = rw (rounded-nil 1_000_000) refl

fraction_left_is : (bytes digits rest : List ℕ) → fraction_left bytes digits rest ≡ fraction_numbers (fraction_in bytes digits rest)
fraction_left_is bytes [] rest = no_fraction bytes
fraction_left_is bytes (d ∷ ds) rest = refl

fraction_if : (t : Bool) (b : ℕ) (bs : List ℕ)
    → cond {A = ℕ × List ℕ} t (fraction_left (b ∷ bs) (front_digits bs) (after_digits bs)) (0, b ∷ bs)
    ≡ fraction_numbers (cond {A = List ℕ × List ℕ} t (fraction_in (b ∷ bs) (front_digits bs) (after_digits bs)) ([], b ∷ bs))
fraction_if true b bs = fraction_left_is (b ∷ bs) (front_digits bs) (after_digits bs)
fraction_if false b bs = no_fraction (b ∷ bs)

fraction_is : (bytes : List ℕ) → fraction_counted bytes ≡ fraction_numbers (read_fraction bytes)
unfolding fraction_counted front_in read_fraction
fraction_is [] = no_fraction []
fraction_is (b ∷ bs) = fraction_if (b == 46) b bs

abbrev second_numbers : List ℕ × List ℕ → ℕ × ℕ
second_numbers r = (cut_number r.0, rounded 1_000_000 r.1)

seconds_if : (t : Bool) (d : ℕ) (ds fraction : List ℕ)
    → cond {A = Option (ℕ × ℕ)} t (Some (cut_number (d ∷ ds), rounded 1_000_000 fraction)) None
    ≡ option_map second_numbers (cond {A = Option (List ℕ × List ℕ)} t (Some (d ∷ ds, fraction)) None)
seconds_if true d ds fraction = refl
seconds_if false d ds fraction = refl

seconds_left_is : (b : ℕ) (bs digits rest : List ℕ) → digits ++ rest ≡ b ∷ bs
    → seconds_left (cut_number digits) digits rest ≡ option_map second_numbers (seconds_in digits (read_fraction rest))
seconds_left_is b bs [] [] h = cc
seconds_left_is b bs [] (c ∷ cs) h = refl
seconds_left_is b bs (d ∷ ds) rest h = rw (fraction_is rest) (seconds_if (is_letter 83 (read_fraction rest).1) d ds (read_fraction rest).0)

no_seconds : Some (0, 0) ≡ Some (second_numbers ([], []))
no_seconds = rw (cut-nil, rounded-nil 1_000_000) refl

seconds_are : (bytes : List ℕ) → seconds_counted (front_in bytes) ≡ option_map second_numbers (read_seconds bytes)
unfolding front_in read_seconds
seconds_are [] = no_seconds
seconds_are (b ∷ bs) =
    seconds_left_is b bs (front_digits (b ∷ bs)) (after_digits (b ∷ bs)) (front_and_after (b ∷ bs))

-- ---- a clock

abbrev clock_numbers : Clock → Numbered
clock_numbers c = clock_made (cut_number c.0) (cut_number c.1.0) (second_numbers c.1.1)

made_is : (h m : List ℕ) (s : Option (List ℕ × List ℕ))
    → option_and_then (λ r. Some (clock_made (cut_number h) (cut_number m) r)) (option_map second_numbers s)
    ≡ option_map clock_numbers (option_and_then (λ r. Some (h, (m, r))) s)
made_is h m None = refl
made_is h m (Some r) = refl

time_is : (bytes : List ℕ) → time_counted bytes ≡ option_map clock_numbers (read_time bytes)
unfolding time_counted read_time
time_is bytes =
    let hour = read_count 72 bytes in
    let minute = read_count 77 hour.1 in
    rw (counted_is 72 bytes, counted_is 77 hour.1, seconds_are minute.1) (made_is hour.0 minute.0 (read_seconds minute.1))

time_if : (t : Bool) (bytes : List ℕ) → cond {A = Option Numbered} t (time_counted bytes) None
    ≡ option_map clock_numbers (cond {A = Option Clock} t (read_time bytes) None)
time_if true bytes = time_is bytes
time_if false bytes = refl

no_clock : Some (clock_made 0 0 (0, 0)) ≡ Some (clock_numbers ([], ([], ([], []))))
no_clock = rw (cut-nil, rounded-nil 1_000_000) refl

-- a digit is no `T`
not_marked : (b : ℕ) (t : Bool) → is_ascii_digit b ≡ true → (b == 84) ≡ t → t ≡ false
not_marked b true digit is = let e : false ≡ true = subst (λ (c : ℕ). is_ascii_digit c ≡ true) (eqb-true b 84 is) digit in cc
not_marked b false digit is = refl

clock_if : (t : Bool) (b : ℕ) (bs : List ℕ) → is_ascii_digit b ≡ t
    → clock_left (cond t (b ∷ front_digits bs) []) (cond t (after_digits bs) (b ∷ bs)) ≡ option_map clock_numbers (read_clock (b ∷ bs))
clock_if true b [] digit = refl
clock_if true b (c ∷ cs) digit = rw (not_marked b (b == 84) digit refl) refl
clock_if false b [] digit = refl
clock_if false b (c ∷ cs) digit = time_if (b == 84) (c ∷ cs)

clock_is : (bytes : List ℕ) → clock_counted (front_in bytes) ≡ option_map clock_numbers (read_clock bytes)
unfolding front_in
clock_is [] = no_clock
clock_is (b ∷ bs) = clock_if (is_ascii_digit b) b bs refl

-- ---- all counts

all_made : (negative : Bool) (y m d : List ℕ) (c : Option Clock)
    → option_and_then (λ r. Some (numbers_made negative (cut_number y) (cut_number m) (cut_number d) r)) (option_map clock_numbers c)
    ≡ option_map numbers_of (option_and_then (λ r. Some (spelled negative y m d r)) c)
all_made negative y m d None = refl
all_made negative y m d (Some r) = refl

counts_are : (negative : Bool) (bytes : List ℕ) → counts_counted negative bytes ≡ option_map numbers_of (read_counts negative bytes)
unfolding counts_counted read_counts
counts_are negative bytes =
    let year = read_count 89 bytes in
    let month = read_count 77 year.1 in
    let day = read_count 68 month.1 in
    rw (counted_is 89 bytes, counted_is 77 year.1, counted_is 68 month.1, clock_is day.1)
    (all_made negative year.0 month.0 day.0 (read_clock day.1))

body_is : (negative : Bool) (bytes : List ℕ) → body_counted negative bytes ≡ option_map numbers_of (read_body negative bytes)
body_is negative [] = refl
body_is negative (b ∷ bs) = counts_are negative (b ∷ bs)

unsigned_if : (t negative : Bool) (bs : List ℕ) → cond {A = Option Numbers} t (body_counted negative bs) None
    ≡ option_map numbers_of (cond t (read_body negative bs) None)
unsigned_if true negative bs = body_is negative bs
unsigned_if false negative bs = refl

unsigned_is : (negative : Bool) (bytes : List ℕ)
    → unsigned_counted negative bytes ≡ option_map numbers_of (read_unsigned negative bytes)
unsigned_is negative [] = refl
unsigned_is negative (b ∷ bs) = unsigned_if (b == 80) negative bs

signed_if : (t : Bool) (b : ℕ) (bs : List ℕ)
    → (let r = cond {A = Bool × List ℕ} t (true, bs) (false, b ∷ bs) in unsigned_counted r.0 r.1)
    ≡ option_map numbers_of (cond t (read_unsigned true bs) (read_unsigned false (b ∷ bs)))
signed_if true b bs = unsigned_is true bs
signed_if false b bs = unsigned_is false (b ∷ bs)

-- the numbers of the whole text
pub numbers_are : (text : List ℕ)
    → unsigned_counted (sign_split text).0 (sign_split text).1 ≡ option_map numbers_of (read_spelling text)
unfolding read_spelling
numbers_are [] = unsigned_is false []
numbers_are (b ∷ bs) = signed_if (b == 45) b bs
