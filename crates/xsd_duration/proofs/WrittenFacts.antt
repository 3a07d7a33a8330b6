-- What the writer appends is the text of the written spelling.
use Rattle.std.proofs.Common.{◌≡◌, ◌≢◌, ℕ, zero, suc, ◌/◌, ◌%◌, ◌<◌, ◌≤◌, ◌^◌, ◌⊎◌, ◌==◌, ◌&&◌, not, Bool, true, false, cond, List, [], ◌∷◌}
use Rattle.std.proofs.Common.{◌++◌, length, codes, decimal, refl, sym, ◌∙◌, ap, append_assoc, append-nil, arith, inl, inr}
use Rattle.std.proofs.lemmas.Bool.Decides.{nat_tests}
use Rattle.std.proofs.lemmas.Fmt.{decimal_nonempty, length-decimal-le}
use Rattle.scan_core.specs.Padded.{padded_digits, trimmed_digits}
use Rattle.scan_core.proofs.TrimmedFacts.{trimmed_nothing, trimmed_some}
use Rattle.xsd_duration.specs.Durations.{lettered_text, marked_text}
use Rattle.xsd_duration.specs.Written.{digits_of}
use Rattle.xsd_duration.specs.inside.Writing.{clock_part, date_part, fraction_part, number_part, seconds_part, time_part}

pub length_decimal_six : (n : ℕ) → n < 1_000_000 → length (decimal n) ≤ 6
length_decimal_six n small = length-decimal-le 6 n (omega arith) (omega arith) (omega arith)

-- ---- texts that aren't empty

pub some_text : (text : List ℕ) → 0 < length text → text ≢ []
some_text [] some none = omega arith
some_text (b ∷ bs) some none = cc

pub some_digits : (n : ℕ) → n < 2 ^ 64 → decimal n ≢ []
some_digits n fits = some_text (decimal n) (decimal_nonempty n fits)

marked_some : (mark text : List ℕ) → text ≢ [] → marked_text mark text ≡ mark ++ text
marked_some mark [] some = absurd (some refl)
marked_some mark (b ∷ bs) some = refl

count_some : (digits letter : List ℕ) → digits ≢ [] → lettered_text digits letter ≡ digits ++ letter
count_some [] letter some = absurd (some refl)
count_some (d ∷ ds) letter some = refl

pub none_left : (xs ys : List ℕ) → xs ++ ys ≡ [] → (xs ≡ []) × (ys ≡ [])
none_left [] ys h = (refl, h)
none_left (x ∷ xs) ys h = cc

pub no_count : (digits letter : List ℕ) → lettered_text digits letter ≡ [] → digits ≡ []
no_count [] letter h = refl
no_count (d ∷ ds) letter h = cc

some_front : (xs ys : List ℕ) → xs ≢ [] → xs ++ ys ≢ []
some_front xs ys some none = some (none_left xs ys none).0

-- ---- counts

digits_none : digits_of 0 ≡ []
digits_none = refl

pub digits_some : (n : ℕ) → n ≢ 0 → digits_of n ≡ decimal n
digits_some n some = let test : (n == 0) ≡ false = grind (arith, nat_tests) in rw test refl

zero_or_not : (n : ℕ) → (n ≡ 0) ⊎ (n ≢ 0)
zero_or_not zero = inl refl
zero_or_not (suc n) = inr (λ e. omega (arith, e))

pub digits_zero : (n : ℕ) → n < 2 ^ 64 → digits_of n ≡ [] → n ≡ 0
digits_zero n fits none =
    elim (zero_or_not n) [
      | inl is ↦ is
      | inr some ↦ absurd (some_digits n fits (sym (digits_some n some) ∙ none))
    ]

number_is : (n : ℕ) (letter : List ℕ) → n < 2 ^ 64 → number_part n letter ≡ lettered_text (digits_of n) letter
unfolding number_part
number_is n letter fits =
    elim (zero_or_not n) [
      | inl is ↦ rw is refl
      | inr some ↦
          let test : (n == 0) ≡ false = grind (arith, nat_tests) in
          rw test (sym (count_some (decimal n) letter (some_digits n fits)))
    ]

pub date_is : (months days : ℕ) → months < 2 ^ 64 → days < 2 ^ 64 → date_part months days
    ≡ lettered_text (digits_of (months / 12)) (codes "Y")
    ++ (lettered_text (digits_of (months % 12)) (codes "M") ++ lettered_text (digits_of days) (codes "D"))
unfolding date_part
date_is months days m d =
    rw (
      number_is (months / 12) (codes "Y") (omega (arith, m)),
      number_is (months % 12) (codes "M") (omega arith),
      number_is days (codes "D") d,
    ) refl

-- ---- a time

-- the digits of seconds, and the text of a time
abbrev pub second_digits : Bool → ℕ → ℕ → List ℕ
second_digits null seconds micros = cond {A = List ℕ} ((micros == 0) && not null) (digits_of seconds) (decimal seconds)

abbrev pub fraction_digits : ℕ → List ℕ
fraction_digits micros = trimmed_digits (padded_digits 6 micros)

abbrev pub second_text : Bool → ℕ → ℕ → List ℕ
second_text null seconds micros =
    lettered_text (second_digits null seconds micros ++ marked_text (codes ".") (fraction_digits micros)) (codes "S")

abbrev pub clock_text : Bool → ℕ → List ℕ
clock_text null micros =
    lettered_text (digits_of (micros / 3_600_000_000)) (codes "H")
    ++ (lettered_text (digits_of (micros / 60_000_000 % 60)) (codes "M")
    ++ second_text null (micros / 1_000_000 % 60) (micros % 1_000_000))

pub fraction_none : fraction_digits 0 ≡ []
fraction_none = trimmed_nothing 6

-- seconds without a fraction
whole_second : (digits : List ℕ) → lettered_text (digits ++ marked_text (codes ".") (fraction_digits 0)) (codes "S")
    ≡ lettered_text digits (codes "S")
whole_second digits = ap (λ (l : List ℕ). lettered_text (digits ++ marked_text (codes ".") l) (codes "S")) fraction_none
    ∙ ap (λ (l : List ℕ). lettered_text l (codes "S")) (append-nil digits)

whole : (null : Bool) (seconds : ℕ) → seconds < 60
    → cond {A = List ℕ} null (decimal seconds ++ codes "S") (number_part seconds (codes "S"))
    ≡ lettered_text (second_digits null seconds 0) (codes "S")
whole true seconds few = sym (count_some (decimal seconds) (codes "S") (some_digits seconds (omega (arith, few))))
whole false seconds few = number_is seconds (codes "S") (omega (arith, few))

seconds_is : (null : Bool) (seconds micros : ℕ) → seconds < 60 → micros < 1_000_000
    → seconds_part null seconds micros ≡ second_text null seconds micros
unfolding seconds_part fraction_part
seconds_is null seconds micros few small =
    elim (zero_or_not micros) [
      | inl is ↦ rw is (whole null seconds few ∙ sym (whole_second (second_digits null seconds 0)))
      | inr some ↦
          let test : (micros == 0) ≡ false = grind (arith, nat_tests) in
          let digits : List ℕ = decimal seconds in
          let fraction : List ℕ = fraction_digits micros in
          let there : fraction ≢ [] = some_text fraction (trimmed_some 6 micros (omega (arith, some)) (omega (arith, small))) in
          let front = some_digits seconds (omega (arith, few)) in
          let text : lettered_text (digits ++ marked_text (codes ".") fraction) (codes "S") ≡ digits ++ (codes "." ++ (fraction ++ codes "S")) =
          count_some (digits ++ marked_text (codes ".") fraction) (codes "S") (some_front digits (marked_text (codes ".") fraction) front)
          ∙ ap (λ (l : List ℕ). (digits ++ l) ++ codes "S") (marked_some (codes ".") fraction there)
          ∙ append_assoc digits (codes "." ++ fraction) (codes "S") in
          rw test (sym text)
    ]

clock_is : (null : Bool) (micros : ℕ) → micros < 2 ^ 64 → clock_part null micros ≡ clock_text null micros
unfolding clock_part
clock_is null micros fits =
    rw (
      number_is (micros / 3_600_000_000) (codes "H") (omega (arith, fits)),
      number_is (micros / 60_000_000 % 60) (codes "M") (omega arith),
      seconds_is null (micros / 1_000_000 % 60) (micros % 1_000_000) (omega arith) (omega arith),
    ) refl

false_right : (t : Bool) → (t && false) ≡ false
false_right true = refl
false_right false = refl

pub no_digits : (null : Bool) (seconds micros : ℕ) → seconds < 60 → second_digits null seconds micros ≡ []
    → (seconds ≡ 0) × (micros ≡ 0) × (null ≡ false)
no_digits true seconds micros few none =
    let test : ((micros == 0) && false) ≡ false = false_right (micros == 0) in
    absurd (some_digits seconds (omega (arith, few)) (sym (ap (λ (t : Bool). cond {A = List ℕ} t (digits_of seconds) (decimal seconds)) test)
    ∙ none))
no_digits false seconds micros few none =
    elim (zero_or_not micros) [
      | inl is ↦
          let digits : digits_of seconds ≡ [] =
          ap (λ (n : ℕ). cond {A = List ℕ} ((n == 0) && true) (digits_of seconds) (decimal seconds)) (sym is) ∙ none in
          (digits_zero seconds (omega (arith, few)) digits, is, refl)
      | inr some ↦
          let test : (micros == 0) ≡ false = grind (arith, nat_tests) in
          absurd (some_digits seconds (omega (arith, few))
          (sym (ap (λ (t : Bool). cond {A = List ℕ} (t && true) (digits_of seconds) (decimal seconds)) test) ∙ none))
    ]

-- no seconds are left out but where they and the microseconds are 0
pub no_seconds : (null : Bool) (seconds micros : ℕ) → seconds < 60 → micros < 1_000_000
    → second_text null seconds micros ≡ [] → (seconds ≡ 0) × (micros ≡ 0) × (null ≡ false)
no_seconds null seconds micros few small none =
    let digits = none_left (second_digits null seconds micros) (marked_text (codes ".") (fraction_digits micros))
    (no_count (second_digits null seconds micros ++ marked_text (codes ".") (fraction_digits micros)) (codes "S") none) in
    no_digits null seconds micros few digits.0

pub no_time : (null : Bool) (micros : ℕ) → micros < 2 ^ 64 → clock_text null micros ≡ [] → (micros ≡ 0) × (null ≡ false)
no_time null micros fits none =
    let hour = none_left (lettered_text (digits_of (micros / 3_600_000_000)) (codes "H"))
    (lettered_text (digits_of (micros / 60_000_000 % 60)) (codes "M")
    ++ second_text null (micros / 1_000_000 % 60) (micros % 1_000_000)) none in
    let minute = none_left (lettered_text (digits_of (micros / 60_000_000 % 60)) (codes "M"))
    (second_text null (micros / 1_000_000 % 60) (micros % 1_000_000)) hour.1 in
    let second = no_seconds null (micros / 1_000_000 % 60) (micros % 1_000_000) (omega arith) (omega arith) minute.1 in
    let h = digits_zero (micros / 3_600_000_000) (omega (arith, fits)) (no_count (digits_of (micros / 3_600_000_000)) (codes "H") hour.0) in
    let m = digits_zero (micros / 60_000_000 % 60) (omega arith) (no_count (digits_of (micros / 60_000_000 % 60)) (codes "M") minute.0) in
    let s = second.0 in
    let u = second.1 in
    (omega (arith, h, m, s, u), second.2)

pub time_is : (null : Bool) (micros : ℕ) → micros < 2 ^ 64 → (null ≡ true → micros ≡ 0)
    → time_part null micros ≡ marked_text (codes "T") (clock_text null micros)
unfolding time_part
time_is true micros fits none =
    rw (none refl) (ap (λ (l : List ℕ). codes "T" ++ l) (clock_is true 0 (omega arith))
    ∙ sym (marked_some (codes "T") (clock_text true 0) (λ e. let n : true ≡ false = (no_time true 0 (omega arith) e).1 in cc)))
time_is false micros fits none =
    elim (zero_or_not micros) [
      | inl is ↦ rw is (sym (ap (λ (l : List ℕ). marked_text (codes "T") l) (whole_second [])))
      | inr some ↦
          let test : (micros == 0) ≡ false = grind (arith, nat_tests) in
          rw test (ap (λ (l : List ℕ). codes "T" ++ l) (clock_is false micros fits)
          ∙ sym (marked_some (codes "T") (clock_text false micros) (λ e. some (no_time false micros fits e).0)))
    ]
