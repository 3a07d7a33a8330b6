-- A number that stands in front is read, and what is read is a number.
use Rattle.std.proofs.Common.{◌≡◌, ℕ, ◌+◌, ◌<◌, ◌&&◌, ◌==◌, Bool, true, false, cond, nat_lt, List, [], ◌∷◌, ◌++◌, length, Some, refl, sym}
use Rattle.std.proofs.Common.{◌∙◌, ap, subst, append_assoc, arith, inl, inr, codes}
use Rattle.std.proofs.lemmas.Bool.{ltb-true, eqb-true, and_parts}
use Rattle.std.specs.Char.{digit_value}
use Rattle.std.proofs.lemmas.Str.Parse.{digit_from_value}
use Rattle.std.proofs.lemmas.Bool.Decides.{nat_tests}
use Rattle.std.proofs.lemmas.Option.{cond_some}
use Rattle.scan_core.specs.Digits.{AreDigits}
use Rattle.scan_core.specs.Number.{IsSign, IsFraction, IsNumber}
use Rattle.scan_core.specs.Fronts.{NoDigitFirst, front_digits, after_digits}
use Rattle.scan_core.proofs.FrontFacts.{front_of, after_of, front_are_digits, front_and_after}
use Rattle.pg_interval_2.specs.inside.Reading.{Numeral, read_sign, read_fraction, read_unsigned, read_number}

-- the text doesn't begin with a point
abbrev pub NoPointFirst : List ℕ → Type 0
NoPointFirst [] = Unit {0}
NoPointFirst (b ∷ bs) = (b == 46) ≡ false

no_fraction : (rest : List ℕ) → NoPointFirst rest → read_fraction rest ≡ ([], rest)
no_fraction [] p = refl
no_fraction (b ∷ bs) p = rw p refl

-- the fraction that stands in front is read
pub fraction_of : (fraction tail rest : List ℕ) → IsFraction fraction tail → NoDigitFirst rest → NoPointFirst rest
    → read_fraction (tail ++ rest) ≡ (fraction, rest)
fraction_of fraction tail rest (inl none) d p = rw (none.1, none.0) (no_fraction rest p)
fraction_of fraction tail rest (inr some) d p = rw some.1 (rw (front_of fraction rest some.0 d, after_of fraction rest some.0 d) refl)

fraction_if : (t : Bool) (b : ℕ) (bs : List ℕ) → (t ≡ true → b ≡ 46)
    → (tail : List ℕ)
    × IsFraction (cond {A = List ℕ × List ℕ} t (front_digits bs, after_digits bs) ([], b ∷ bs)).0 tail
    × (b ∷ bs ≡ tail ++ (cond {A = List ℕ × List ℕ} t (front_digits bs, after_digits bs) ([], b ∷ bs)).1)
fraction_if true b bs point =
    let split = front_and_after bs in
    (46 ∷ front_digits bs, inr (front_are_digits bs, refl), let here : b ≡ 46 = point refl in rw (here, split) refl)
fraction_if false b bs point = ([], inl (refl, refl), refl)

-- what is read as a fraction is one
pub is_fraction : (bytes : List ℕ) → (tail : List ℕ) × IsFraction (read_fraction bytes).0 tail × (bytes ≡ tail ++ (read_fraction bytes).1)
is_fraction [] = ([], inl (refl, refl), refl)
is_fraction (b ∷ bs) = fraction_if (b == 46) b bs (eqb-true b 46)

-- the text doesn't begin with a sign
abbrev pub NoSignFirst : List ℕ → Type 0
NoSignFirst [] = Unit {0}
NoSignFirst (b ∷ bs) = ((b == 45) ≡ false) × ((b == 43) ≡ false)

no_sign : (plus : Bool) (rest : List ℕ) → NoSignFirst rest → read_sign plus rest ≡ (false, rest)
no_sign plus [] h = refl
no_sign true (b ∷ bs) h = rw (h.0, h.1) refl
no_sign false (b ∷ bs) h = rw h.0 refl

pub sign_of : (plus negative : Bool) (sign rest : List ℕ) → IsSign plus negative sign → NoSignFirst rest
    → read_sign plus (sign ++ rest) ≡ (negative, rest)
sign_of plus true sign rest h n = rw h refl
sign_of plus false sign rest (inl none) n = rw none (no_sign plus rest n)
sign_of plus false sign rest (inr some) n = rw (some.1, some.0) refl

-- a number's digits and point begin with no sign
digit_no_sign : (c : ℕ) → digit_value c < 10 → ((c == 45) ≡ false) × ((c == 43) ≡ false)
digit_no_sign c h = let r = digit_from_value c h in grind (arith, nat_tests)

tail_no_sign : (fraction tail rest : List ℕ) → IsFraction fraction tail → 0 < length fraction → NoSignFirst (tail ++ rest)
tail_no_sign fraction tail rest (inl none) some = absurd (let e = ap (λ (l : List ℕ). length l) none.0 in omega (arith, e))
tail_no_sign fraction tail rest (inr point) some = rw point.1 (refl, refl)

pub digits_no_sign : (whole fraction tail rest : List ℕ) → AreDigits whole → IsFraction fraction tail → 0 < length whole + length fraction
    → NoSignFirst (whole ++ (tail ++ rest))
digits_no_sign [] fraction tail rest d f some = tail_no_sign fraction tail rest f (omega arith)
digits_no_sign (c ∷ cs) fraction tail rest d f some = digit_no_sign c d.0

-- what follows the whole digits begins with no digit
pub tail_no_digit : (fraction tail rest : List ℕ) → IsFraction fraction tail → NoDigitFirst rest → NoDigitFirst (tail ++ rest)
tail_no_digit fraction tail rest (inl none) d = rw none.1 d
tail_no_digit fraction tail rest (inr point) d = rw point.1 refl

finds_unsigned : (negative : Bool) (whole fraction tail rest : List ℕ) → AreDigits whole → IsFraction fraction tail
    → 0 < length whole + length fraction → NoDigitFirst rest → NoPointFirst rest
    → read_unsigned negative (whole ++ (tail ++ rest)) ≡ Some (record { negative = negative; whole = whole; fraction = fraction }, rest)
unfolding read_unsigned
finds_unsigned negative whole fraction tail rest digits point some d p =
    let no_digit = tail_no_digit fraction tail rest point d in
    let front = front_of whole (tail ++ rest) digits no_digit in
    let after = after_of whole (tail ++ rest) digits no_digit in
    let behind = fraction_of fraction tail rest point d p in
    let counted : nat_lt 0 (length whole + length fraction) ≡ true = grind (arith, nat_tests) in
    rw (front, after, behind, counted) refl

-- a number in front, which no further digit and no point follows, is read
pub finds_number : (plus negative : Bool) (whole fraction word rest : List ℕ) → IsNumber plus negative whole fraction word
    → NoDigitFirst rest → NoPointFirst rest
    → read_number plus (word ++ rest) ≡ Some (record { negative = negative; whole = whole; fraction = fraction }, rest)
unfolding read_number
finds_number plus negative whole fraction word rest h d p =
    let body = whole ++ (h.tail ++ rest) in
    let split : word ++ rest ≡ h.sign ++ body = ap (λ (l : List ℕ). l ++ rest) h.joined ∙ append_assoc h.sign (whole ++ h.tail) rest
    ∙ ap (λ (l : List ℕ). h.sign ++ l) (append_assoc whole h.tail rest) in
    let signed = sign_of plus negative h.sign body h.signed (digits_no_sign whole fraction h.tail rest h.digits h.point h.some) in
    let sign : read_sign plus (word ++ rest) ≡ (negative, body) = ap (read_sign plus) split ∙ signed in
    rw sign (finds_unsigned negative whole fraction h.tail rest h.digits h.point h.some d p)

-- a sign, as tests for a minus and a plus choose it, or the default where neither passes
pub sign_if : (Is : Bool → List ℕ → Type 0) (t u default : Bool) (b : ℕ) (bs : List ℕ) → Is true (codes "-")
    → (u ≡ true → Is false (codes "+")) → Is default [] → (t ≡ true → b ≡ 45) → (u ≡ true → b ≡ 43)
    → (sign : List ℕ)
    × Is (cond {A = Bool × List ℕ} t (true, bs) (cond u (false, bs) (default, b ∷ bs))).0 sign
    × (b ∷ bs ≡ sign ++ (cond {A = Bool × List ℕ} t (true, bs) (cond u (false, bs) (default, b ∷ bs))).1)
sign_if Is true u default b bs minus plus none is_minus is_plus = (codes "-", minus, let here = is_minus refl in rw here refl)
sign_if Is false true default b bs minus plus none is_minus is_plus = (codes "+", plus refl, let here = is_plus refl in rw here refl)
sign_if Is false false default b bs minus plus none is_minus is_plus = ([], none, refl)

pub is_sign : (plus : Bool) (bytes : List ℕ)
    → (sign : List ℕ) × IsSign plus (read_sign plus bytes).0 sign × (bytes ≡ sign ++ (read_sign plus bytes).1)
is_sign plus [] = ([], inl refl, refl)
is_sign plus (b ∷ bs) =
    sign_if (IsSign plus) (b == 45) (plus && b == 43) false b bs refl (λ h. inr ((and_parts plus (b == 43) h).0, refl)) (inl refl)
    (eqb-true b 45) (λ h. eqb-true b 43 (and_parts plus (b == 43) h).1)

-- what is read behind a sign
pub record IsUnsigned (negative : Bool) (bytes : List ℕ) (n : Numeral) (rest : List ℕ) : Type 0 where
  pub tail : List ℕ
  pub sign : n.negative ≡ negative
  pub digits : AreDigits n.whole
  pub point : IsFraction n.fraction tail
  pub some : 0 < length n.whole + length n.fraction
  pub joined : bytes ≡ (n.whole ++ tail) ++ rest

is_unsigned : (negative : Bool) (bytes : List ℕ) (n : Numeral) (rest : List ℕ) → read_unsigned negative bytes ≡ Some (n, rest)
    → IsUnsigned negative bytes n rest
unfolding read_unsigned
is_unsigned negative bytes n rest h =
    let found = cond_some _ _ _ h in
    let behind = is_fraction (after_digits bytes) in
    let whole = front_digits bytes in
    let split : bytes ≡ (whole ++ behind.0) ++ (read_fraction (after_digits bytes)).1 =
    sym (front_and_after bytes) ∙ ap (λ (l : List ℕ). whole ++ l) behind.2
    ∙ sym (append_assoc whole behind.0 (read_fraction (after_digits bytes)).1) in
    let P : Numeral × List ℕ → Type 0 = λ p. IsUnsigned negative bytes p.0 p.1 in
    subst P found.1 (record {
      tail = behind.0;
      sign = refl;
      digits = front_are_digits bytes;
      point = behind.1;
      some = ltb-true 0 _ found.0;
      joined = split;
    })

-- what is read is a number
pub is_number : (plus : Bool) (bytes : List ℕ) (n : Numeral) (rest : List ℕ) → read_number plus bytes ≡ Some (n, rest)
    → (word : List ℕ) × IsNumber plus n.negative n.whole n.fraction word × (bytes ≡ word ++ rest)
unfolding read_number
is_number plus bytes n rest h =
    let sign = is_sign plus bytes in
    let body = is_unsigned (read_sign plus bytes).0 (read_sign plus bytes).1 n rest h in
    let split : bytes ≡ (sign.0 ++ (n.whole ++ body.tail)) ++ rest = sign.2 ∙ ap (λ (l : List ℕ). sign.0 ++ l) body.joined
    ∙ sym (append_assoc sign.0 (n.whole ++ body.tail) rest) in
    let P : Bool → Type 0 = λ b. IsSign plus b sign.0 in (
      sign.0 ++ (n.whole ++ body.tail),
      record {
        sign = sign.0;
        tail = body.tail;
        signed = subst P (sym body.sign) sign.1;
        digits = body.digits;
        point = body.point;
        some = body.some;
        joined = refl;
      },
      split,
    )
