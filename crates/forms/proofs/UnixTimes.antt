-- Unix time as a form: the parts of a text, what they are worth, and that a written text is read back.
use Rattle.std.proofs.Common.{◌≡◌, ℕ, zero, suc, ◌+◌, ◌-◌, ◌*◌, ◌/◌, ◌%◌, ◌^◌, ◌<◌, ◌≤◌, ◌==◌, Bool, true, false, cond, List, [], ◌∷◌, ◌++◌}
use Rattle.std.proofs.Common.{length, length-append, append-nil, Result, Ok, Err, codes, decimal, replicate}
use Rattle.std.proofs.Common.{refl, sym, ◌∙◌, ap, subst, inl, inr, arith}
use Rattle.std.specs.Prelude.{ℤ, pos, negsuc, unsigned_abs, nat_le}
use Rattle.std.proofs.Math.Nat.{pow-le-pow_right}
use Rattle.std.proofs.lemmas.Bool.{eqb-true}
use Rattle.std.proofs.lemmas.Bool.Decides.{nat_tests}
use Rattle.std.proofs.lemmas.Int.{ints}
use Rattle.std.proofs.lemmas.List.{nil_from_length}
use Rattle.std.proofs.lemmas.Str.{IsAscii-append}
use Rattle.std.proofs.lemmas.Str.Ascii.{IsAscii-cons, IsAscii-nil}
use Rattle.std.specs.Str.{IsAscii}
use Rattle.jiff.specs.Words.{IsWithin}
use Rattle.scan_core.specs.Digits.{AreDigits, number_of}
use Rattle.scan_core.specs.Fronts.{front_digits, after_digits, NoDigitFirst}
use Rattle.scan_core.specs.Number.{minus}
use Rattle.scan_core.specs.Padded.{padded_digits, trimmed_digits}
use Rattle.scan_core.specs.Shares.{signed}
use Rattle.scan_core.proofs.DigitFacts.{digit_is_alone, digits-append, digits-zeros, digits_decimal}
use Rattle.scan_core.proofs.DigitFacts.{number_of-append, number_of-decimal, number_of-lt, number_of-zeros}
use Rattle.scan_core.proofs.FrontFacts.{front_of, after_of, front_are_digits, front_and_after}
use Rattle.scan_core.proofs.PaddedFacts.{digits-padded, length-zeros, number_of-padded, padded_field}
use Rattle.scan_core.proofs.TrimmedFacts.{digits-trimmed, trimmed_fills, trimmed_some}
use Rattle.std.proofs.lemmas.Fmt.{IsAscii-from_digits, decimal_nonempty, length-decimal-le}
use Rattle.forms.specs.declared.cause.Cause.{Cause}
use Rattle.forms.specs.declared.cause.Cause.TheVariants.{Syntax, Range, Kind}
use Rattle.forms.specs.declared.form.Form.TheVariants.{Unix}
use Rattle.forms.specs.declared.value.Value.{Value}
use Rattle.forms.specs.declared.value.Value.TheVariants.{Instant}
use Rattle.forms.specs.Answers.{Is, ReadsBy}
use Rattle.forms.specs.Values.{IsWithinBounds}
use Rattle.forms.specs.form.Unix.{IsShortFraction, nine_digits, Spells, worth, held, fraction_text, magnitude_text, unix_text}
use Rattle.forms.specs.inside.Lawful.{Lawful}
use Rattle.forms.specs.inside.UnixParts.{minus_of, behind_minus}
use Rattle.forms.proofs.Lawful.{AreAscii, then_ok, same_ok, one_image, IsHeldBack, lawful_by}

-- ---- the minus in front

split_if : (t : Bool) (b : ℕ) (bs : List ℕ) → (t ≡ true → b ≡ 45) → b ∷ bs ≡ minus t ++ cond t bs (b ∷ bs)
split_if true b bs h = ap (λ (n : ℕ). n ∷ bs) (h refl)
split_if false b bs h = refl

split_is : (text : List ℕ) → text ≡ minus (minus_of text) ++ behind_minus text
split_is [] = refl
split_is (b ∷ bs) = split_if (b == 45) b bs (eqb-true b 45)

minus_found : (negative : Bool) (number : List ℕ) → minus_of number ≡ false
    → (minus_of (minus negative ++ number) ≡ negative) × (behind_minus (minus negative ++ number) ≡ number)
minus_found true number n = (refl, refl)
minus_found false [] n = (refl, refl)
minus_found false (b ∷ bs) n = (n, rw n refl)

digits_no_minus : (whole tail : List ℕ) → 0 < length whole → AreDigits whole → minus_of (whole ++ tail) ≡ false
digits_no_minus [] tail some d = absurd (omega arith)
digits_no_minus (b ∷ bs) tail some d = let is = digit_is_alone b d.0 in grind (arith, nat_tests)

-- ---- the fraction behind

point_no_digit : (fraction tail : List ℕ) → IsShortFraction fraction tail → NoDigitFirst tail
point_no_digit fraction tail (inl h) = subst NoDigitFirst (sym h.1) tt
point_no_digit fraction tail (inr h) = subst NoDigitFirst (sym h.2) refl

one_fraction : (f g tail : List ℕ) → IsShortFraction f tail → IsShortFraction g tail → f ≡ g
one_fraction f g tail (inl h) (inl k) = h.0 ∙ sym k.0
one_fraction f g tail (inl h) (inr k) = absurd (let e = sym h.1 ∙ k.2 in cc)
one_fraction f g tail (inr h) (inl k) = absurd (let e = sym k.1 ∙ h.2 in cc)
one_fraction f g tail (inr h) (inr k) = let e : codes "." ++ f ≡ codes "." ++ g = sym h.2 ∙ k.2 in cc

fraction_short : (fraction tail : List ℕ) → IsShortFraction fraction tail → length fraction ≤ 9
fraction_short fraction tail (inl h) = rw h.0 (omega arith)
fraction_short fraction tail (inr h) = h.0.1

fraction_digits : (fraction tail : List ℕ) → IsShortFraction fraction tail → AreDigits fraction
fraction_digits fraction tail (inl h) = subst AreDigits (sym h.0) tt
fraction_digits fraction tail (inr h) = h.1

-- ---- nine digits

nine_long : (fraction : List ℕ) → length fraction ≤ 9 → length (nine_digits fraction) ≡ 9
nine_long fraction short = omega (arith, length-append fraction (replicate (9 - length fraction) 48), length-zeros (9 - length fraction), short)

pub nine_small : (fraction : List ℕ) → AreDigits fraction → length fraction ≤ 9 → number_of (nine_digits fraction) < 10 ^ 9
nine_small fraction digits short =
    let long = nine_long fraction short in
    let zeros = digits-zeros (9 - length fraction) in
    rw long at (number_of-lt (nine_digits fraction) (digits-append fraction (replicate (9 - length fraction) 48) digits zeros))

whole_and_nine : (whole fraction : List ℕ) → length fraction ≤ 9
    → number_of (whole ++ nine_digits fraction) ≡ number_of whole * 10 ^ 9 + number_of (nine_digits fraction)
whole_and_nine whole fraction short = let long = nine_long fraction short in rw long at (number_of-append whole (nine_digits fraction))

-- digits and zeros behind them
number_filled : (ds : List ℕ) (k : ℕ) → number_of (ds ++ replicate k 48) ≡ number_of ds * 10 ^ k
number_filled ds k =
    let zeros : number_of (replicate k 48) ≡ 0 = ap number_of (sym (append-nil (replicate k 48))) ∙ number_of-zeros k [] in
    let long = length-zeros k in
    number_of-append ds (replicate k 48) ∙ rw (zeros, long) (omega arith)

pub scaled : (ds : List ℕ) → number_of ds * 10 ^ (9 - length ds) ≡ number_of (nine_digits ds)
scaled ds = sym (number_filled ds (9 - length ds))

-- ---- digits alone

alone : (ds : List ℕ) → AreDigits ds → (front_digits ds ≡ ds) × (after_digits ds ≡ [])
alone ds d = (
  ap front_digits (sym (append-nil ds)) ∙ front_of ds [] d tt,
  ap after_digits (sym (append-nil ds)) ∙ after_of ds [] d tt,
)

pub front_whole : (ds front rest : List ℕ) → front ≡ front_digits ds → rest ≡ after_digits ds → length rest ≡ 0 → front ≡ ds
front_whole ds front rest f r none =
    let nil = nil_from_length rest none in
    f ∙ sym (append-nil (front_digits ds)) ∙ ap (λ (l : List ℕ). front_digits ds ++ l) (sym nil ∙ r) ∙ front_and_after ds

abbrev pub AreNine : List ℕ → Type 0
AreNine digits = ((0 < length digits) × (length digits ≤ 9)) × AreDigits digits

pub not_none : (ds front : List ℕ) → front ≡ front_digits ds → length front ≡ 0 → AreNine ds → ⊥
not_none ds front f none h = let e = ap length (f ∙ (alone ds h.1).0) in absurd (let some = h.0.0 in omega (arith, e, none, some))

pub not_more : (ds rest : List ℕ) → rest ≡ after_digits ds → (length rest ≡ 0 → ⊥) → AreNine ds → ⊥
not_more ds rest r some h = some (ap length (r ∙ (alone ds h.1).1))

pub not_long : (ds front : List ℕ) → front ≡ front_digits ds → 9 < length front → AreNine ds → ⊥
not_long ds front f long h = let e = ap length (f ∙ (alone ds h.1).0) in absurd (let most = h.0.1 in omega (arith, e, long, most))

pub front_digits_are : (ds front : List ℕ) → front ≡ front_digits ds → AreDigits front
front_digits_are ds front f = subst AreDigits (sym f) (front_are_digits ds)

pub small_number : (ds : List ℕ) → AreDigits ds → length ds ≤ 9 → number_of ds < 10 ^ 9
small_number ds d short =
    let bound : 10 ^ length ds ≤ 10 ^ 9 = pow-le-pow_right {n = 10} (omega arith) short in
    omega (arith, number_of-lt ds d, bound)

-- ---- the parts of a text

pub record AreParts (text : List ℕ) (negative : Bool) (whole tail : List ℕ) : Type 0 where
  pub sign : negative ≡ minus_of text
  pub front : whole ≡ front_digits (behind_minus text)
  pub rest : tail ≡ after_digits (behind_minus text)

pub parts_of : (text number whole tail : List ℕ) (negative : Bool) → negative ≡ minus_of text → number ≡ behind_minus text
    → whole ≡ front_digits number → tail ≡ after_digits number → AreParts text negative whole tail
parts_of text number whole tail negative m n w t = record { sign = cc; front = cc; rest = cc }

spelled_parts : (text : List ℕ) (nanos : ℤ) (s : Spells text nanos) → AreParts text s.negative s.whole s.tail
spelled_parts text nanos s =
    let found = minus_found s.negative (s.whole ++ s.tail) (digits_no_minus s.whole s.tail s.some s.digits) in
    let behind : behind_minus text ≡ s.whole ++ s.tail = ap behind_minus s.joined ∙ found.1 in
    let none = point_no_digit s.fraction s.tail s.point in
    record {
      sign = sym (ap minus_of s.joined ∙ found.0);
      front = sym (ap front_digits behind ∙ front_of s.whole s.tail s.digits none);
      rest = sym (ap after_digits behind ∙ after_of s.whole s.tail s.digits none);
    }

by_parts : (text : List ℕ) (nanos : ℤ) (s : Spells text nanos)
    → nanos ≡ signed (minus_of text) (number_of (front_digits (behind_minus text) ++ nine_digits s.fraction))
by_parts text nanos s =
    let p = spelled_parts text nanos s in
    s.value ∙ ap (λ (n : Bool). signed n (number_of (s.whole ++ nine_digits s.fraction))) p.sign
    ∙ ap (λ (w : List ℕ). signed (minus_of text) (number_of (w ++ nine_digits s.fraction))) p.front

one : (text : List ℕ) (a b : ℤ) → Spells text a → Spells text b → a ≡ b
one text a b s t =
    let p = spelled_parts text a s in
    let q = spelled_parts text b t in
    let other : IsShortFraction t.fraction s.tail = subst (IsShortFraction t.fraction) (q.rest ∙ sym p.rest) t.point in
    let same : s.fraction ≡ t.fraction = one_fraction s.fraction t.fraction s.tail s.point other in
    by_parts text a s ∙ ap (λ (f : List ℕ). signed (minus_of text) (number_of (front_digits (behind_minus text) ++ nine_digits f))) same
    ∙ sym (by_parts text b t)

pub parts_digits : (text : List ℕ) (negative : Bool) (whole tail : List ℕ) → AreParts text negative whole tail → AreDigits whole
parts_digits text negative whole tail p = subst AreDigits (sym p.front) (front_are_digits (behind_minus text))

-- ---- reading

pub reads_number : (text : List ℕ) (negative : Bool) (whole tail fraction : List ℕ) (n : ℕ) (result : Result Value Cause)
    → AreParts text negative whole tail
    → (length whole ≡ 0 → ⊥) → IsShortFraction fraction tail → n ≡ number_of (nine_digits fraction)
    → result ≡ worth (signed negative (number_of whole * 10 ^ 9 + n)) → ReadsBy Spells (Is worth) text result
reads_number text negative whole tail fraction n result p some point is h = inl (
  signed negative (number_of whole * 10 ^ 9 + n),
  record {
    negative = negative;
    whole = whole;
    fraction = fraction;
    tail = tail;
    some = omega (arith, some);
    digits = subst AreDigits (sym p.front) (front_are_digits (behind_minus text));
    point = point;
    joined = let front = p.front in let rest = p.rest in let sign = p.sign in
        rw (front, rest, sign)
        (split_is text ∙ ap (λ (l : List ℕ). minus (minus_of text) ++ l) (sym (front_and_after (behind_minus text))));
    value = ap (signed negative)
        (ap (λ (k : ℕ). number_of whole * 10 ^ 9 + k) is ∙ sym (whole_and_nine whole fraction (fraction_short fraction tail point)));
  },
  h,
)

pub reads_no_digit : (text : List ℕ) (negative : Bool) (whole tail : List ℕ) → AreParts text negative whole tail → length whole ≡ 0
    → ReadsBy Spells (Is worth) text (Err Syntax)
reads_no_digit text negative whole tail p none = inr (
  λ nanos s.
      let same = ap length ((spelled_parts text nanos s).front ∙ sym p.front) in
      let some = s.some in
      absurd (omega (arith, same, none, some)),
  refl,
)

pub reads_no_fraction : (text : List ℕ) (negative : Bool) (whole tail : List ℕ) → AreParts text negative whole tail
    → ((fraction : List ℕ) → IsShortFraction fraction tail → ⊥) → ReadsBy Spells (Is worth) text (Err Syntax)
reads_no_fraction text negative whole tail p none = inr (
  λ nanos s. none s.fraction (subst (IsShortFraction s.fraction) ((spelled_parts text nanos s).rest ∙ sym p.rest) s.point),
  refl,
)

pub fraction_small : (fraction tail : List ℕ) (n : ℕ) → IsShortFraction fraction tail → n ≡ number_of (nine_digits fraction) → n < 10 ^ 9
fraction_small fraction tail n point is = rw is (nine_small fraction (fraction_digits fraction tail point) (fraction_short fraction tail point))

-- ---- worth

abs_signed : (negative : Bool) (n : ℕ) → unsigned_abs (signed negative n) ≡ n
abs_signed true zero = refl
abs_signed true (suc n) = refl
abs_signed false n = refl

le_true : (m n : ℕ) → m ≤ n → nat_le m n ≡ true
le_true m n h = grind (arith, nat_tests)

le_false : (m n : ℕ) → n < m → nat_le m n ≡ false
le_false m n h = grind (arith, nat_tests)

true_le : (m n : ℕ) → nat_le m n ≡ true → m ≤ n
true_le m n h = grind (arith, nat_tests)

pub worth_few : (negative : Bool) (n : ℕ) → n ≤ 10 ^ 22 → worth (signed negative n) ≡ Ok (Instant (signed negative n))
unfolding worth
worth_few negative n h = rw (abs_signed negative n, le_true n (10 ^ 22) h) refl

pub worth_many : (negative : Bool) (n : ℕ) → 10 ^ 22 < n → worth (signed negative n) ≡ Err Range
unfolding worth
worth_many negative n h = rw (abs_signed negative n, le_false n (10 ^ 22) h) refl

worth_within : (z : ℤ) → IsWithin (10 ^ 22) z → worth z ≡ Ok (Instant z)
unfolding worth
worth_within z w = rw (le_true (unsigned_abs z) (10 ^ 22) (omega (arith, ints, w.0, w.1))) refl

-- ---- writing

pub length_decimal_nine : (n : ℕ) → n < 10 ^ 9 → length (decimal n) ≤ 9
length_decimal_nine n small = length-decimal-le 9 n (omega arith) small (omega arith)

nine_trimmed : (r : ℕ) → r < 10 ^ 9 → nine_digits (trimmed_digits (padded_digits 9 r)) ≡ padded_digits 9 r
nine_trimmed r h =
    let field = padded_field 9 0 (10 ^ 9 - 1) r (omega arith) h (omega arith) (omega arith) (omega arith) in
    let fills = trimmed_fills (padded_digits 9 r) in
    let long = ap length fills.1 ∙ length-append (trimmed_digits (padded_digits 9 r)) (replicate fills.0 48) in
    let zeros = length-zeros fills.0 in
    let all = field.long in
    let k : 9 - length (trimmed_digits (padded_digits 9 r)) ≡ fills.0 = omega (arith, long, zeros, all) in
    ap (λ (n : ℕ). trimmed_digits (padded_digits 9 r) ++ replicate n 48) k ∙ sym fills.1

trimmed_short : (r : ℕ) → r < 10 ^ 9 → length (trimmed_digits (padded_digits 9 r)) ≤ 9
trimmed_short r h =
    let field = padded_field 9 0 (10 ^ 9 - 1) r (omega arith) h (omega arith) (omega arith) (omega arith) in
    let fills = trimmed_fills (padded_digits 9 r) in
    let long = ap length fills.1 ∙ length-append (trimmed_digits (padded_digits 9 r)) (replicate fills.0 48) in
    let all = field.long in
    omega (arith, long, all)

-- the text of nanoseconds below a second, and the digits that stand in it
pub record IsWrittenFraction (tail : List ℕ) (r : ℕ) : Type 0 where
  pub fraction : List ℕ
  pub point : IsShortFraction fraction tail
  pub number : number_of (nine_digits fraction) ≡ r

fraction_if : (t : Bool) (r : ℕ) → (r == 0) ≡ t → r < 10 ^ 9
    → IsWrittenFraction (cond t [] (codes "." ++ trimmed_digits (padded_digits 9 r))) r
fraction_if true r e h = record { fraction = []; point = inl (refl, refl); number = sym (eqb-true r 0 e) }
fraction_if false r e h =
    let some : 0 < r = grind (arith, nat_tests) in
    let fits : r < 2 ^ 64 = omega arith in
    record {
      fraction = trimmed_digits (padded_digits 9 r);
      point = inr ((trimmed_some 9 r some fits, trimmed_short r h), digits-trimmed (padded_digits 9 r) (digits-padded 9 r fits), refl);
      number = ap number_of (nine_trimmed r h) ∙ number_of-padded 9 r fits;
    }

written_fraction : (r : ℕ) → r < 10 ^ 9 → IsWrittenFraction (fraction_text r) r
unfolding fraction_text
written_fraction r h = fraction_if (r == 0) r refl h

spells_magnitude : (negative : Bool) (n : ℕ) → n ≤ 10 ^ 22 → Spells (minus negative ++ magnitude_text n) (signed negative n)
unfolding magnitude_text
spells_magnitude negative n h =
    let fits : n / 10 ^ 9 < 2 ^ 64 = omega arith in
    let written = written_fraction (n % 10 ^ 9) (omega arith) in
    let whole = number_of-decimal (n / 10 ^ 9) fits in
    let part = written.number in
    let short = fraction_short written.fraction (fraction_text (n % 10 ^ 9)) written.point in
    let joined = whole_and_nine (decimal (n / 10 ^ 9)) written.fraction short in
    record {
      negative = negative;
      whole = decimal (n / 10 ^ 9);
      fraction = written.fraction;
      tail = fraction_text (n % 10 ^ 9);
      some = decimal_nonempty (n / 10 ^ 9) fits;
      digits = digits_decimal (n / 10 ^ 9) fits;
      point = written.point;
      joined = refl;
      value = ap (signed negative) (omega (arith, joined, whole, part));
    }

spells_text : (z : ℤ) → IsWithin (10 ^ 22) z → Spells (unix_text z) z
spells_text (pos n) w = spells_magnitude false n (omega (arith, ints, w.0, w.1))
spells_text (negsuc n) w =
    subst (Spells (unix_text (negsuc n))) (omega (arith, ints)) (spells_magnitude true (n + 1) (omega (arith, ints, w.0, w.1)))

-- ---- the laws

within : (text : List ℕ) (nanos : ℤ) (value : Value) → Spells text nanos → worth nanos ≡ Ok value → IsWithinBounds value
unfolding worth
within text nanos value spelled h =
    let parts = then_ok (nat_le (unsigned_abs nanos) (10 ^ 22)) (Ok (Instant nanos)) value Range h in
    let few = true_le (unsigned_abs nanos) (10 ^ 22) parts.0 in
    subst IsWithinBounds (same_ok (Instant nanos) value parts.1) (omega (arith, ints), omega (arith, ints))

held_back : (value : Value) (z : ℤ) → IsWithinBounds value → held value ≡ Ok z
    → IsHeldBack Spells (Is worth) (Is held) (unix_text z) value z
held_back (Instant nanos) z w h =
    let same = same_ok nanos z h in
    let within : IsWithin (10 ^ 22) z = subst (IsWithin (10 ^ 22)) same w in
    record {
      meaning = z;
      back = Instant z;
      spelled = spells_text z within;
      valued = sym (worth_within z within);
      same = ap Instant same;
      again = refl;
    }
held_back _ z w h = absurd (let e : Err Kind ≡ Ok z = h in cc)

-- ---- ASCII

minus_ascii : (negative : Bool) → IsAscii (minus negative)
minus_ascii true = IsAscii-cons 45 [] (omega arith) IsAscii-nil
minus_ascii false = IsAscii-nil

tail_ascii : (fraction tail : List ℕ) → IsShortFraction fraction tail → IsAscii tail
tail_ascii fraction tail (inl h) = subst IsAscii (sym h.1) IsAscii-nil
tail_ascii fraction tail (inr h) =
    subst IsAscii (sym h.2) (IsAscii-cons 46 fraction (omega arith) (IsAscii-from_digits fraction h.1))

spelled_ascii : AreAscii Spells
spelled_ascii text nanos h =
    let whole = IsAscii-from_digits h.whole h.digits in
    subst IsAscii (sym h.joined)
    (IsAscii-append (minus h.negative) (h.whole ++ h.tail) (minus_ascii h.negative)
    (IsAscii-append h.whole h.tail whole (tail_ascii h.fraction h.tail h.point)))

pub unix_times : Lawful Unix
unix_times =
    lawful_by Unix Spells (Is worth) (Is held) unix_text (record {
      reads = λ text a h. h;
      read = λ text a h. h;
      writes = λ value a h. h;
      written = λ value a h. h;
    })
    (record {
      one = one;
      one_worth = one_image worth;
      one_held = one_image held;
      ascii = spelled_ascii;
      within = λ text z value spelled h. within text z value spelled (sym h);
      back = λ value z w h. held_back value z w (sym h);
    })
