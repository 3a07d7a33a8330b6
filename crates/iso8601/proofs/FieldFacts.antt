-- Fields, marks and years in front are read, and what is read is one.
use Rattle.std.proofs.Common.{◌≡◌, ℕ, ◌<◌, ◌≤◌, ◌&&◌, ◌==◌, nat_le, Bool, true, false, cond, List, [], ◌∷◌, ◌++◌, length, take, drop, Some}
use Rattle.std.proofs.Common.{None, refl, sym, ◌∙◌, ap, subst, append_assoc, take-append-drop, length-take, arith, inl, inr}
use Rattle.std.proofs.lemmas.Bool.{eqb-true, eq-eqb}
use Rattle.std.specs.Char.{is_ascii_digit, digit_value}
use Rattle.std.proofs.lemmas.Bool.Decides.{nat_tests}
use Rattle.std.proofs.lemmas.List.{take_at, drop_at, length-take-le}
use Rattle.std.proofs.lemmas.Option.{cond_some, some_pair_parts, option_and_then_some}
use Rattle.std.proofs.lemmas.Str.Parse.{digit_from_value}
use Rattle.scan_core.specs.Digits.{AreDigits, number_of}
use Rattle.scan_core.specs.Fronts.{NoDigitFirst}
use Rattle.scan_core.specs.Number.{IsSign}
use Rattle.scan_core.proofs.DigitFacts.{digits_from_all, all_from_digits}
use Rattle.scan_core.specs.Fields.{IsField}
use Rattle.iso8601.specs.Fields.{IsMarked, IsYear}
use Rattle.iso8601.specs.inside.GrammarParts.{IsPerhaps}
use Rattle.iso8601.specs.inside.Reading.{is_field, read_field, read_year, read_sign, after_mark, read_marked, read_mark}
use Rattle.iso8601.proofs.Longest.{Sound, Exact}

-- ---- fields

pub test_parts : (n count lo hi v : ℕ) (all : Bool) → ((n == count) && (all && (nat_le lo v && nat_le v hi))) ≡ true → (n ≡ count)
    × (all ≡ true) × (lo ≤ v) × (v ≤ hi)
test_parts n count lo hi v all h = grind (arith, nat_tests)

pub test_whole : (n count lo hi v : ℕ) (all : Bool) → n ≡ count → all ≡ true → lo ≤ v → v ≤ hi
    → ((n == count) && (all && (nat_le lo v && nat_le v hi))) ≡ true
test_whole n count lo hi v all p q r s = grind (arith, nat_tests)

pub field_exact : (count lo hi : ℕ) → Exact (IsField count lo hi) (read_field count lo hi)
unfolding read_field
field_exact count lo hi text rest value f =
    let least : lo ≤ number_of text = omega (arith, f.number, f.least) in
    let most : number_of text ≤ hi = omega (arith, f.number, f.most) in
    let test : is_field count lo hi text ≡ true = test_whole _ _ lo hi _ _ f.long (all_from_digits text f.digits) least most in
    rw (take_at text rest count f.long, drop_at text rest count f.long, test, f.number) refl

pub field_sound : (count lo hi : ℕ) → Sound (IsField count lo hi) (read_field count lo hi)
unfolding read_field
field_sound count lo hi bytes rest value h =
    let found = cond_some (is_field count lo hi (take count bytes)) _ _ h in
    let parts = some_pair_parts _ _ _ _ (ap Some found.1) in
    let test = test_parts _ count lo hi _ _ found.0 in
    let P : ℕ → Type 0 = λ v. IsField count lo hi (take count bytes) v in
    let field : P (number_of (take count bytes)) = record {
      long = test.0;
      digits = digits_from_all _ test.1;
      number = refl;
      least = test.2;
      most = test.3;
    } in
    (take count bytes, subst P parts.0 field, sym (take-append-drop count bytes) ∙ ap (λ (l : List ℕ). take count bytes ++ l) parts.1)

-- what `n_digits_in` finds is what the reader finds
pub field_some : (count lo hi : ℕ) (bytes : List ℕ) → count ≤ length bytes → AreDigits (take count bytes)
    → lo ≤ number_of (take count bytes) → number_of (take count bytes) ≤ hi
    → read_field count lo hi bytes ≡ Some (number_of (take count bytes), drop count bytes)
unfolding read_field
field_some count lo hi bytes long digits least most =
    let test : is_field count lo hi (take count bytes) ≡ true = test_whole _ _ lo hi _ _ (length-take-le count bytes long)
    (all_from_digits (take count bytes) digits) least most in
    rw test refl

none_if : {A : Type 0} (t : Bool) (x : A) → (t ≡ true → ⊥) → cond t (Some x) None ≡ None
none_if true x never = absurd (never refl)
none_if false x never = refl

full : (count : ℕ) (bytes : List ℕ) → length (take count bytes) ≡ count → count ≤ length bytes
full count bytes h = omega (arith, length-take count bytes)

pub field_none : (count lo hi : ℕ) (bytes : List ℕ)
    → ((count ≤ length bytes) × AreDigits (take count bytes) × (lo ≤ number_of (take count bytes)) × (number_of (take count bytes) ≤ hi)
    → ⊥)
    → read_field count lo hi bytes ≡ None
unfolding read_field
field_none count lo hi bytes never =
    none_if (is_field count lo hi (take count bytes)) _ (λ h.
    let test = test_parts _ count lo hi _ _ h in
    never (full count bytes test.0, digits_from_all _ test.1, test.2, test.3))

no_digit : (b : ℕ) → is_ascii_digit b ≡ false → digit_value b < 10 → ⊥
no_digit b h d = let r = digit_from_value b d in grind (arith, nat_tests)

-- one digit is no field of two
pub field_cut : (lo hi c : ℕ) (rest : List ℕ) → NoDigitFirst rest → read_field 2 lo hi (c ∷ rest) ≡ None
unfolding read_field
field_cut lo hi c [] n = refl
field_cut lo hi c (b ∷ bs) n =
    none_if (is_field 2 lo hi (c ∷ b ∷ [])) _ (λ h.
    let test = test_parts (length (c ∷ b ∷ [])) 2 lo hi (number_of (c ∷ b ∷ [])) _ h in
    let digits = digits_from_all (c ∷ b ∷ []) test.1 in
    no_digit b n digits.1.0)

-- no field begins with a byte that is no digit
pub field_not : (lo hi : ℕ) (bytes : List ℕ) → NoDigitFirst bytes → read_field 2 lo hi bytes ≡ None
unfolding read_field
field_not lo hi [] n = refl
field_not lo hi (b ∷ bs) n =
    none_if (is_field 2 lo hi (take 2 (b ∷ bs))) _ (λ h.
    let test = test_parts (length (take 2 (b ∷ bs))) 2 lo hi (number_of (take 2 (b ∷ bs))) _ h in
    let digits = digits_from_all (take 2 (b ∷ bs)) test.1 in
    no_digit b n digits.0)

-- ---- marks

-- the text doesn't begin with the byte
abbrev pub NotFirst : ℕ → List ℕ → Type 0
NotFirst byte [] = Unit {0}
NotFirst byte (b ∷ bs) = (b == byte) ≡ false

pub not_digit : (byte b : ℕ) → is_ascii_digit byte ≡ false → digit_value b < 10 → (b == byte) ≡ false
not_digit byte b h d = let r = digit_from_value b d in grind (arith, nat_tests)

-- digits don't begin with a byte that is none
pub digits_first : (byte : ℕ) (text rest : List ℕ) → is_ascii_digit byte ≡ false → 0 < length text → AreDigits text
    → NotFirst byte (text ++ rest)
digits_first byte [] rest h some d = absurd (omega arith)
digits_first byte (b ∷ bs) rest h some d = not_digit byte b h d.0

pub field_first : (byte count lo hi : ℕ) (text rest : List ℕ) (value : ℕ) → is_ascii_digit byte ≡ false → 0 < count
    → IsField count lo hi text value → NotFirst byte (text ++ rest)
field_first byte count lo hi text rest value h some f = digits_first byte text rest h (omega (arith, f.long)) f.digits

pub no_mark : (mark : ℕ) (rest : List ℕ) → NotFirst mark rest → after_mark mark rest ≡ rest
no_mark mark [] n = refl
no_mark mark (b ∷ bs) n = rw n refl

pub mark_exact : (mark : ℕ) (text rest : List ℕ) → IsPerhaps (mark ∷ []) text → NotFirst mark rest → after_mark mark (text ++ rest) ≡ rest
mark_exact mark text rest (inl none) n = rw none (no_mark mark rest n)
mark_exact mark text rest (inr one) n = rw (one, eq-eqb mark mark refl) refl

mark_if : (t : Bool) (mark b : ℕ) (bs : List ℕ) → (t ≡ true → b ≡ mark) → (text : List ℕ) × IsPerhaps (mark ∷ []) text
    × (b ∷ bs ≡ text ++ cond t bs (b ∷ bs))
mark_if true mark b bs is = (mark ∷ [], inr refl, ap (λ (c : ℕ). c ∷ bs) (is refl))
mark_if false mark b bs is = ([], inl refl, refl)

pub mark_sound : (mark : ℕ) (bytes : List ℕ) → (text : List ℕ) × IsPerhaps (mark ∷ []) text × (bytes ≡ text ++ after_mark mark bytes)
mark_sound mark [] = ([], inl refl, refl)
mark_sound mark (b ∷ bs) = mark_if (b == mark) mark b bs (eqb-true b mark)

pub letter_none : (mark : ℕ) (rest : List ℕ) → NotFirst mark rest → read_mark mark rest ≡ None
letter_none mark [] n = refl
letter_none mark (b ∷ bs) n = rw n refl

pub letter_sound : (mark : ℕ) (bytes rest : List ℕ) → read_mark mark bytes ≡ Some rest → bytes ≡ mark ∷ rest
letter_sound mark [] rest h = cc
letter_sound mark (b ∷ bs) rest h =
    let found = cond_some (b == mark) bs rest h in
    let here = eqb-true b mark found.0 in
    rw (here, found.1) refl

-- ---- a mark that may be left out, and a field

-- two pieces, and what follows them
pub behind : (text a b rest : List ℕ) → text ≡ a ++ b → text ++ rest ≡ a ++ (b ++ rest)
behind text a b rest h = ap (λ (l : List ℕ). l ++ rest) h ∙ append_assoc a b rest

-- three pieces in front of a rest
pub joins_three : (a b c rest : List ℕ) → (a ++ (b ++ c)) ++ rest ≡ a ++ (b ++ (c ++ rest))
joins_three a b c rest = simp append_assoc refl

pub joins : (bytes a b x rest : List ℕ) → bytes ≡ a ++ x → x ≡ b ++ rest → bytes ≡ (a ++ b) ++ rest
joins bytes a b x rest p q = p ∙ ap (λ (l : List ℕ). a ++ l) q ∙ sym (append_assoc a b rest)

pub marked_exact : (mark count lo hi : ℕ) → is_ascii_digit mark ≡ false → 0 < count
    → Exact (IsMarked (mark ∷ []) count lo hi) (read_marked mark count lo hi)
unfolding read_marked
marked_exact mark count lo hi h some text rest value m =
    let after = mark_exact mark m.front (m.digits ++ rest) m.perhaps (field_first mark count lo hi m.digits rest value h some m.field) in
    rw (behind text m.front m.digits rest m.joined, after) (field_exact count lo hi m.digits rest value m.field)

pub marked_sound : (mark count lo hi : ℕ) → Sound (IsMarked (mark ∷ []) count lo hi) (read_marked mark count lo hi)
unfolding read_marked
marked_sound mark count lo hi bytes rest value h =
    let front = mark_sound mark bytes in
    let field = field_sound count lo hi (after_mark mark bytes) rest value h in (
      front.0 ++ field.0,
      record { front = front.0; digits = field.0; perhaps = front.1; field = field.1; joined = refl },
      joins bytes front.0 field.0 _ rest front.2 field.2,
    )

-- a mark or a digit comes first
pub marked_none : (mark lo hi : ℕ) (bytes : List ℕ) → NotFirst mark bytes → NoDigitFirst bytes → read_marked mark 2 lo hi bytes ≡ None
unfolding read_marked
marked_none mark lo hi bytes m n = rw (no_mark mark bytes m) (field_not lo hi bytes n)

pub marked_cut : (mark lo hi c : ℕ) (rest : List ℕ) → (c == mark) ≡ false → NoDigitFirst rest → read_marked mark 2 lo hi (c ∷ rest) ≡ None
unfolding read_marked
marked_cut mark lo hi c rest m n = rw (no_mark mark (c ∷ rest) m) (field_cut lo hi c rest n)

-- ---- years

no_sign : (rest : List ℕ) → NotFirst 45 rest → NotFirst 43 rest → read_sign rest ≡ (false, rest)
no_sign [] m p = refl
no_sign (b ∷ bs) m p = rw (m, p) refl

sign_exact : (negative : Bool) (sign rest : List ℕ) → IsSign true negative sign → NotFirst 45 rest → NotFirst 43 rest
    → read_sign (sign ++ rest) ≡ (negative, rest)
sign_exact true sign rest h m p = rw h refl
sign_exact false sign rest (inl none) m p = rw none (no_sign rest m p)
sign_exact false sign rest (inr plus) m p = rw plus.1 refl

sign_if : (minus plus : Bool) (b : ℕ) (bs : List ℕ) → (minus ≡ true → b ≡ 45) → (plus ≡ true → b ≡ 43)
    → let r : Bool × List ℕ = cond {A = Bool × List ℕ} minus (true, bs) (cond {A = Bool × List ℕ} plus (false, bs) (false, b ∷ bs)) in
    (sign : List ℕ) × IsSign true r.0 sign × (b ∷ bs ≡ sign ++ r.1)
sign_if true plus b bs is_minus is_plus = (45 ∷ [], refl, ap (λ (c : ℕ). c ∷ bs) (is_minus refl))
sign_if false true b bs is_minus is_plus = (43 ∷ [], inr (refl, refl), ap (λ (c : ℕ). c ∷ bs) (is_plus refl))
sign_if false false b bs is_minus is_plus = ([], inl refl, refl)

sign_sound : (bytes : List ℕ) → (sign : List ℕ) × IsSign true (read_sign bytes).0 sign × (bytes ≡ sign ++ (read_sign bytes).1)
sign_sound [] = ([], inl refl, refl)
sign_sound (b ∷ bs) = sign_if (b == 45) (b == 43) b bs (eqb-true b 45) (eqb-true b 43)

pub year_exact : Exact IsYear read_year
unfolding read_year
year_exact text rest year y =
    let split : text ++ rest ≡ y.sign ++ (y.digits ++ rest) = ap (λ (l : List ℕ). l ++ rest) y.joined ∙ append_assoc y.sign y.digits rest in
    let sign = sign_exact y.negative y.sign (y.digits ++ rest) y.signs
    (field_first 45 4 0 9999 y.digits rest y.magnitude refl (omega arith) y.four)
    (field_first 43 4 0 9999 y.digits rest y.magnitude refl (omega arith) y.four) in
    let field = field_exact 4 0 9999 y.digits rest y.magnitude y.four in
    rw (split, sign, field, y.value) refl

pub year_sound : Sound IsYear read_year
unfolding read_year
year_sound bytes rest year h =
    option_and_then_some _ _ _ h (λ r found body.
    let field = field_sound 4 0 9999 (read_sign bytes).1 r.1 r.0 found in
    let sign = sign_sound bytes in
    let parts = some_pair_parts _ _ _ _ body in
    let split : bytes ≡ (sign.0 ++ field.0) ++ rest = sign.2 ∙ ap (λ (l : List ℕ). sign.0 ++ l)
    (field.2 ∙ ap (λ (l : List ℕ). field.0 ++ l) parts.1) ∙ sym (append_assoc sign.0 field.0 rest) in (
      sign.0 ++ field.0,
      record {
        sign = sign.0;
        digits = field.0;
        negative = (read_sign bytes).0;
        magnitude = r.0;
        signs = sign.1;
        four = field.1;
        joined = refl;
        value = sym parts.0;
      },
      split,
    ))
