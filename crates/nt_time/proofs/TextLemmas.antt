-- Numbers in decimal digits, and what a text that may begin with a plus reads as.
use Rattle.std.proofs.Common.{◌≡◌, ℕ, ◌^◌, ◌<◌, ◌≤◌, List, [], ◌∷◌, ◌++◌, length, Ok, Err, ◌⊎◌, ⊎_elim, inl, inr, append-nil, refl, sym, ap}
use Rattle.std.proofs.Common.{subst, ◌∙◌, ◌↔◌, arith}
use Rattle.std.proofs.lemmas.Bool.{cases_eq}
use Rattle.std.proofs.lemmas.List.{nil_from_length}
use Rattle.std.proofs.lemmas.Str.Parse.{IsNumeralModel, numerals_by_value, tells_digits, without_leading_plus_none}
use Rattle.std.proofs.lemmas.Str.Parse.{without_leading_plus_plus, not_in_digits}
use Rattle.std.specs.Str.Parse.{AllDigits, IsNumeral, digits_value, without_leading_plus}
use Rattle.nt_time.specs.declared.error.ParseFileTimeCause.TheVariants.{Overflow}
use Rattle.scan_core.specs.Fronts.{front_digits, after_digits}
use Rattle.scan_core.proofs.FrontFacts.{front_of, after_of, front_are_digits, front_and_after}
use Rattle.nt_time.specs.Text.{IsTextOf, IsReadFrom}

-- ---- digits, and nothing behind them

pub whole_front : (text : List ℕ) → after_digits text ≡ [] → front_digits text ≡ text
whole_front text none =
    sym (append-nil (front_digits text)) ∙ ap (λ (l : List ℕ). front_digits text ++ l) (sym none) ∙ front_and_after text

numeral_of_front : (text : List ℕ) → 0 < length (front_digits text) → after_digits text ≡ [] → IsNumeral 10 text
numeral_of_front text some none = subst (IsNumeral 10) (whole_front text none) (some, front_are_digits text)

-- where digits stand in front, the text is a numeral exactly where nothing follows them
pub some_digits : (text : List ℕ) → 0 < length (front_digits text) → (length (after_digits text) ≡ 0) ↔ IsNumeral 10 text
some_digits text some = (
  λ none. numeral_of_front text some (nil_from_length (after_digits text) none),
  λ has. ap length (ap after_digits (sym (append-nil text)) ∙ after_of text [] has.1 tt),
)

pub no_digits : (text : List ℕ) → length (front_digits text) ≡ 0 → ¬ IsNumeral 10 text
no_digits text none has =
    let whole : length (front_digits text) ≡ length text = ap length
    (ap front_digits (sym (append-nil text)) ∙ front_of text [] has.1 tt) in
    omega (arith, none, whole, has.0)

-- ---- the text of a number is a numeral behind its plus

plain : IsNumeralModel (AllDigits 10) (digits_value 10)
plain = numerals_by_value _ tells_digits

no_plus : (ds : List ℕ) → IsNumeral 10 ds → without_leading_plus ds ≡ ds
no_plus ds h = without_leading_plus_none ds (not_in_digits plain ds 43 h.1 (omega arith) 0 h.0)

digits_of_text : (text digits : List ℕ) → IsNumeral 10 digits
    → (text ≡ digits) ⊎ (text ≡ 43 ∷ digits) → without_leading_plus text ≡ digits
digits_of_text text digits h (inl e) = rw e (no_plus digits h)
digits_of_text text digits h (inr e) = rw e (without_leading_plus_plus (43 ∷ digits) refl)

pub numeral_of_text : (text : List ℕ) (n : ℕ) → IsTextOf text n
    → IsNumeral 10 (without_leading_plus text) × (n ≡ digits_value 10 (without_leading_plus text))
numeral_of_text text n has =
    let e = digits_of_text text has.0 has.1 has.3 in
    rw e (has.1, has.2)

pub text_of_numeral : (text : List ℕ) → IsNumeral 10 (without_leading_plus text)
    → IsTextOf text (digits_value 10 (without_leading_plus text))
text_of_numeral [] has = absurd (omega arith)
text_of_numeral (c ∷ cs) has = ⊎_elim
    (λ is. (without_leading_plus (c ∷ cs), has, refl, inr (rw (without_leading_plus_plus (c ∷ cs) is, is))))
    (λ isnt. (without_leading_plus (c ∷ cs), has, refl, inl (sym (without_leading_plus_none (c ∷ cs) isnt))))
    (cases_eq c 43)

-- ---- what a text reads as

pub read_ok : (text : List ℕ) (t : ℕ) → IsNumeral 10 (without_leading_plus text)
    → digits_value 10 (without_leading_plus text) < 2 ^ 64
    → t ≡ digits_value 10 (without_leading_plus text) → IsReadFrom text (Ok t)
read_ok text t has fits e =
    let written : IsTextOf text t = rw e (text_of_numeral text has) in
    record {
      ok = written;
      fits = rw e fits;
      all = λ n h small. ap (λ (m : ℕ). Ok m) (e ∙ sym (numeral_of_text text n h).1);
      empty = (λ r. cc, λ none. absurd (let h = rw none at has in omega (arith, h)));
      invalid = (λ r. cc, λ h. absurd (h.1 t written));
      overflow = (λ r. cc, λ h. absurd (let value = (numeral_of_text text h.0 h.1).1 in omega (arith, value)));
    }

pub read_overflow : (text : List ℕ) → IsNumeral 10 (without_leading_plus text)
    → 2 ^ 64 ≤ digits_value 10 (without_leading_plus text) → IsReadFrom text (Err Overflow)
read_overflow text has large = record {
  ok = tt;
  fits = tt;
  all = λ n h small. absurd (let value = (numeral_of_text text n h).1 in omega (arith, value));
  empty = (λ r. cc, λ none. absurd (let h = rw none at has in omega (arith, h)));
  invalid = (λ r. cc, λ h. absurd (h.1 _ (text_of_numeral text has)));
  overflow = (λ r. (_, text_of_numeral text has, large), λ h. refl);
}
