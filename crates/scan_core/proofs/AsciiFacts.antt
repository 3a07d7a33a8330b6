-- Texts that are ASCII: those whose bytes pass a test, digits, and joins of such texts.
use Rattle.std.proofs.Common.{◌≡◌, ℕ, zero, suc, ◌<◌, Bool, true, false, List, [], ◌∷◌, ◌++◌, codes, refl, sym, subst, arith}
use Rattle.std.specs.Prelude.{nat_lt}
use Rattle.std.specs.List.{list_all}
use Rattle.std.specs.Str.{IsAscii}
use Rattle.std.proofs.lemmas.Bool.{and_parts}
use Rattle.std.proofs.lemmas.Bool.Decides.{nat_tests}
use Rattle.std.proofs.lemmas.Fmt.{IsAscii-from_digits}
use Rattle.std.proofs.lemmas.Str.{IsAscii-append}
use Rattle.scan_core.specs.Digits.{AreDigits}
use Rattle.scan_core.specs.Fields.{IsField}
use Rattle.scan_core.specs.Number.{sign_text}

abbrev pub is_small : ℕ → Bool
is_small b = nat_lt b 128

small_below : (b : ℕ) → is_small b ≡ true → b < 128
small_below b h = grind (arith, nat_tests)

-- bytes that pass the test
pub small : (bytes : List ℕ) → list_all is_small bytes ≡ true → IsAscii bytes
small [] h i = omega arith
small (b ∷ bs) h zero = small_below b (and_parts (is_small b) (list_all is_small bs) h).0
small (b ∷ bs) h (suc i) = small bs (and_parts (is_small b) (list_all is_small bs) h).1 i

pub same : (text piece : List ℕ) → text ≡ piece → IsAscii piece → IsAscii text
same text piece is h = subst IsAscii (sym is) h

pub joined : (text a b : List ℕ) → text ≡ a ++ b → IsAscii a → IsAscii b → IsAscii text
joined text a b is h k = same text (a ++ b) is (IsAscii-append a b h k)

pub field : (count lo hi : ℕ) (text : List ℕ) (value : ℕ) → IsField count lo hi text value → IsAscii text
field count lo hi text value h = IsAscii-from_digits text h.digits

pub sign_written : (negative : Bool) → IsAscii (sign_text negative)
sign_written true = small (codes "-") refl
sign_written false = small (codes "+") refl

-- the same as a record, from which the bytes can be told
pub record Ascii (bytes : List ℕ) : Type 0 where
  pub each : IsAscii bytes

pub append : {a b : List ℕ} → Ascii a → Ascii b → Ascii (a ++ b)
append {a} {b} h k = record { each = IsAscii-append a b h.each k.each }

pub known : (bytes : List ℕ) → list_all is_small bytes ≡ true → Ascii bytes
known bytes h = record { each = small bytes h }

pub digits : (bytes : List ℕ) → AreDigits bytes → Ascii bytes
digits bytes h = record { each = IsAscii-from_digits bytes h }
