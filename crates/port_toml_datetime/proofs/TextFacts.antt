-- Texts of numbers are short.
use Rattle.std.proofs.Common.{◌≡◌, ℕ, ◌+◌, ◌^◌, ◌<◌, ◌≤◌, ◌++◌, length, decimal, refl, arith}
use Rattle.std.proofs.lemmas.Fmt.{length-decimal-le}
use Rattle.std.specs.Prelude.{ℤ, pos, negsuc, ◌<ℤ◌, unsigned_abs, codes}
use Rattle.std.proofs.lemmas.Int.{ints}
use Rattle.port_toml_datetime.specs.Texts.{minutes_text, signed_text}

pub short_year : (n : ℕ) → n < 2 ^ 16 → length (decimal n) ≤ 5
short_year n h = length-decimal-le 5 n (omega arith) (omega arith) (omega arith)

pub short_hours : (n : ℕ) → n < 1000 → length (decimal n) ≤ 3
short_hours n h = length-decimal-le 3 n (omega arith) (omega arith) (omega arith)

pub negative_text : (z : ℤ) → z <ℤ pos 0 → signed_text z ≡ codes "-" ++ minutes_text (unsigned_abs z)
negative_text (pos n) h = absurd (omega (arith, ints))
negative_text (negsuc n) h = let e : unsigned_abs (negsuc n) ≡ n + 1 = omega (arith, ints) in rw e refl

pub positive_text : (z : ℤ) → (z <ℤ pos 0 → ⊥) → signed_text z ≡ codes "+" ++ minutes_text (unsigned_abs z)
positive_text (pos n) h = let e : unsigned_abs (pos n) ≡ n = omega (arith, ints) in rw e refl
positive_text (negsuc n) h = absurd (h (omega (arith, ints)))
