-- Written numbers are numbers.
use Rattle.std.proofs.Common.{◌≡◌, ℕ, ◌<◌, Bool, true, false, cond, List, [], ◌++◌, length, codes, refl, arith, inl, inr}
use Rattle.scan_core.specs.Digits.{AreDigits}
use Rattle.scan_core.specs.Number.{IsSign, IsNumber}
use Rattle.scan_core.specs.Number.{minus}

-- where one test chooses two values, each choice has what both values have together
pub cond_two : {A B : Type 0} (b : Bool) (P : A → B → Type 0) (x y : A) (u v : B) → (b ≡ true → P x u) → (b ≡ false → P y v)
    → P (cond b x y) (cond b u v)
cond_two true P x y u v h k = h refl
cond_two false P x y u v h k = k refl

pub IsSign-minus : (plus negative : Bool) → IsSign plus negative (minus negative)
IsSign-minus plus true = refl
IsSign-minus plus false = inl refl

-- digits without a point
pub IsNumber-whole : (plus negative : Bool) (whole : List ℕ) → AreDigits whole → 0 < length whole
    → IsNumber plus negative whole [] (minus negative ++ (whole ++ []))
IsNumber-whole plus negative whole are some = record {
  sign = minus negative;
  tail = [];
  signed = IsSign-minus plus negative;
  digits = are;
  point = inl (refl, refl);
  some = omega arith;
  joined = refl;
}

-- digits, a point and digits
pub IsNumber-point : (plus negative : Bool) (whole fraction : List ℕ) → AreDigits whole → AreDigits fraction → 0 < length fraction
    → IsNumber plus negative whole fraction (minus negative ++ (whole ++ (codes "." ++ fraction)))
IsNumber-point plus negative whole fraction are behind some = record {
  sign = minus negative;
  tail = codes "." ++ fraction;
  signed = IsSign-minus plus negative;
  digits = are;
  point = inr (behind, refl);
  some = omega arith;
  joined = refl;
}
