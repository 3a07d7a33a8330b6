-- How many bytes the pieces of a written text have at most.
use Rattle.std.proofs.Common.{◌≡◌, ℕ, suc, zero, ◌+◌, ◌^◌, ◌<◌, ◌≤◌, ℤ, pos, negsuc, true, ◌||◌, List, ◌++◌, length, codes, refl}
use Rattle.std.proofs.Common.{length-append, arith}
use Rattle.std.proofs.Math.Bool.{or-true}
use Rattle.std.specs.Int.{is_negative}
use Rattle.std.specs.Prelude.{unsigned_abs, neg_ℤ}
use Rattle.scan_core.specs.Padded.{padded_digits}
use Rattle.scan_core.proofs.DigitFacts.{length_decimal_u32}
use Rattle.scan_core.proofs.PaddedFacts.{length-padded}
use Rattle.scan_core.proofs.Signs.{is_negative-pos}
use Rattle.iso8601.specs.Written.{two_wide, offset_text}

-- ---- offsets

pub wide_positive : (n : ℕ) → two_wide (pos n) ≡ padded_digits 2 n
unfolding two_wide
wide_positive n = rw (is_negative-pos n) refl

pub wide_negative : (n : ℕ) → two_wide (negsuc n) ≡ codes "-" ++ padded_digits 1 (suc n)
unfolding two_wide
wide_negative n = refl

length_positive : (n : ℕ) → n < 2 ^ 32 → length (two_wide (pos n)) ≤ 10
length_positive n small = let short = length_decimal_u32 n small in rw (wide_positive n) (omega (arith, length-padded 2 n))

length_negative : (n : ℕ) → suc n < 2 ^ 32 → length (two_wide (negsuc n)) ≤ 11
length_negative n small =
    let short = length_decimal_u32 (suc n) small in
    rw (wide_negative n) (omega (arith, length-padded 1 (suc n), length-append (codes "-") (padded_digits 1 (suc n))))

length_turned : (n : ℕ) → n < 2 ^ 32 → length (two_wide (neg_ℤ (pos n))) ≤ 11
length_turned zero small = let short = length_positive zero small in omega arith
length_turned (suc n) small = length_negative n small

length_ends : (sign hours minutes : List ℕ) (m n : ℕ) → length sign ≡ 1 → length hours ≤ m → length minutes ≤ n → m + n ≤ 21
    → length (sign ++ (hours ++ (codes ":" ++ minutes))) ≤ 23
length_ends sign hours minutes m n one h k sum =
    omega (
      arith,
      length-append sign (hours ++ (codes ":" ++ minutes)),
      length-append hours (codes ":" ++ minutes),
      length-append (codes ":") minutes,
    )

pub ahead_text : (h m : ℕ) → offset_text (pos h) (pos m) ≡ codes "+" ++ (two_wide (pos h) ++ (codes ":" ++ two_wide (pos m)))
unfolding offset_text
ahead_text h m = rw (is_negative-pos h, is_negative-pos m) refl

pub behind_text : (h m : ℤ) → (is_negative h || is_negative m) ≡ true
    → offset_text h m ≡ codes "-" ++ (two_wide (neg_ℤ h) ++ (codes ":" ++ two_wide (neg_ℤ m)))
unfolding offset_text
behind_text h m t = rw t refl

-- at most one of the parts has a minus of its own
pub length-offset : (hours minutes : ℤ) → unsigned_abs hours < 2 ^ 32 → unsigned_abs minutes < 2 ^ 32
    → length (offset_text hours minutes) ≤ 23
length-offset (pos h) (pos m) p q = rw (ahead_text h m) (length_ends (codes "+") (two_wide (pos h)) (two_wide (pos m)) 10 10 refl
    (length_positive h p) (length_positive m q) (omega arith))
length-offset (pos h) (negsuc m) p q =
    rw (behind_text (pos h) (negsuc m) (or-true (is_negative (pos h))))
    (length_ends (codes "-") (two_wide (neg_ℤ (pos h))) (two_wide (pos (suc m))) 11 10 refl (length_turned h p)
    (length_positive (suc m) q) (omega arith))
length-offset (negsuc h) (pos m) p q =
    rw (behind_text (negsuc h) (pos m) refl) (length_ends (codes "-") (two_wide (pos (suc h))) (two_wide (neg_ℤ (pos m))) 10 11 refl
    (length_positive (suc h) p) (length_turned m q) (omega arith))
length-offset (negsuc h) (negsuc m) p q =
    rw (behind_text (negsuc h) (negsuc m) refl) (length_ends (codes "-") (two_wide (pos (suc h))) (two_wide (pos (suc m))) 10 10 refl
    (length_positive (suc h) p) (length_positive (suc m) q) (omega arith))
