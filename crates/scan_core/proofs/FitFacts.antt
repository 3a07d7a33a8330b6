-- A number is within so many bits exactly where it fits the signed type of that width.
use Rattle.std.proofs.Common.{◌≡◌, true, FitsSigned, w32, w64, arith}
use Rattle.std.specs.Prelude.{ℤ, pos, negsuc}
use Rattle.std.proofs.lemmas.Bool.Decides.{nat_tests}
use Rattle.scan_core.specs.Shares.{is_within}

pub within_32 : (z : ℤ) → is_within 32 z ≡ true → FitsSigned w32 z
within_32 (pos n) h = record { sfits = grind (arith, nat_tests) }
within_32 (negsuc n) h = record { sfits = grind (arith, nat_tests) }

pub within_64 : (z : ℤ) → is_within 64 z ≡ true → FitsSigned w64 z
within_64 (pos n) h = record { sfits = grind (arith, nat_tests) }
within_64 (negsuc n) h = record { sfits = grind (arith, nat_tests) }

pub fits_32 : (z : ℤ) → FitsSigned w32 z → is_within 32 z ≡ true
fits_32 (pos n) h = let less = h.sfits in grind (arith, nat_tests)
fits_32 (negsuc n) h = let less = h.sfits in grind (arith, nat_tests)

pub fits_64 : (z : ℤ) → FitsSigned w64 z → is_within 64 z ≡ true
fits_64 (pos n) h = let less = h.sfits in grind (arith, nat_tests)
fits_64 (negsuc n) h = let less = h.sfits in grind (arith, nat_tests)
