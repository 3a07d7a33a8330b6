-- The bytes of a cell name one interval.
use Rattle.std.proofs.Common.{◌≡◌, ℕ, zero, suc, ◌<◌, ◌^◌, ℤ, List, [], ◌∷◌, length, slice_index, take, drop, refl, sym, ap, ◌∙◌, arith}
use Rattle.std.proofs.Math.Facts.{Fits-of_z}
use Rattle.std.proofs.lemmas.Int.{to_z-of_z, of_z-to_z}
use Rattle.std.proofs.lemmas.Nat.{from_be_bytes-to_be_bytes_4, from_be_bytes-to_be_bytes_8, be_bytes_8}
use Rattle.std.specs.Int.{w32, w64, cast_unsigned, cast_signed, from_be_bytes}
use Rattle.std.specs.Prelude.{FitsSigned}
use Rattle.pg_interval_2.specs.declared.interval.Interval.{Interval}
use Rattle.pg_interval_2.specs.Cell.{big_endian, cell}
use Rattle.pg_interval_2.specs.Ranges.{IsInRange}

read_4 : (z : ℤ) → FitsSigned w32 z → cast_signed w32 (from_be_bytes w32 (big_endian w32 z)) ≡ z
read_4 z fits = ap (cast_signed w32) (from_be_bytes-to_be_bytes_4 (cast_unsigned w32 z) (Fits-of_z fits).fits) ∙ to_z-of_z w32 z fits

read_8 : (z : ℤ) → FitsSigned w64 z → cast_signed w64 (from_be_bytes w64 (big_endian w64 z)) ≡ z
read_8 z fits = ap (cast_signed w64) (from_be_bytes-to_be_bytes_8 (cast_unsigned w64 z) (Fits-of_z fits).fits) ∙ to_z-of_z w64 z fits

-- eight bytes are those of the number that they are read as
below_8 : (bytes : List ℕ) → ((i : ℕ) → slice_index bytes i < 256) → from_be_bytes w64 bytes < 2 ^ 64
below_8 bytes small = omega (arith, small 0, small 1, small 2, small 3, small 4, small 5, small 6, small 7)

pub written_8 : (bytes : List ℕ) (z : ℤ) → length bytes ≡ 8 → ((i : ℕ) → slice_index bytes i < 256)
    → z ≡ cast_signed w64 (from_be_bytes w64 bytes)
    → big_endian w64 (cast_signed w64 (cast_unsigned w64 z)) ≡ bytes
written_8 bytes z eight small is =
    let back = of_z-to_z w64 (from_be_bytes w64 bytes) (below_8 bytes small) in
    be_bytes_8 bytes _ eight small (ap (λ z. cast_unsigned w64 (cast_signed w64 (cast_unsigned w64 z))) is
    ∙ ap (λ n. cast_unsigned w64 (cast_signed w64 n)) back ∙ back)

-- what a function gives for the first numbers
abbrev listed : ℕ → (ℕ → ℕ) → List ℕ
listed zero f = []
listed (suc n) f = f 0 ∷ listed n (λ i. f (suc i))

listed-all : (bytes : List ℕ) → listed (length bytes) (slice_index bytes) ≡ bytes
listed-all [] = refl
listed-all (b ∷ bs) = ap (λ more. b ∷ more) (listed-all bs)

-- the bytes of a cell, one by one
pub sixteen : (bytes : List ℕ) → length bytes ≡ 16 → listed 16 (slice_index bytes) ≡ bytes
sixteen bytes long = sym (ap (λ n. listed n (slice_index bytes)) long) ∙ listed-all bytes

alone_4 : (a b : ℤ) → FitsSigned w32 a → FitsSigned w32 b → big_endian w32 a ≡ big_endian w32 b → a ≡ b
alone_4 a b fits fits' same = sym (read_4 a fits) ∙ ap (λ bytes. cast_signed w32 (from_be_bytes w32 bytes)) same ∙ read_4 b fits'

alone_8 : (a b : ℤ) → FitsSigned w64 a → FitsSigned w64 b → big_endian w64 a ≡ big_endian w64 b → a ≡ b
alone_8 a b fits fits' same = sym (read_8 a fits) ∙ ap (λ bytes. cast_signed w64 (from_be_bytes w64 bytes)) same ∙ read_8 b fits'

pub cells_alone : (t u : Interval) → IsInRange t → IsInRange u → cell t ≡ cell u → t ≡ u
cells_alone t u range range' same =
    let micros : big_endian w64 t.microseconds ≡ big_endian w64 u.microseconds = ap (take 8) same in
    let days : big_endian w32 t.days ≡ big_endian w32 u.days = ap (λ bytes. take 4 (drop 8 bytes)) same in
    let months : big_endian w32 t.months ≡ big_endian w32 u.months = ap (drop 12) same in
    λ i. record {
      months = alone_4 _ _ range.months range'.months months i;
      days = alone_4 _ _ range.days range'.days days i;
      microseconds = alone_8 _ _ range.microseconds range'.microseconds micros i;
    }
