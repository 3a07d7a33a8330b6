-- A fraction's digits without the zeros at the end, pushed.
use Rattle.std.proofs.Common.{◌≡◌, ◌≢◌, ℕ, ◌^◌, ◌<◌, List, [], ◌∷◌, ◌++◌, length, codes, refl, arith}
use Rattle.scan_core.specs.Padded.{padded_digits, trimmed_digits}
use Rattle.scan_core.proofs.TrimmedFacts.{trimmed_nothing, trimmed_some}
use Rattle.port_toml_datetime.specs.Texts.{fraction_text, or_zero}

or_some : (digits : List ℕ) → 0 < length digits → or_zero digits ≡ digits
or_some [] some = absurd (omega arith)
or_some (d ∷ ds) some = refl

pub some_pushed : (front all : List ℕ) (n : ℕ) → n ≢ 0 → n < 2 ^ 32 → all ≡ front ++ trimmed_digits (padded_digits 9 n)
    → all ≡ front ++ fraction_text n
unfolding fraction_text
some_pushed front all n some fits e = rw (
  e,
  or_some (trimmed_digits (padded_digits 9 n))
      (trimmed_some 9 n (omega (arith, some)) (omega (arith, fits))),
) refl

pub zero_pushed : (front all : List ℕ) (n : ℕ) → n ≡ 0 → all ≡ front ++ codes "0" → all ≡ front ++ fraction_text n
unfolding fraction_text
zero_pushed front all n zero e = rw (e, zero, trimmed_nothing) refl
