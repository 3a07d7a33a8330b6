-- Numbers in two digits.
use Rattle.std.proofs.Common.{◌≡◌, ℕ, ◌-◌, ◌^◌, false, List, [], ◌++◌, length, replicate, append-nil, ap, ◌∙◌, arith}
use Rattle.std.specs.Fmt.{padded_integral, format_spec, decimal, char_count}
use Rattle.scan_core.specs.Padded.{padded_digits}

-- what `{:02}` writes of a number
pub padded_two : (n : ℕ) → padded_integral (format_spec 32 0 4 2 (2 ^ 64 - 1)) false [] (decimal n) ≡ padded_digits 2 n
unfolding padded_integral char_count
padded_two n =
    let bare : 2 - length (decimal n) - 0 - 0 ≡ 2 - length (decimal n) = omega arith in
    ap (λ (zeros : ℕ). replicate zeros 48 ++ (decimal n ++ [])) bare
    ∙ ap (λ (digits : List ℕ). replicate (2 - length (decimal n)) 48 ++ digits) (append-nil (decimal n))
