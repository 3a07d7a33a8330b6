-- Answers to the goals of the law `texts_write_one_number`.
use Rattle.std.proofs.Common.{sym, inl, refl}
use Rattle.std.proofs.lemmas.Fmt.{decimal_is_IsNumeral}
use Rattle.nt_time.proofs.laws.texts_write_one_number.Goals as goal

pub returns-clause-digits : goal.returns-clause-digits
returns-clause-digits c = λ ticks fits.
    let numeral = decimal_is_IsNumeral ticks fits in
    (_, numeral.0, sym numeral.1, inl refl)
