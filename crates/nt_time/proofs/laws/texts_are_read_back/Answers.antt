-- Answers to the goals of the law `texts_are_read_back`.
use Rattle.std.proofs.Common.{refl, sym, inl}
use Rattle.std.proofs.lemmas.Fmt.{decimal_is_IsNumeral}
use Rattle.nt_time.proofs.laws.texts_are_read_back.Goals as goal

pub returns : goal.returns
returns c = λ ticks result fits read.
    let numeral = decimal_is_IsNumeral ticks fits in
    read.all ticks (_, numeral.0, sym numeral.1, inl refl) fits
