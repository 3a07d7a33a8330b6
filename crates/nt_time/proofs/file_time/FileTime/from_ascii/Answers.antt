-- Answers to the goals of `file_time::FileTime::from_ascii`.
use Rattle.std.proofs.Common.{◌≡◌, ◌^◌, ◌≤◌, true, false, ap, refl, subst, ◌∙◌, ⊎_elim}
use Rattle.std.proofs.lemmas.Bool.{cases_lt}
use Rattle.std.specs.Str.Parse.{IsNumeral, digits_value, without_leading_plus}
use Rattle.nt_time.proofs.TextLemmas.{read_ok, read_overflow}
use Rattle.nt_time.proofs.file_time.FileTime.from_ascii.Goals as goal

pub returns-in-Some-digits_u64 : goal.returns-in-Some-digits_u64
returns-in-Some-digits_u64 c =
    let numeral = c.in-Some.ensures.found in
    let value = c.in-Some-digits_u64.ensures.value ∙ ap (digits_value 10) numeral.1 in
    let fits = rw numeral.1 at (c.in-Some-digits_u64.ensures.fits.0 refl) in
    read_ok c.args.src.now _ (subst (IsNumeral 10) numeral.1 numeral.0) fits (c.new-in-Some-digits_u64.ensures ∙ value)

pub returns-in-None : goal.returns-in-None
returns-in-None c =
    let numeral = c.in-Some.ensures.found in
    let text = without_leading_plus c.args.src.now in
    let many : 2 ^ 64 ≤ digits_value 10 text = ⊎_elim
    (λ small. absurd (let clash : false ≡ true = c.in-None.ensures.fits.1 (rw numeral.1 small) in cc)) (λ h. h)
    (cases_lt (digits_value 10 text) (2 ^ 64)) in
    rw c.new-in-None.ensures (read_overflow c.args.src.now (subst (IsNumeral 10) numeral.1 numeral.0) many)
