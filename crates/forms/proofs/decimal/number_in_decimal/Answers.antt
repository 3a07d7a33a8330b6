-- Answers to the goals of `decimal::number_in_decimal`.
use Rattle.std.proofs.Common.{◌≡◌, ◌^◌, ◌<◌, ℕ, true, false, decimal, Some, None, sym, ◌∙◌, ap, subst, rules, arith}
use Rattle.std.specs.Result.{result_ok}
use Rattle.std.proofs.lemmas.Fmt.{parse-decimal}
use Rattle.forms.proofs.decimal.number_in_decimal.Goals as goal

pub returns-in_err-number : goal.returns-in_err-number
returns-in_err-number c = rw c.from_residual.ensures (λ number. (
  λ is. absurd (let clash : None ≡ Some number = is in cc),
  λ is.
      let parsed = parse-decimal 64 number c.args.text.now c.parse.result (omega (arith, is.0))
      (omega (arith, is.0)) is.1 c.parse.ensures.value.0 in
      let clash : None ≡ Some number = c.in_err-number.ensures.value ∙ ap result_ok parsed in absurd cc,
))

pub returns-else-is_decimal : goal.returns-else-is_decimal
returns-else-is_decimal c = λ number. (
  λ is. absurd (let clash : None ≡ Some number = is in cc),
  λ is.
      let parsed = parse-decimal 64 number c.args.text.now c.parse.result (omega (arith, is.0))
      (omega (arith, is.0)) is.1 c.parse.ensures.value.0 in
      let both : Some c.in_ok-number.number ≡ Some number = c.in_ok-number.ensures.value ∙ ap result_ok parsed in
      let same : number ≡ c.in_ok-number.number = cc in
      let counted : true ≡ c.is_decimal.result = sym (c.is_decimal.ensures.1 (is.1 ∙ ap decimal same)) in
      absurd (let clash : true ≡ false = counted ∙ c.if-is_decimal.false in cc),
)

pub returns-then-is_decimal : goal.returns-then-is_decimal
returns-then-is_decimal c = λ number. (
  λ is.
      let same : c.in_ok-number.number ≡ number = cc in
      let told : c.args.text.now ≡ decimal c.in_ok-number.number = c.is_decimal.ensures.0 c.if-is_decimal.true in
      (subst (λ (n : ℕ). n < 2 ^ 64) same (search rules), told ∙ ap decimal same),
  λ is.
      let parsed = parse-decimal 64 number c.args.text.now c.parse.result (omega (arith, is.0))
      (omega (arith, is.0)) is.1 c.parse.ensures.value.0 in
      c.in_ok-number.ensures.value ∙ ap result_ok parsed,
)
