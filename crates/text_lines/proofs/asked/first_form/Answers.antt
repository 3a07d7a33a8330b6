-- Answers to the goals of `asked::first_form`.
use Rattle.std.proofs.Common.{◌≡◌, None, Some, sym}
use Rattle.text_lines.proofs.AskedWords.{form_before}
use Rattle.text_lines.proofs.asked.first_form.Goals as goal

pub returns-in_err-by_name-in-Some-clause-only : goal.returns-in_err-by_name-in-Some-clause-only
returns-in_err-by_name-in-Some-clause-only c = λ form rest is.
    let same = form_before c.args.words.now c.in-Some.name.now c.in-Some.rest.now form rest c.in-Some.ensures.found is in
    let clash : None ≡ Some form = (c.in_err-by_name-in-Some.ensures form).1 same.0 in
    absurd cc

pub returns-in_ok-by_name-in-Some-clause-only : goal.returns-in_ok-by_name-in-Some-clause-only
returns-in_ok-by_name-in-Some-clause-only c = λ form rest is.
    let same = form_before c.args.words.now c.in-Some.name.now c.in-Some.rest.now form rest c.in-Some.ensures.found is in
    let found : Some c.in_ok-by_name-in-Some.field-0 ≡ Some form = (c.in_ok-by_name-in-Some.ensures form).1 same.0 in
    let form_same : c.in_ok-by_name-in-Some.field-0 ≡ form = cc in
    (form_same, sym same.1)
