-- Answers to the goals of `line::named_text`.
use Rattle.std.proofs.Common.{◌≡◌, ◌++◌, List, ℕ, Some, ap, ◌∙◌}
use Rattle.forms.specs.Names.{name_of}
use Rattle.forms.specs.inside.Reading.{IsNamed}
use Rattle.forms.proofs.Requests.{by_tail}
use Rattle.forms.proofs.AsciiNames.{names_of}
use Rattle.forms.proofs.Words.{tail_behind, one_name}
use Rattle.forms.proofs.line.named_text.Goals as goal

pub returns-in_err-from-clause-none : goal.returns-in_err-from-clause-none
returns-in_err-from-clause-none c =
    rw c.from_residual.ensures (λ from to text request.
    let asked = by_tail c.args.line.now from to text request in
    c.in_err-from.ensures.none from (Some (name_of to ++ asked.tail)) asked.joined)

pub returns-in_err-to-clause-none : goal.returns-in_err-to-clause-none
returns-in_err-to-clause-none c =
    rw c.from_residual-in_err-to.ensures (λ from to text request.
    let asked = by_tail c.args.line.now from to text request in
    let tail = tail_behind text asked.tail asked.rest in
    let here : IsNamed c.args.line.now c.in_ok-from.from (Some c.in_ok-rest.field-0.now) = rw c.in_ok-rest.was at c.in_ok-from.ensures.found
    in
    let both = one_name c.args.line.now (Some c.in_ok-rest.field-0.now)
    (Some (name_of to ++ asked.tail)) c.in_ok-from.from from here asked.joined in
    let same : Some c.in_ok-rest.field-0.now ≡ Some (name_of to ++ asked.tail) = both.1 in
    let rest : c.in_ok-rest.field-0.now ≡ name_of to ++ asked.tail = cc in
    c.in_err-to.ensures.none to tail.0 (rest ∙ ap (λ (l : List ℕ). name_of to ++ l) tail.1))

pub returns-clause-found : goal.returns-clause-found
returns-clause-found c =
    let here : IsNamed c.args.line.now c.in_ok-from.from (Some c.in_ok-rest.field-0.now) = rw c.in_ok-rest.was at c.in_ok-from.ensures.found
    in
    names_of c.args.line.now c.in_ok-rest.field-0.now c.text_behind.result.now c.in_ok-from.from c.in_ok-to.to _ here
    c.in_ok-to.ensures.found c.text_behind.ensures
