-- Answers to the goals of `asked::two_forms`.
use Rattle.std.proofs.Common.{◌≡◌, ◌++◌, List, ℕ, None, Some, Option, Bor, subst}
use Rattle.std.specs.Option.{option_copied}
use Rattle.forms.specs.Names.{name_of}
use Rattle.text_lines.specs.inside.Words.{behind}
use Rattle.text_lines.proofs.asked.two_forms.Goals as goal

pub returns-in_err-from-clause-only : goal.returns-in_err-from-clause-only
returns-in_err-from-clause-only c = λ from to rest is.
    absurd (c.in_err-from.ensures.only from (Some (name_of to ++ behind rest)) is)

pub returns-in_err-rest-clause-only : goal.returns-in_err-rest-clause-only
returns-in_err-rest-clause-only c = λ from to rest is.
    let first = c.in_ok-from.ensures.only from (Some (name_of to ++ behind rest)) is in
    let none : option_copied None ≡ Some (name_of to ++ behind rest) = subst
    (λ (r : Option (Bor (List ℕ))). option_copied r ≡ Some (name_of to ++ behind rest)) c.in_err-rest.was first.1 in
    absurd cc

pub returns-in_err-to-clause-only : goal.returns-in_err-to-clause-only
returns-in_err-to-clause-only c = λ from to rest is.
    let first = c.in_ok-from.ensures.only from (Some (name_of to ++ behind rest)) is in
    let here : option_copied (Some c.in_ok-rest.field-0) ≡ Some (name_of to ++ behind rest) = subst
    (λ (r : Option (Bor (List ℕ))). option_copied r ≡ Some (name_of to ++ behind rest)) c.in_ok-rest.was first.1 in
    let tail : c.in_ok-rest.field-0.now ≡ name_of to ++ behind rest = cc in
    absurd (c.in_err-to.ensures.only to rest tail)

pub returns-clause-only : goal.returns-clause-only
returns-clause-only c = λ from to rest is.
    let first = c.in_ok-from.ensures.only from (Some (name_of to ++ behind rest)) is in
    let here : option_copied (Some c.in_ok-rest.field-0) ≡ Some (name_of to ++ behind rest) = subst
    (λ (r : Option (Bor (List ℕ))). option_copied r ≡ Some (name_of to ++ behind rest)) c.in_ok-rest.was first.1 in
    let tail : c.in_ok-rest.field-0.now ≡ name_of to ++ behind rest = cc in
    let second = c.in_ok-to.ensures.only to rest tail in
    (first.0, second.0, second.1)
