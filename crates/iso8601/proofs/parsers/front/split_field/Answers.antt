-- Answers to the goals of `parsers::front::split_field`.
use Rattle.std.proofs.Common.{◌≡◌, true, false, refl, rules}
use Rattle.std.proofs.lemmas.List.{take_rest}
use Rattle.iso8601.proofs.FieldFacts.{field_some, field_none}
use Rattle.iso8601.proofs.parsers.front.split_field.Goals as goal

pub returns-in_err-value-clause-field : goal.returns-in_err-value-clause-field
returns-in_err-value-clause-field c =
    rw (
      c.from_residual.ensures,
      field_none c.args.count c.args.lo c.args.hi c.args.bytes.now
          (λ h. let never : false ≡ true = c.in_err-value.ensures.found.1 h in cc),
    ) refl

pub returns-clause-field : goal.returns-clause-field
returns-clause-field c =
    let found = c.in_ok-value.ensures.found.0 (search rules) in
    rw (
      take_rest,
      field_some c.args.count c.args.lo c.args.hi c.args.bytes.now found.0 found.1 found.2 found.3,
      c.in_ok-value.ensures.value,
    ) refl
