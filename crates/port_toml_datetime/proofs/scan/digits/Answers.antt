-- Answers to the goals of `scan::digits`.
use Rattle.std.proofs.Common.{◌∙◌}
use Rattle.scan_core.proofs.FrontFacts.{front_are_digits}
use Rattle.port_toml_datetime.proofs.TokenFacts.{no_token_found, token_found}
use Rattle.port_toml_datetime.proofs.scan.digits.Goals as goal

pub returns-clause-digits : goal.returns-clause-digits
returns-clause-digits c = rw c.split_digits.ensures.front (front_are_digits c.args.bytes.now)

pub returns-clause-is : goal.returns-clause-is
returns-clause-is c = (token_found c.args.bytes.now _ c.is_empty.result c.split_digits.ensures.front c.is_empty.ensures
    c.if-is_empty.false).is

pub returns-clause-token : goal.returns-clause-token
returns-clause-token c = c.split_digits.ensures.front ∙ (token_found c.args.bytes.now _ c.is_empty.result c.split_digits.ensures.front
    c.is_empty.ensures c.if-is_empty.false).first

pub returns-clause-rest : goal.returns-clause-rest
returns-clause-rest c = c.split_digits.ensures.rest ∙ (token_found c.args.bytes.now _ c.is_empty.result c.split_digits.ensures.front
    c.is_empty.ensures c.if-is_empty.false).follows

pub returns-then-is_empty-clause-isnt : goal.returns-then-is_empty-clause-isnt
returns-then-is_empty-clause-isnt c = no_token_found c.args.bytes.now _ c.is_empty.result c.split_digits.ensures.front c.is_empty.ensures
    c.if-is_empty.true
