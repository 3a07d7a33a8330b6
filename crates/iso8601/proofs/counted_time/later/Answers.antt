-- Answers to the goals of `counted_time::later`.
use Rattle.std.proofs.Common.{◌≡◌, true, false, sym, ◌∙◌}
use Rattle.iso8601.proofs.CountedFacts.{no_field}
use Rattle.iso8601.proofs.counted_time.later.Goals as goal

pub returns-else-begins_field-clause-read : goal.returns-else-begins_field-clause-read
returns-else-begins_field-clause-read g c =
    sym (no_field c.args.hi _ (λ b. let never : true ≡ false = sym (c.begins_field.ensures.1 b) ∙ c.if-begins_field.false in cc))
