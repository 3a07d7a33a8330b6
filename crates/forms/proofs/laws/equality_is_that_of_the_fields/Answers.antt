-- Answers to the goals of the law `equality_is_that_of_the_fields`.
use Rattle.std.proofs.Common.{rules}
use Rattle.forms.specs.declared.value.Value.TheVariants.{Instant, Day, Local, Clock, Triple, Length}
use Rattle.forms.proofs.laws.equality_is_that_of_the_fields.Goals as goal

pub returns-clause-values : goal.returns-clause-values
returns-clause-values c (Instant a0) (Instant b0) = search rules
returns-clause-values c (Instant a0) (Day b0) = search rules
returns-clause-values c (Instant a0) (Local b0 b1) = search rules
returns-clause-values c (Instant a0) (Clock b0) = search rules
returns-clause-values c (Instant a0) (Triple b0 b1 b2) = search rules
returns-clause-values c (Instant a0) (Length b0) = search rules
returns-clause-values c (Day a0) (Instant b0) = search rules
returns-clause-values c (Day a0) (Day b0) = search rules
returns-clause-values c (Day a0) (Local b0 b1) = search rules
returns-clause-values c (Day a0) (Clock b0) = search rules
returns-clause-values c (Day a0) (Triple b0 b1 b2) = search rules
returns-clause-values c (Day a0) (Length b0) = search rules
returns-clause-values c (Local a0 a1) (Instant b0) = search rules
returns-clause-values c (Local a0 a1) (Day b0) = search rules
returns-clause-values c (Local a0 a1) (Local b0 b1) = search rules
returns-clause-values c (Local a0 a1) (Clock b0) = search rules
returns-clause-values c (Local a0 a1) (Triple b0 b1 b2) = search rules
returns-clause-values c (Local a0 a1) (Length b0) = search rules
returns-clause-values c (Clock a0) (Instant b0) = search rules
returns-clause-values c (Clock a0) (Day b0) = search rules
returns-clause-values c (Clock a0) (Local b0 b1) = search rules
returns-clause-values c (Clock a0) (Clock b0) = search rules
returns-clause-values c (Clock a0) (Triple b0 b1 b2) = search rules
returns-clause-values c (Clock a0) (Length b0) = search rules
returns-clause-values c (Triple a0 a1 a2) (Instant b0) = search rules
returns-clause-values c (Triple a0 a1 a2) (Day b0) = search rules
returns-clause-values c (Triple a0 a1 a2) (Local b0 b1) = search rules
returns-clause-values c (Triple a0 a1 a2) (Clock b0) = search rules
returns-clause-values c (Triple a0 a1 a2) (Triple b0 b1 b2) = search rules
returns-clause-values c (Triple a0 a1 a2) (Length b0) = search rules
returns-clause-values c (Length a0) (Instant b0) = search rules
returns-clause-values c (Length a0) (Day b0) = search rules
returns-clause-values c (Length a0) (Local b0 b1) = search rules
returns-clause-values c (Length a0) (Clock b0) = search rules
returns-clause-values c (Length a0) (Triple b0 b1 b2) = search rules
returns-clause-values c (Length a0) (Length b0) = search rules
