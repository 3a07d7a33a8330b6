-- Answers to the goals of `request::behind_r`.
use Rattle.std.proofs.Common.{arith}
use Rattle.std.specs.Option.{MatchOption, IfNone}
use Rattle.std.proofs.lemmas.Str.Pattern.{strip_prefix_char}
use Rattle.std.specs.Prelude.{Option, Some, None}
use Rattle.recurrence.proofs.request.behind_r.Goals as goal

if_none : {T : Type 0} (r : Option T) (P : Type 0) (Q : T → Type 0) → MatchOption r P Q → IfNone r P
if_none None P Q h = h
if_none (Some x) P Q h = tt

pub returns-clause-none : goal.returns-clause-none
returns-clause-none c = if_none c.strip_prefix.result _ _ (strip_prefix_char 82 c.args.text.now c.strip_prefix.result
    c.strip_prefix.ensures.cases (omega arith))
