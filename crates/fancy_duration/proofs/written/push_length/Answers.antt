-- Answers to the goals of `written::push_length`.
use Rattle.std.proofs.Common.{◌≢◌, ℕ, ◌++◌, false, not, ◌==◌, List, ◌∙◌, ap, arith, append_assoc}
use Rattle.fancy_duration.specs.Parts.{weight_of}
use Rattle.fancy_duration.specs.Times.{nanos_of}
use Rattle.fancy_duration.specs.inside.Writing.{counts_behind, long_parts, seconds_of, short_parts}
use Rattle.fancy_duration.proofs.Writers.{pushed, pushed_nothing}
use Rattle.fancy_duration.proofs.written.push_length.Goals.{else-secs-eq0-via-then-secs-eq0+else-nanos-eq0, else-secs-eq0-via-else-secs-eq0}
use Rattle.fancy_duration.proofs.written.push_length.Goals as goal

pub returns-then-nanos-eq0-clause-bytes : goal.returns-then-nanos-eq0-clause-bytes
returns-then-nanos-eq0-clause-bytes g c =
    c.push_text.ensures.bytes ∙ ap (λ (text : List ℕ). c.args.out.now.bytes ++ text)
    (pushed_nothing c.args.secs c.args.nanos c.if-secs-eq0.true c.if-nanos-eq0.true)

pub returns-else-secs-eq0-clause-bytes : goal.returns-else-secs-eq0-clause-bytes
returns-else-secs-eq0-clause-bytes g c =
    let some : nanos_of (c.args.secs, c.args.nanos) ≢ 0 =
    elim c.else-secs-eq0.branch [
      | else-secs-eq0-via-then-secs-eq0+else-nanos-eq0 w ↦ λ e. w.if-nanos-eq0.false (omega (arith, e))
      | else-secs-eq0-via-else-secs-eq0 w ↦ λ e. w.if-secs-eq0.false (omega (arith, e))
    ] in
    let long = counts_behind seconds_of false long_parts c.args.secs in
    let short = counts_behind weight_of (not (c.args.secs == 0)) short_parts c.args.nanos in
    c.push_nanos.ensures.bytes
    ∙ ap (λ (text : List ℕ). text ++ short) c.push_seconds.ensures.bytes
    ∙ append_assoc c.args.out.now.bytes long short
    ∙ ap (λ (text : List ℕ). c.args.out.now.bytes ++ text) (pushed c.args.secs c.args.nanos c.requires.sub_second some)
