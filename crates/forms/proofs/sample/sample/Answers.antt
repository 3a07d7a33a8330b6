-- Answers to the goals of `sample::sample`.
use Rattle.std.proofs.Common.{sym, length}
use Rattle.forms.proofs.sample.sample.Goals as goal

pub returns-in-Ok-clause-tenth : goal.returns-in-Ok-clause-tenth
returns-in-Ok-clause-tenth g c = λ done.
    let counts = c.a_tenth_of_a_sample_is_refused.ensures c.args.count c.held.result.now (rw c.held.ensures c.in-Some.ensures) in (
      length c.held.result.now,
      rw (
        sym counts.1,
        sym counts.0,
        sym c.summary-line.ensures,
        sym c.as_str.ensures.value,
        sym c.as_bytes.ensures.value,
      ) c.in-Ok.ensures.ok,
    )
