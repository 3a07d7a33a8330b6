-- Answers to the goals of `text::push_fraction`.
use Rattle.std.proofs.Common.{◌≡◌, ℕ, ◌++◌, ◌∙◌, ap, arith}
use Rattle.scan_core.specs.Padded.{padded_digits, trimmed_digits}
use Rattle.port_toml_datetime.proofs.PaddedFacts.{some_pushed, zero_pushed}
use Rattle.port_toml_datetime.proofs.text.push_fraction.Goals as goal

pub returns-then-nanosecond-eq0-clause-bytes : goal.returns-then-nanosecond-eq0-clause-bytes
returns-then-nanosecond-eq0-clause-bytes g c = zero_pushed _ _ c.args.nanosecond c.if-nanosecond-eq0.true
    (c.push.ensures.ascii (omega arith))

pub returns-else-nanosecond-eq0-clause-bytes : goal.returns-else-nanosecond-eq0-clause-bytes
returns-else-nanosecond-eq0-clause-bytes g c =
    let same : c.from.result ≡ c.args.nanosecond = c.from.ensures in
    some_pushed _ _ c.args.nanosecond c.if-nanosecond-eq0.false c.ranges.nanosecond.fits
    (c.push_trimmed.ensures.bytes ∙ ap (λ (n : ℕ). c.args.out.now.bytes ++ trimmed_digits (padded_digits 9 n)) same)
