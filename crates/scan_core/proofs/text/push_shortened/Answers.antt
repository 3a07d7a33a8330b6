-- Answers to the goals of `text::push_shortened`.
use Rattle.std.proofs.Common.{sym, append-nil}
use Rattle.scan_core.proofs.TrimmedFacts.{trimmed_nothing}
use Rattle.scan_core.proofs.text.push_shortened.Goals as goal

pub returns-else-value-ne0-clause-bytes : goal.returns-else-value-ne0-clause-bytes
returns-else-value-ne0-clause-bytes g c =
    let zero = c.if-value-ne0.false in
    rw (zero, trimmed_nothing) (sym (append-nil c.args.out.now.bytes))
