-- Answers to the goals of `runs::with_letter`.
use Rattle.std.proofs.Common.{◌≡◌, rules}
use Rattle.scan_core.proofs.PackedFacts.{letter_modulo}
use Rattle.scan_core.proofs.runs.with_letter.Goals as goal

pub returns : goal.returns
returns c = λ n same. let letter : c.from.result ≡ c.args.letter = search rules in
    rw letter (letter_modulo c.args.value n c.args.letter same)
