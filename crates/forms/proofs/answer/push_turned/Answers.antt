-- Answers to the goals of `answer::push_turned`.
use Rattle.std.proofs.Common.{refl}
use Rattle.forms.specs.Answers.{Then}
use Rattle.forms.specs.Forms.{Writes}
use Rattle.forms.specs.ReadBack.{Turns}
use Rattle.forms.proofs.Putting.{puts_so}
use Rattle.forms.proofs.answer.push_turned.Goals as goal

pub returns-clause-turned : goal.returns-clause-turned
returns-clause-turned g c =
    let read = (c.read_bytes.ensures.answer c.read_bytes.result).0 refl in
    puts_so (Then (Writes c.args.to) c.read_bytes.result) (Turns c.args.from c.args.to c.args.text.now)
    (λ answer h. (c.read_bytes.result, read, h)) _ _ _ c.push_read.ensures.answer
