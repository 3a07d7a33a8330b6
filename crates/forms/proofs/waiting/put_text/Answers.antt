-- Answers to the goals of `waiting::put_text`.
use Rattle.forms.proofs.WaitingTexts.{front_of_longer}
use Rattle.forms.proofs.Writes.{on_err}
use Rattle.forms.proofs.waiting.put_text.Goals as goal

pub returns-in_err-make_room-clause-err : goal.returns-in_err-make_room-clause-err
returns-in_err-make_room-clause-err g c = on_err _ c.from_residual.result
    (front_of_longer _ _ c.args.batch.now.bytes c.args.text.now c.in_err-make_room.ensures.err)
