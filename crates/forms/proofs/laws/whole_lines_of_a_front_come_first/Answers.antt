-- Answers to the goals of `laws::whole_lines_of_a_front_come_first`.
use Rattle.forms.proofs.LinePieces.{lines_begin}
use Rattle.forms.proofs.laws.whole_lines_of_a_front_come_first.Goals as goal

pub returns : goal.returns
returns c = lines_begin
