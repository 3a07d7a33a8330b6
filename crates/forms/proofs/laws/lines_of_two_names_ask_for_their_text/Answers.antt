-- Answers to the goals of `laws::lines_of_two_names_ask_for_their_text`.
use Rattle.forms.proofs.AsciiNames.{asks_text, asks_nothing}
use Rattle.forms.proofs.laws.lines_of_two_names_ask_for_their_text.Goals as goal

pub returns : goal.returns
returns c = record { asked = asks_text; none = asks_nothing }
