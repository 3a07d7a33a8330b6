-- Answers to the goals of the law `a_tenth_of_a_sample_is_refused`.
use Rattle.forms.proofs.SampleReplies.{tenth_refused}
use Rattle.forms.proofs.laws.a_tenth_of_a_sample_is_refused.Goals as goal

pub returns : goal.returns
returns c = tenth_refused (record {
  one_line = c.written_text_is_one_line.ensures;
  alphabet = c.texts_are_of_one_alphabet.ensures;
  back = c.written_text_is_read_back.ensures.denotes;
}) c.one_output.ensures
