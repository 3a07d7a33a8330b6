-- Answers to the goals of the law `a_written_text_spells_its_value`.
use Rattle.iso8601.proofs.SpelledDurations.{duration_spelled}
use Rattle.iso8601.proofs.SpelledTimes.{date_spelled, time_spelled, date_time_spelled}
use Rattle.iso8601.proofs.laws.a_written_text_spells_its_value.Goals as goal

pub returns : goal.returns
returns c = record { date = date_spelled; time = time_spelled; date_time = date_time_spelled; duration = duration_spelled }
