-- Answers to the goals of the law `texts_are_ascii`.
use Rattle.iso8601.proofs.AsciiTexts.{date_ascii, date_time_ascii, duration_ascii}
use Rattle.iso8601.proofs.laws.texts_are_ascii.Goals as goal

pub returns : goal.returns
returns c = record { date = date_ascii; date_time = date_time_ascii; duration = duration_ascii }
