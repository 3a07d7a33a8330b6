-- Answers to the goals of the law `a_text_has_one_value`.
use Rattle.iso8601.proofs.DateReading.{one_date}
use Rattle.iso8601.proofs.DateTimeReading.{one_date_time}
use Rattle.iso8601.proofs.DurationReading.{one_duration}
use Rattle.iso8601.proofs.TimeReading.{one_time}
use Rattle.iso8601.proofs.laws.a_text_has_one_value.Goals as goal

pub returns : goal.returns
returns c = record { date = one_date; time = one_time; date_time = one_date_time; duration = one_duration }
