-- Answers to the goals of the law `a_written_text_is_read_back`.
use Rattle.iso8601.specs.Dates.{IsDate}
use Rattle.iso8601.specs.DateTimes.{IsDateTime}
use Rattle.iso8601.specs.Durations.{IsDuration}
use Rattle.iso8601.specs.Times.{IsTime}
use Rattle.iso8601.specs.Written.{date_text, time_text, date_time_text}
use Rattle.iso8601.specs.WrittenDurations.{duration_text}
use Rattle.iso8601.proofs.DateReading.{one_date}
use Rattle.iso8601.proofs.DateTimeReading.{one_date_time}
use Rattle.iso8601.proofs.DurationReading.{one_duration}
use Rattle.iso8601.proofs.TimeReading.{one_time}
use Rattle.iso8601.proofs.Longest.{whole_text}
use Rattle.iso8601.proofs.SpelledDurations.{duration_spelled}
use Rattle.iso8601.proofs.SpelledTimes.{date_spelled, time_spelled, date_time_spelled}
use Rattle.iso8601.proofs.laws.a_written_text_is_read_back.Goals as goal

pub returns : goal.returns
returns c = record {
  date = λ d value rest r. whole_text IsDate one_date (date_text d) d (date_spelled d r) value rest;
  time = λ t value rest r. whole_text IsTime one_time (time_text t) t (time_spelled t r) value rest;
  date_time = λ t value rest r. whole_text IsDateTime one_date_time (date_time_text t) t (date_time_spelled t r) value rest;
  duration = λ d value rest r. whole_text IsDuration one_duration (duration_text d) d (duration_spelled d r) value rest;
}
