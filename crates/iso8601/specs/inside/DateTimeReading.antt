-- What the reader of date-times answers, as a function on lists. Cited by private contracts alone.
use Rattle.std.specs.Prelude.{ℕ, List, Option, Some, option_and_then}
use Rattle.iso8601.specs.declared.types.DateTime.{DateTime}
use Rattle.iso8601.specs.declared.types.Date.{Date}
use Rattle.iso8601.specs.declared.types.Time.{Time}
use Rattle.iso8601.specs.inside.Reading.{read_date, read_mark}
use Rattle.iso8601.specs.inside.TimeReading.{read_time}

abbrev pub date_time_of : Date → Time → DateTime
date_time_of d t = record { date = d; time = t }

unfoldable pub read_date_time : List ℕ → Option (DateTime × List ℕ)
read_date_time bytes =
    option_and_then (λ d.
    option_and_then (λ behind.
    option_and_then (λ t. Some (date_time_of d.0 t.0, t.1))
    (read_time behind))
    (read_mark 84 d.1))
    (read_date bytes)
