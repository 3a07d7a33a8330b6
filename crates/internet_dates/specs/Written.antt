-- The texts that are written of dates in UTC: IMF-fixdate of RFC 9110, section 5.6.7, and the date of RFC 5322, section 3.3.
use Rattle.std.specs.Prelude.{ℕ, List, [], ◌++◌, codes, Option, Some, None}
use Rattle.scan_core.specs.Padded.{padded_digits}
use Rattle.internet_dates.specs.Names.{day_name, month_name}
use Rattle.internet_dates.specs.declared.date_time.DateTime.{DateTime}

-- the name of the day, where there is one
abbrev pub weekday_text : Option ℕ → List ℕ
weekday_text (Some weekday) = day_name weekday
weekday_text None = []

-- `08:49:37`
unfoldable pub full_clock_text : ℕ → ℕ → ℕ → List ℕ
full_clock_text hour minute second =
    padded_digits 2 hour ++ (codes ":" ++ (padded_digits 2 minute ++ (codes ":"
    ++ padded_digits 2 second)))

-- `Sun, 06 Nov 1994`
unfoldable pub named_date_text : DateTime → List ℕ
named_date_text t =
    weekday_text t.weekday ++ (codes ", " ++ (padded_digits 2 t.day ++ (codes " "
    ++ (month_name t.month ++ (codes " " ++ padded_digits 4 t.year)))))

-- `Sun, 06 Nov 1994 08:49:37`, without the zone
unfoldable pub moment_text : DateTime → List ℕ
moment_text t = named_date_text t ++ (codes " " ++ full_clock_text t.hour t.minute t.second)

-- `Sun, 06 Nov 1994 08:49:37 GMT`
abbrev pub http_date_text : DateTime → List ℕ
http_date_text t = moment_text t ++ codes " GMT"

-- `Sun, 06 Nov 1994 08:49:37 +0000`
abbrev pub mail_date_text : DateTime → List ℕ
mail_date_text t = moment_text t ++ codes " +0000"
