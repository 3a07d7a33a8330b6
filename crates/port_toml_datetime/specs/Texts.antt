-- Written texts, by the same sections of the TOML specification 1.1: `1979-05-27T07:32:00.5-07:00`.
-- Each width is a least width: a number with more digits is written whole.
use Rattle.std.specs.Prelude.{ℕ, ◌+◌, ◌/◌, ◌%◌, true, false, ℤ, pos, negsuc, List, [], ◌∷◌, ◌++◌, codes, Option, Some, None}
use Rattle.scan_core.specs.Padded.{padded_digits, trimmed_digits}
use Rattle.scan_core.specs.Number.{sign_text}
use Rattle.port_toml_datetime.specs.declared.date.Date.{Date}
use Rattle.port_toml_datetime.specs.declared.time.Time.{Time}
use Rattle.port_toml_datetime.specs.declared.offset.Offset.{Offset}
use Rattle.port_toml_datetime.specs.declared.offset.Offset.TheVariants.{Z, Custom}
use Rattle.port_toml_datetime.specs.declared.datetime.Datetime.{Datetime}

-- the digits, or `0` where there are none
abbrev pub or_zero : List ℕ → List ℕ
or_zero [] = codes "0"
or_zero (b ∷ bs) = b ∷ bs

-- the digits of nanoseconds behind the point, without the zeros at their end
unfoldable pub fraction_text : ℕ → List ℕ
fraction_text nanosecond = or_zero (trimmed_digits (padded_digits 9 nanosecond))

-- `1979-05-27`
unfoldable pub full_date_text : Date → List ℕ
full_date_text d =
    padded_digits 4 d.year ++ (codes "-"
    ++ (padded_digits 2 d.month ++ (codes "-" ++ padded_digits 2 d.day)))

-- the second, which is 0 where a nanosecond stands alone, and the fraction
abbrev pub partial_second_text : Option ℕ → Option ℕ → List ℕ
partial_second_text None None = []
partial_second_text (Some s) None = codes ":" ++ padded_digits 2 s
partial_second_text None (Some n) = codes ":" ++ (padded_digits 2 0 ++ (codes "." ++ fraction_text n))
partial_second_text (Some s) (Some n) = codes ":" ++ (padded_digits 2 s ++ (codes "." ++ fraction_text n))

-- `07:32:00.5`
unfoldable pub partial_time_text : Time → List ℕ
partial_time_text t =
    padded_digits 2 t.hour ++ (codes ":" ++ (padded_digits 2 t.minute
    ++ partial_second_text t.second t.nanosecond))

-- `HH:MM` of so many minutes
abbrev pub minutes_text : ℕ → List ℕ
minutes_text minutes =
    padded_digits 2 (minutes / 60) ++ (codes ":" ++ padded_digits 2 (minutes % 60))

-- a sign, and `HH:MM` of the magnitude
abbrev pub signed_text : ℤ → List ℕ
signed_text (pos n) = sign_text false ++ minutes_text n
signed_text (negsuc n) = sign_text true ++ minutes_text (n + 1)

-- `Z`, or a signed offset
unfoldable pub time_offset_text : Offset → List ℕ
time_offset_text Z = codes "Z"
time_offset_text (Custom minutes) = signed_text minutes

-- the text of a part, or nothing where there is none
abbrev pub part_text : {A : Type 0} → (A → List ℕ) → Option A → List ℕ
part_text text None = []
part_text text (Some a) = text a

-- `T` stands between a date and a time
abbrev pub delimiter_text : Option Date → Option Time → List ℕ
delimiter_text (Some d) (Some t) = codes "T"
delimiter_text None t = []
delimiter_text (Some d) None = []

-- the parts that are there
unfoldable pub text_of : Datetime → List ℕ
text_of d =
    part_text full_date_text d.date ++ (delimiter_text d.date d.time
    ++ (part_text partial_time_text d.time ++ part_text time_offset_text d.offset))
