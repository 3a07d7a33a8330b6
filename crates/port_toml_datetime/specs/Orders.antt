-- The order of dates, times and offsets: by their parts in turn.
use Rattle.std.specs.Prelude.{Option, Some, None}
use Rattle.std.specs.declared.cmp.Ordering.{Ordering}
use Rattle.std.specs.declared.cmp.Ordering.TheVariants.{Less, Equal, Greater}
use Rattle.std.specs.Ordering.{int_cmp, nat_cmp, ordering_then}
use Rattle.port_toml_datetime.specs.declared.date.Date.{Date}
use Rattle.port_toml_datetime.specs.declared.time.Time.{Time}
use Rattle.port_toml_datetime.specs.declared.offset.Offset.{Offset}
use Rattle.port_toml_datetime.specs.declared.offset.Offset.TheVariants.{Z, Custom}

-- one that isn't there comes before each that is
abbrev pub none_first : {A : Type 0} → (A → A → Ordering) → Option A → Option A → Ordering
none_first cmp None None = Equal
none_first cmp None (Some b) = Less
none_first cmp (Some a) None = Greater
none_first cmp (Some a) (Some b) = cmp a b

-- by year, month and day
abbrev pub date_cmp : Date → Date → Ordering
date_cmp a b =
    ordering_then (nat_cmp a.year b.year)
    (ordering_then (nat_cmp a.month b.month) (nat_cmp a.day b.day))

-- by hour, minute, second and nanosecond, where one that isn't written comes first
abbrev pub time_cmp : Time → Time → Ordering
time_cmp a b =
    ordering_then (nat_cmp a.hour b.hour)
    (ordering_then (nat_cmp a.minute b.minute)
    (ordering_then (none_first nat_cmp a.second b.second)
    (none_first nat_cmp a.nanosecond b.nanosecond)))

-- UTC comes before each offset of minutes
abbrev pub offset_cmp : Offset → Offset → Ordering
offset_cmp Z Z = Equal
offset_cmp Z (Custom m) = Less
offset_cmp (Custom m) Z = Greater
offset_cmp (Custom m) (Custom n) = int_cmp m n
