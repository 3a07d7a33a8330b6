-- Earlier days and earlier times of day: the first field that differs decides.
use Rattle.std.specs.Prelude.{◌≡◌, ◌⊎◌, ◌<◌, ◌<ℤ◌}
use Rattle.jiff.specs.Types.{Date, Time}

-- the first day is before the second
abbrev pub IsEarlierDay : Date → Date → Type 0
IsEarlierDay a b =
    (a.year <ℤ b.year)
    ⊎ ((a.year ≡ b.year) × ((a.month < b.month) ⊎ ((a.month ≡ b.month) × (a.day < b.day))))

-- the first time of day is before the second, by their whole seconds
abbrev pub IsEarlierTime : Time → Time → Type 0
IsEarlierTime a b =
    (a.hour < b.hour)
    ⊎ ((a.hour ≡ b.hour)
    × ((a.minute < b.minute) ⊎ ((a.minute ≡ b.minute) × (a.second < b.second))))
