-- The names of days, months and zones in dates of HTTP and of mail: RFC 9110, section 5.6.7, and RFC 5322, sections 3.3 and
-- 4.3. They are told by case, as RFC 9110 has it; the grammar of RFC 5322 takes letters of either case.
use Rattle.std.specs.Prelude.{◌≡◌, ℕ, ◌-◌, ◌*◌, ◌<◌, ◌≤◌, ℤ, pos, neg_ℤ, List, [], ◌∷◌, codes, get_or}

-- the days of the week from Monday on
abbrev pub day_names : List (List ℕ)
day_names =
    codes "Mon" ∷ (codes "Tue" ∷ (codes "Wed" ∷ (codes "Thu" ∷ (codes "Fri" ∷ (codes "Sat"
    ∷ (codes "Sun" ∷ []))))))

-- the months from January on
abbrev pub month_names : List (List ℕ)
month_names =
    codes "Jan" ∷ (codes "Feb" ∷ (codes "Mar" ∷ (codes "Apr" ∷ (codes "May" ∷ (codes "Jun"
    ∷ (codes "Jul" ∷ (codes "Aug" ∷ (codes "Sep" ∷ (codes "Oct" ∷ (codes "Nov"
    ∷ (codes "Dec" ∷ [])))))))))))

-- zones by three letters
abbrev pub zone_names : List (List ℕ)
zone_names =
    codes "GMT" ∷ (codes "EST" ∷ (codes "EDT" ∷ (codes "CST" ∷ (codes "CDT" ∷ (codes "MST"
    ∷ (codes "MDT" ∷ (codes "PST" ∷ (codes "PDT" ∷ []))))))))

-- how many hours each of these zones is behind UTC
abbrev pub zone_hours : List ℕ
zone_hours = 0 ∷ (5 ∷ (4 ∷ (6 ∷ (5 ∷ (7 ∷ (6 ∷ (8 ∷ (7 ∷ []))))))))

-- the name of a day of the week, 0 for Monday
abbrev pub day_name : ℕ → List ℕ
day_name weekday = get_or day_names weekday []

-- the name of a month, 1 for January
abbrev pub month_name : ℕ → List ℕ
month_name month = get_or month_names (month - 1) []

-- the text is the name of this day of the week
abbrev pub IsDayName : List ℕ → ℕ → Type 0
IsDayName text weekday = (weekday < 7) × (text ≡ day_name weekday)

-- the text is the name of this month
abbrev pub IsMonthName : List ℕ → ℕ → Type 0
IsMonthName text month = (1 ≤ month) × (month ≤ 12) × (text ≡ month_name month)

-- the text is the name of a zone so many minutes ahead of UTC
abbrev pub IsZoneName : List ℕ → ℤ → Type 0
IsZoneName text minutes =
    (n : ℕ) × (n < 9) × (text ≡ get_or zone_names n [])
    × (minutes ≡ neg_ℤ (pos (60 * get_or zone_hours n 0)))
