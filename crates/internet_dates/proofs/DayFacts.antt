-- The days of years from 0 to 9999 are civil days, and a day has one date.
use Rattle.std.proofs.Common.{◌≡◌, ℕ, ◌+◌, ◌*◌, ◌<◌, ◌≤◌, Option, Some, None, refl, sym, ◌∙◌, ap, subst, arith, to_z, of_z}
use Rattle.std.specs.Prelude.{ℤ, pos, ◌+ℤ◌, ◌-ℤ◌, ◌*ℤ◌, ◌<ℤ◌, ◌≤ℤ◌, IfSome, IsSome}
use Rattle.std.specs.Int.{int_div_euclid, int_rem_euclid, w16}
use Rattle.std.proofs.lemmas.Int.{ints}
use Rattle.jiff_core.specs.Calendar.{IsYear, IsEpochDay, days_in_month as civil_days_in_month}
use Rattle.jiff_core.specs.Date.{epoch_day}
use Rattle.jiff_core.specs.declared.civil.date.Date.{Date as CivilDate}
use Rattle.jiff_core.proofs.DateLemmas.{epoch_day_range, epoch_day_injective}
use Rattle.jiff_core.proofs.SignedLemmas.{signed_arith}
use Rattle.scan_core.specs.Calendar.{days_in_month}
use Rattle.iso8601.specs.Calendar.{after_monday, day_of, Exists}
use Rattle.iso8601.specs.declared.types.Date.TheVariants.{YMD}
use Rattle.internet_dates.specs.DateTimes.{number_of_day, clock_of, IsRealMoment, IsNamedDateAt}
use Rattle.internet_dates.specs.declared.date_time.DateTime.{DateTime}
use Rattle.internet_dates.specs.inside.Days.{IsDay}

-- civil months have these days too
same_month : (year : ℤ) (month : ℕ) → civil_days_in_month year month ≡ days_in_month year month
same_month year month = refl

-- a day of these years is a civil one
civil_of : (y m d : ℕ) → y ≤ 9999 → Exists (YMD (pos y) m d) → CivilDate
civil_of y m d most e = record {
  year = pos y;
  month = m;
  day = d;
  year_in = (omega (arith, ints), omega (arith, ints, most));
  month_in = (e.0, e.1);
  day_in = (e.2, subst (λ (n : ℕ). d ≤ n) (sym (same_month (pos y) m)) e.3);
}

-- what the laws of the crate below say of civil dates
abbrev pub SameDays : Type 0
SameDays = (d : CivilDate) → day_of (YMD d.year d.month d.day) ≡ epoch_day d

abbrev pub AreThere : Type 0
AreThere = (d : CivilDate) → Exists (YMD d.year d.month d.day)

civil_day : SameDays → (y m d : ℕ) (most : y ≤ 9999) (e : Exists (YMD (pos y) m d))
    → day_of (YMD (pos y) m d) ≡ epoch_day (civil_of y m d most e)
unfolding civil_of
civil_day days y m d most e = days (civil_of y m d most e)

pub in_range : SameDays → (y m d : ℕ) → y ≤ 9999 → Exists (YMD (pos y) m d) → IsEpochDay (day_of (YMD (pos y) m d))
in_range days y m d most e = subst IsEpochDay (sym (civil_day days y m d most e)) (epoch_day_range (civil_of y m d most e))

pub less : (a b : ℤ) → (a ≤ℤ b → ⊥) → b <ℤ a
less a b isnt = grind (arith, ints)

-- ---- a civil date with this number

pub kept_year : (c : CivilDate) → to_z w16 (of_z w16 c.year) ≡ c.year
kept_year c = let range : IsYear c.year = c.year_in in omega (arith, ints)

pub is_day : AreThere → SameDays → (first : ℕ) (number : ℤ) (c : CivilDate) (year : ℕ) → c.year ≡ pos year → epoch_day c ≡ number
    → (year < first → ⊥) → IsDay first number year c.month c.day
is_day there days first number c year e same not_before =
    let y = c.year_in in
    let P : ℤ → Type 0 = λ z. Exists (YMD z c.month c.day) in
    record {
      least = omega (arith, not_before);
      most = omega (arith, ints);
      real = subst P e (there c);
      same = ap (λ (z : ℤ). day_of (YMD z c.month c.day)) (sym e) ∙ (days c ∙ same);
    }

pub no_day : SameDays → (first : ℕ) (number : ℤ) → (IsEpochDay number → ⊥) → (y m d : ℕ) → IsDay first number y m d → ⊥
no_day days first number isnt y m d is = isnt (subst IsEpochDay is.same (in_range days y m d is.most is.real))

same_year : SameDays → (first : ℕ) (number : ℤ) (c : CivilDate) (y m d : ℕ) → epoch_day c ≡ number → IsDay first number y m d
    → (pos y ≡ c.year) × (m ≡ c.month) × (d ≡ c.day)
unfolding civil_of
same_year days first number c y m d same is = epoch_day_injective (civil_of y m d is.most is.real) c
    (sym (civil_day days y m d is.most is.real) ∙ (is.same ∙ sym same))

pub early_day : SameDays → (first : ℕ) (number : ℤ) (c : CivilDate) → c.year <ℤ pos 0 → epoch_day c ≡ number → (y m d : ℕ)
    → IsDay first number y m d → ⊥
early_day days first number c early same y m d is = let years = (same_year days first number c y m d same is).0 in
    absurd (omega (arith, ints))

pub before_first : SameDays → (first : ℕ) (number : ℤ) (c : CivilDate) (year : ℕ) → c.year ≡ pos year → epoch_day c ≡ number → year < first
    → (y m d : ℕ) → IsDay first number y m d → ⊥
before_first days first number c year e same less y m d is =
    let years = (same_year days first number c y m d same is).0 in
    let least = is.least in
    absurd (omega (arith, ints))

-- ---- moments

clock_bound : (h m s : ℕ) → h < 24 → m < 60 → s < 60 → (h * 60 + m) * 60 + s < 86_400
clock_bound h m s a b c = omega (arith, a, b, c)

quotient : (day seconds : ℤ) (clock : ℕ) → clock < 86_400 → (day *ℤ pos 86_400 +ℤ pos clock) -ℤ pos 0 *ℤ pos 60 ≡ seconds
    → day ≡ int_div_euclid seconds (pos 86_400)
quotient day seconds clock small same = omega (arith, signed_arith)

remainder : (day seconds : ℤ) (clock : ℕ) → clock < 86_400 → (day *ℤ pos 86_400 +ℤ pos clock) -ℤ pos 0 *ℤ pos 60 ≡ seconds
    → pos clock ≡ int_rem_euclid seconds (pos 86_400)
remainder day seconds clock small same = omega (arith, signed_arith)

at_utc : (first : ℕ) (seconds : ℤ) (t : DateTime) → IsNamedDateAt first seconds t
    → (number_of_day t *ℤ pos 86_400 +ℤ pos (clock_of t)) -ℤ pos 0 *ℤ pos 60 ≡ seconds
at_utc first seconds t is = ap (λ (z : ℤ). (number_of_day t *ℤ pos 86_400 +ℤ pos (clock_of t)) -ℤ z *ℤ pos 60) (sym is.utc) ∙ is.same

clock_small : (t : DateTime) → IsRealMoment t → clock_of t < 86_400
clock_small t r = clock_bound t.hour t.minute t.second r.hour r.minute r.second

pub day_at : (first : ℕ) (seconds : ℤ) (t : DateTime) → IsNamedDateAt first seconds t
    → IsDay first (int_div_euclid seconds (pos 86_400)) t.year t.month t.day
day_at first seconds t is = record {
  least = is.least;
  most = is.real.year;
  real = is.real.day;
  same = quotient (number_of_day t) seconds (clock_of t) (clock_small t is.real) (at_utc first seconds t is);
}

pub at_is : (first : ℕ) (seconds number : ℤ) (y m d clock h n s w : ℕ) → number ≡ int_div_euclid seconds (pos 86_400)
    → pos clock ≡ int_rem_euclid seconds (pos 86_400)
    → IsDay first number y m d → (h * 60 + n) * 60 + s ≡ clock → (h < 24) × (n < 60) × (s < 60) → pos w ≡ after_monday number
    → IsNamedDateAt first seconds (record { weekday = Some w; year = y; month = m; day = d; hour = h; minute = n; second = s; offset = pos 0 })
at_is first seconds number y m d clock h n s w quotient_is rest_is day time shown name =
    let same = day.same in
    let whole : (day_of (YMD (pos y) m d) *ℤ pos 86_400 +ℤ pos ((h * 60 + n) * 60 + s)) -ℤ pos 0 *ℤ pos 60 ≡ seconds =
    omega (arith, signed_arith) in
    record {
      real = record {
        year = day.most;
        day = day.real;
        name = name ∙ ap after_monday (sym same);
        hour = shown.0;
        minute = shown.1;
        second = shown.2;
        offset = omega (arith, ints);
      };
      named = refl;
      utc = refl;
      least = day.least;
      same = whole;
    }

-- ---- one date and time

pub weekday_small : (w : ℕ) (day : ℤ) → pos w ≡ after_monday day → w < 7
unfolding after_monday
weekday_small w day h = omega (arith, signed_arith)

named_small : (name : Option ℕ) (day : ℤ) → IfSome name (λ w. pos w ≡ after_monday day) → IfSome name (λ w. w < 7)
named_small None day h = h
named_small (Some w) day h = weekday_small w day h

same_clock : (h m s i n r : ℕ) → m < 60 → s < 60 → n < 60 → r < 60 → (h * 60 + m) * 60 + s ≡ (i * 60 + n) * 60 + r
    → (h ≡ i) × (m ≡ n) × (s ≡ r)
same_clock h m s i n r a b c d e = (omega arith, omega arith, omega arith)

same_name : (a b : Option ℕ) (day other : ℤ) → IsSome a → IsSome b → IfSome a (λ w. pos w ≡ after_monday day)
    → IfSome b (λ w. pos w ≡ after_monday other) → day ≡ other → a ≡ b
same_name None b day other some some_too h k e = absurd cc
same_name (Some w) None day other some some_too h k e = absurd cc
same_name (Some w) (Some v) day other some some_too h k e =
    let same : pos w ≡ pos v = h ∙ ap after_monday e ∙ sym k in
    let is : w ≡ v = omega (arith, ints) in
    ap Some is

abbrev made : Option ℕ → ℕ → ℕ → ℕ → ℕ → ℕ → ℕ → ℤ → DateTime
made w y m d h n s z = record { weekday = w; year = y; month = m; day = d; hour = h; minute = n; second = s; offset = z }

same_date : SameDays → (first : ℕ) (number : ℤ) (y m d z n e : ℕ) → IsDay first number y m d → IsDay first number z n e
    → (y ≡ z) × (m ≡ n) × (d ≡ e)
unfolding civil_of
same_date days first number y m d z n e a b =
    let same = civil_day days z n e b.most b.real in
    let parts = same_year days first number (civil_of z n e b.most b.real) y m d (sym same ∙ b.same) a in
    let years = parts.0 in
    (omega (arith, ints), parts.1, parts.2)

pub one_date_time : SameDays → (first : ℕ) (seconds : ℤ) (a b : DateTime) → IsNamedDateAt first seconds a
    → IsNamedDateAt first seconds b → a ≡ b
one_date_time days first seconds a b at here =
    let number = int_div_euclid seconds (pos 86_400) in
    let date =
    same_date days first number a.year a.month a.day b.year b.month b.day (day_at first seconds a at) (day_at first seconds b here) in
    let clocks : pos (clock_of a) ≡ pos (clock_of b) =
    remainder (number_of_day a) seconds (clock_of a) (clock_small a at.real) (at_utc first seconds a at)
    ∙ sym (remainder (number_of_day b) seconds (clock_of b) (clock_small b here.real) (at_utc first seconds b here)) in
    let clock = same_clock a.hour a.minute a.second b.hour b.minute b.second at.real.minute at.real.second here.real.minute here.real.second
    (omega (arith, ints)) in
    let day : number_of_day a ≡ number_of_day b = (day_at first seconds a at).same ∙ sym (day_at first seconds b here).same in
    let name = same_name a.weekday b.weekday (number_of_day a) (number_of_day b) at.named here.named at.real.name here.real.name day in
    let offset = at.utc ∙ sym here.utc in
    let same : made a.weekday a.year a.month a.day a.hour a.minute a.second a.offset
    ≡ made b.weekday b.year b.month b.day b.hour b.minute b.second b.offset =
    rw (name, date.0, date.1, date.2, clock.0, clock.1, clock.2, offset) refl in
    same

pub name_small : (t : DateTime) → IsRealMoment t → IfSome t.weekday (λ w. w < 7)
name_small t r = named_small t.weekday (number_of_day t) r.name
