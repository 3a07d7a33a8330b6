-- Dates of ISO 8601 as a form.
use Rattle.std.proofs.Common.{◌≡◌, ℕ, ◌≤◌, Bool, true, false, cond, List, Result, Ok, Err, refl, sym, ◌∙◌, ap, subst, inl, arith}
use Rattle.std.specs.Prelude.{ℤ, pos, neg_ℤ, ◌≤ℤ◌, ◌↔◌}
use Rattle.std.proofs.lemmas.Int.{ints}
use Rattle.jiff_core.specs.Calendar.{IsYear, IsEpochDay, days_in_month}
use Rattle.jiff_core.specs.Date.{epoch_day}
use Rattle.jiff_core.specs.declared.civil.date.Date.{Date as CivilDate}
use Rattle.jiff_core.proofs.DateLemmas.{epoch_day_range, epoch_day_injective}
use Rattle.iso8601.specs.Calendar.{day_of, Exists, IsCivilDay}
use Rattle.iso8601.specs.Dates.{IsDate}
use Rattle.iso8601.specs.Ranges.{IsDateInRange}
use Rattle.iso8601.specs.Written.{date_text}
use Rattle.iso8601.specs.declared.types.Date.{Date}
use Rattle.forms.specs.declared.cause.Cause.{Cause}
use Rattle.forms.specs.declared.cause.Cause.TheVariants.{Kind}
use Rattle.forms.specs.declared.form.Form.TheVariants.{IsoDate}
use Rattle.forms.specs.declared.value.Value.{Value}
use Rattle.forms.specs.declared.value.Value.TheVariants.{Day}
use Rattle.forms.specs.Values.{IsWithinBounds}
use Rattle.forms.specs.form.IsoDate.{Worth, Holds}
use Rattle.iso8601.specs.Dates.{IsDate}
use Rattle.forms.specs.inside.CivilDates.{date_of}
use Rattle.forms.specs.inside.Lawful.{Lawful}
use Rattle.forms.proofs.Judging.{one_judged, judged_within}
use Rattle.forms.proofs.Lawful.{AreAscii, same_ok, IsHeldBack, lawful_by}

-- what the laws of the crate below say of civil dates
pub record AreCalendarDates : Type 0 where
  pub exists : (d : CivilDate) → Exists (date_of d)
  pub day : (d : CivilDate) → day_of (date_of d) ≡ epoch_day d
  pub civil : (day : ℤ) → IsCivilDay day ↔ ((neg_ℤ (pos 4_371_587) ≤ℤ day) × (day ≤ℤ pos 2_932_896))

thirty_one : (a b c : Bool) → cond a (cond b 29 28) (cond c 30 31) ≤ 31
thirty_one true true c = omega arith
thirty_one true false c = omega arith
thirty_one false b true = omega arith
thirty_one false b false = omega arith

-- no month has more than 31 days
pub month_within : (d : CivilDate) → d.day ≤ 31
month_within d = let most = d.day_in.1 in let least : days_in_month d.year d.month ≤ 31 = thirty_one _ _ _ in omega arith

pub date_in_range : (d : CivilDate) → IsDateInRange (date_of d)
date_in_range d =
    let year : IsYear d.year = d.year_in in
    (omega (arith, ints), d.month_in.0, d.month_in.1, d.day_in.0, month_within d)

pub is_civil_day : AreCalendarDates → (d : CivilDate) → IsCivilDay (day_of (date_of d))
is_civil_day laws d = (laws.civil (day_of (date_of d))).1 (subst IsEpochDay (sym (laws.day d)) (epoch_day_range d))

pub civil_bounds : AreCalendarDates → (day : ℤ) → IsCivilDay day → IsEpochDay day
civil_bounds laws day h = (laws.civil day).0 h

-- a civil date is held of its day
pub held_civil : AreCalendarDates → (d : CivilDate) (day : ℤ) → epoch_day d ≡ day → Holds (Day day) (Ok (date_of d))
held_civil laws d day same =
    let year : IsYear d.year = d.year_in in
    (d.year, d.month, d.day, omega (arith, ints), laws.exists d, laws.day d ∙ same, refl)

-- what is held of a day is a civil date
pub record HasCivil (day : ℤ) (held : Result Date Cause) : Type 0 where
  pub civil : CivilDate
  pub same : epoch_day civil ≡ day
  pub is : held ≡ Ok (date_of civil)

civil_held : AreCalendarDates → (day : ℤ) (held : Result Date Cause) → Holds (Day day) held → HasCivil day held
civil_held laws day held (year, month, n, small, exists, same, is) =
    let d : CivilDate = record {
      year = year;
      month = month;
      day = n;
      year_in = (omega (arith, ints), omega (arith, ints));
      month_in = (exists.0, exists.1);
      day_in = (exists.2, exists.3);
    } in
    record { civil = d; same = sym (laws.day d) ∙ same; is = is }

one_held : AreCalendarDates → (value : Value) (a b : Result Date Cause) → Holds value a → Holds value b → a ≡ b
one_held laws (Day day) a b h k =
    let c = civil_held laws day a h in
    let d = civil_held laws day b k in
    let parts = epoch_day_injective c.civil d.civil (c.same ∙ sym d.same) in
    let same : date_of c.civil ≡ date_of d.civil = rw (parts.0, parts.1, parts.2) refl in
    c.is ∙ (ap Ok same ∙ sym d.is)
one_held laws _ a b h k = h ∙ sym k

held_back : AreCalendarDates → ((date : Date) → IsDateInRange date → IsDate (date_text date) date) → (value : Value) (date : Date)
    → IsWithinBounds value → Holds value (Ok date) → IsHeldBack IsDate Worth Holds (date_text date) value date
held_back laws spelled (Day day) date w h =
    let c = civil_held laws day (Ok date) h in
    let is : date ≡ date_of c.civil = same_ok date (date_of c.civil) c.is in
    let P : Date → Type 0 = λ d. IsHeldBack IsDate Worth Holds (date_text d) (Day day) d in
    let same : day_of (date_of c.civil) ≡ day = laws.day c.civil ∙ c.same in
    let whole : P (date_of c.civil) = record {
      meaning = date_of c.civil;
      back = Day day;
      spelled = spelled (date_of c.civil) (date_in_range c.civil);
      valued = inl (laws.exists c.civil, is_civil_day laws c.civil, ap (λ (z : ℤ). Ok (Day z)) (sym same));
      same = refl;
      again = held_civil laws c.civil day c.same;
    } in
    subst P (sym is) whole
held_back laws spelled _ date w h = absurd (let e : Ok date ≡ Err Kind = h in cc)

pub iso_dates : ((text : List ℕ) (a b : Date) → IsDate text a → IsDate text b → a ≡ b)
    → ((date : Date) → IsDateInRange date → IsDate (date_text date) date) → AreCalendarDates → AreAscii IsDate
    → Lawful IsoDate
iso_dates one spelled laws ascii =
    lawful_by IsoDate IsDate Worth Holds date_text (record {
      reads = λ text a h. h;
      read = λ text a h. h;
      writes = λ value a h. h;
      written = λ value a h. h;
    })
    (record {
      one = one;
      one_worth = λ date a b h k. one_judged (Exists date) (IsCivilDay (day_of date)) (Day (day_of date)) a b h k;
      one_held = one_held laws;
      ascii = ascii;
      within = λ text date value spelled h. judged_within (Exists date) (IsCivilDay (day_of date)) (Day (day_of date)) value
          (λ real day. civil_bounds laws (day_of date) day) h;
      back = held_back laws spelled;
    })
