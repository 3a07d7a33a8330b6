-- Answers to the goals of `types::Date::into_naive`.
use Rattle.std.proofs.Common.{rules, ◌≡◌, ◌≤◌, IsSome, IfSome, pos, Option, Some, None, FitsSigned, refl, ◌∙◌, arith}
use Rattle.std.specs.Int.{w32}
use Rattle.std.proofs.lemmas.Int.{ints, to_z-of_z}
use Rattle.jiff_core.specs.Date.{epoch_day, IsYmd, ordinal}
use Rattle.jiff_core.specs.IsoWeek.{days_from_iso}
use Rattle.jiff_core.specs.declared.civil.date.Date.{Date as CivilDate}
use Rattle.iso8601.proofs.CivilDays.{ymd_exists, ymd_is, ymd_day, ordinal_exists, ordinal_is, ordinal_day}
use Rattle.iso8601.proofs.CivilWeeks.{week_exists, week_is, week_day}
use Rattle.iso8601.proofs.types.Date.into_naive.Goals as goal

some_value : {A : Type 0} (o : Option A) (P Q : A → Type 0) → ((x : A) → IsSome o → P x → Q x) → IfSome o P → IfSome o Q
some_value None P Q f h = tt
some_value (Some x) P Q f h = f x refl h

pub returns-in-YMD-clause-some : goal.returns-in-YMD-clause-some
returns-in-YMD-clause-some c =
    let f : FitsSigned w32 c.in-YMD.year = search rules in
    let s = simp to_z-of_z at c.calendar_day.ensures.some in
    rw c.in-YMD.is (
      λ some. ymd_exists c.in-YMD.year c.in-YMD.month c.in-YMD.day (s.0 some),
      λ h. s.1
          (ymd_is c.in-YMD.year c.in-YMD.month c.in-YMD.day h),
    )

pub returns-in-YMD-clause-value : goal.returns-in-YMD-clause-value
returns-in-YMD-clause-value c =
    let f : FitsSigned w32 c.in-YMD.year = search rules in
    let v = simp to_z-of_z at c.calendar_day.ensures.value in
    rw c.in-YMD.is (some_value c.calendar_day.result (IsYmd c.in-YMD.year (pos c.in-YMD.month) (pos c.in-YMD.day)) _
    (λ d some ymd. ymd_day d c.in-YMD.year c.in-YMD.month c.in-YMD.day ymd) v)

pub returns-in-Ordinal-clause-some : goal.returns-in-Ordinal-clause-some
returns-in-Ordinal-clause-some c =
    let f : FitsSigned w32 c.in-Ordinal.year = search rules in
    let s = simp to_z-of_z at c.ordinal_day.ensures.some in
    rw c.in-Ordinal.is (
      λ some. ordinal_exists c.in-Ordinal.year c.in-Ordinal.ddd (s.0 some),
      λ h. s.1
          (ordinal_is c.in-Ordinal.year c.in-Ordinal.ddd h),
    )

pub returns-in-Ordinal-clause-value : goal.returns-in-Ordinal-clause-value
returns-in-Ordinal-clause-value c =
    let f : FitsSigned w32 c.in-Ordinal.year = search rules in
    let v = simp to_z-of_z at c.ordinal_day.ensures.value in
    rw c.in-Ordinal.is (some_value c.ordinal_day.result (λ (d : CivilDate). (d.year ≡ c.in-Ordinal.year)
    × (pos (ordinal d) ≡ pos c.in-Ordinal.ddd)) _ (λ d some o. ordinal_day d c.in-Ordinal.year c.in-Ordinal.ddd o.0 o.1) v)

pub returns-in_ok-civil_weekday-in-Week-clause-some : goal.returns-in_ok-civil_weekday-in-Week-clause-some
returns-in_ok-civil_weekday-in-Week-clause-some c =
    let f : FitsSigned w32 c.in-Week.year = search rules in
    let s = simp to_z-of_z at c.week_day.ensures.some in
    let day = c.in_ok-civil_weekday-in-Week.field-0 in
    let same = c.in_ok-civil_weekday-in-Week.ensures.value in
    rw c.in-Week.is (
      λ some. week_exists c.in-Week.year c.in-Week.ww day c.in-Week.d same (s.0 some),
      λ h. s.1
          (week_is c.in-Week.year c.in-Week.ww day c.in-Week.d same h),
    )

pub returns-in_ok-civil_weekday-in-Week-clause-value : goal.returns-in_ok-civil_weekday-in-Week-clause-value
returns-in_ok-civil_weekday-in-Week-clause-value c =
    let f : FitsSigned w32 c.in-Week.year = search rules in
    let s = simp to_z-of_z at c.week_day.ensures.some in
    let v = simp to_z-of_z at c.week_day.ensures.value in
    let day = c.in_ok-civil_weekday-in-Week.field-0 in
    let same = c.in_ok-civil_weekday-in-Week.ensures.value in
    rw c.in-Week.is (some_value c.week_day.result (λ (d : CivilDate). epoch_day d ≡ days_from_iso c.in-Week.year c.in-Week.ww day) _
    (λ d some e.
    let is = s.0 some in
    let least : 1 ≤ c.in-Week.ww = omega (arith, ints, is.1.0) in
    e ∙ week_day c.in-Week.year c.in-Week.ww day c.in-Week.d is.0.0 least same) v)
