-- Answers to the goals of `civil::week_day`.
use Rattle.std.proofs.Common.{rules, ◌≡◌, ◌<◌, true, false, pos, FitsSigned, ℕ, ℤ, subst, sym, refl, arith}
use Rattle.std.specs.Prelude.{◌+ℤ◌, ◌≤ℤ◌}
use Rattle.std.specs.Int.{w8, w16, w32}
use Rattle.std.proofs.lemmas.Int.{ints, to_z-of_z}
use Rattle.jiff.specs.Words.{IsIsoWeekDate, IsYear, weeks_in_year}
use Rattle.jiff_core.specs.declared.civil.weekday.Weekday.{Weekday}
use Rattle.jiff_core.proofs.IsoWeekLemmas.{weeks_in_year-next}
use Rattle.iso8601.proofs.civil.week_day.Goals as goal

-- a year's weeks have small numbers
few : (year : ℤ) (ww : ℕ) → IsYear year → pos ww ≤ℤ pos (weeks_in_year year) → ww < 128
few year ww in_range least = let weeks = weeks_in_year-next year (year +ℤ pos 1) in_range refl in omega (arith, ints)

moved : (y year w week : ℤ) (weekday : Weekday) → y ≡ year → w ≡ week → IsIsoWeekDate y w weekday → IsIsoWeekDate year week weekday
moved y year w week weekday p q h =
    let P : ℤ → Type 0 = λ v. IsIsoWeekDate v week weekday in
    let Q : ℤ → Type 0 = λ v. IsIsoWeekDate y v weekday in
    subst P p (subst Q q h)

pub returns-in_err-week-clause-some : goal.returns-in_err-week-clause-some
returns-in_err-week-clause-some c = (
  λ some. let never : false ≡ true = rw c.from_residual-in_err-week.ensures at some in cc,
  λ is. let never : false ≡ true = c.in_err-week.ensures.some.1 (few c.args.year c.args.ww is.0 is.1.1) in cc,
)

pub returns-clause-some : goal.returns-clause-some
returns-clause-some c =
    let f : FitsSigned w32 c.args.year = c.ranges.year in
    let y : FitsSigned w16 c.in_ok-year.year = search rules in
    let w : FitsSigned w8 c.in_ok-week.week = search rules in
    let new = simp to_z-of_z at c.new.ensures.succeeds in
    let year = simp to_z-of_z at c.in_ok-year.ensures.value in (
      λ some. moved c.in_ok-year.year c.args.year c.in_ok-week.week (pos c.args.ww) c.args.weekday year c.in_ok-week.ensures.value
          (new.0 (sym c.in_ok-date.ensures.variant)),
      λ is. refl,
    )
