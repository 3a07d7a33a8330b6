-- Answers to the goals of `form::toml::day_of`.
use Rattle.std.proofs.Common.{◌≡◌, ◌≤◌, sym, ◌∙◌, ap, subst, arith, to_z, of_z}
use Rattle.std.specs.Prelude.{ℤ, pos}
use Rattle.std.specs.Int.{w16, w32}
use Rattle.std.proofs.lemmas.Int.{ints}
use Rattle.jiff_core.specs.Calendar.{days_in_month, days_from_civil}
use Rattle.forms.proofs.TomlDateTimes.{most_days, civil_number}
use Rattle.forms.proofs.form.toml.day_of.Goals as goal

pub invariant_of-civil : goal.invariant_of-civil
invariant_of-civil c =
    let real = c.requires in
    let most = real.year in
    let year = c.civil_year.ensures in
    let within = c.civil_year.type_inv in
    let same : to_z w16 (of_z w16 c.civil_year.result) ≡ pos c.args.date.year = omega (arith, ints) in
    let P : ℤ → Type 0 = λ z. c.args.date.day ≤ days_in_month z c.args.date.month in
    record {
      year_in = (omega (arith, ints), omega (arith, ints));
      month_in = (real.month, real.months);
      day_in = (real.day, subst P (sym same) (most_days c.args.date real));
    }

pub returns : goal.returns
returns c =
    let real = c.requires in
    let year = c.civil_year.ensures in
    let most = real.year in
    let same : to_z w16 (of_z w16 c.civil_year.result) ≡ pos c.args.date.year = omega (arith, ints) in
    let bound = c.to_unix_epoch_day.ensures.bound in
    let kept : to_z w32 (of_z w32 c.to_unix_epoch_day.result) ≡ c.to_unix_epoch_day.result = omega (arith, ints) in
    kept ∙ (c.to_unix_epoch_day.ensures.value ∙ (ap (λ (z : ℤ). days_from_civil z c.args.date.month c.args.date.day) same
    ∙ civil_number c.civil_dates_are_calendar_dates.ensures.day c.args.date real))
