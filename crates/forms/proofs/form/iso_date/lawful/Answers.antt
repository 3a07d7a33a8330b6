-- Answers to the goals of `form::iso_date::lawful`.
use Rattle.forms.proofs.IsoDates.{iso_dates}
use Rattle.forms.proofs.form.iso_date.lawful.Goals as goal

pub returns : goal.returns
returns c =
    iso_dates c.a_text_has_one_value.ensures.date c.a_written_text_spells_its_value.ensures.date
    (record {
      exists = c.civil_dates_are_calendar_dates.ensures.exists;
      day = c.civil_dates_are_calendar_dates.ensures.day;
      civil = c.years_and_weeks_follow_each_other.ensures.civil;
    })
    c.texts_are_ascii.ensures.date
