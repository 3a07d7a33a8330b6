-- Answers to the goals of `form::iso_date_time::lawful`.
use Rattle.forms.proofs.IsoDateTimes.{iso_date_times}
use Rattle.forms.proofs.form.iso_date_time.lawful.Goals as goal

pub returns : goal.returns
returns c =
    iso_date_times c.a_text_has_one_value.ensures.date_time c.a_written_text_spells_its_value.ensures.date_time
    (record {
      exists = c.civil_dates_are_calendar_dates.ensures.exists;
      day = c.civil_dates_are_calendar_dates.ensures.day;
      civil = c.years_and_weeks_follow_each_other.ensures.civil;
    })
    c.texts_are_ascii.ensures.date_time
