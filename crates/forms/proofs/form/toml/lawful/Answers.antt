-- Answers to the goals of `form::toml::lawful`.
use Rattle.forms.proofs.TomlDateTimes.{toml_date_times}
use Rattle.forms.proofs.form.toml.lawful.Goals as goal

pub returns : goal.returns
returns c = toml_date_times c.civil_dates_are_calendar_dates.ensures.day c.one_value.ensures c.values_are_well_formed.ensures
    c.texts_are_read_back.ensures c.texts_are_ascii.ensures
