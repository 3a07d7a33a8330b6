-- Dates as jiff has them: cited by private contracts alone.
use Rattle.jiff_core.specs.declared.civil.date.Date.{Date as CivilDate}
use Rattle.iso8601.specs.declared.types.Date.{Date}
use Rattle.iso8601.specs.declared.types.Date.TheVariants.{YMD}

-- by year, month and day
abbrev pub date_of : CivilDate → Date
date_of d = YMD d.year d.month d.day
