-- The forms by number, in the order in which `forms` has them. A further form has the next number, so that none ever changes.
use Rattle.std.specs.Prelude.{ℤ, pos}
use Rattle.forms.specs.declared.form.Form.{Form}
use Rattle.forms.specs.declared.form.Form.TheVariants.{FileTime, IsoDateTime, IsoDate, IsoDuration, Toml, Fancy, PgIso, Postgres, PgVerbose}
use Rattle.forms.specs.declared.form.Form.TheVariants.{PgSql, IsoStrict, Unix, PgTimestamp, HttpDate, MailDate, XsdDuration}

-- a form's number
abbrev pub number_of : Form → ℤ
number_of FileTime = pos 0
number_of IsoDateTime = pos 1
number_of IsoDate = pos 2
number_of IsoDuration = pos 3
number_of Toml = pos 4
number_of Fancy = pos 5
number_of PgIso = pos 6
number_of Postgres = pos 7
number_of PgVerbose = pos 8
number_of PgSql = pos 9
number_of IsoStrict = pos 10
number_of Unix = pos 11
number_of PgTimestamp = pos 12
number_of HttpDate = pos 13
number_of MailDate = pos 14
number_of XsdDuration = pos 15
