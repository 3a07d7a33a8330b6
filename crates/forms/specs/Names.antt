-- The forms and the causes by name, and the interval forms, which are the styles of intervals.
use Rattle.std.specs.Prelude.{ℕ, Bool, true, false, List, codes, Option, Some, None}
use Rattle.pg_interval_2.specs.declared.style.Style.{Style}
use Rattle.pg_interval_2.specs.declared.style.Style.TheVariants as style
use Rattle.forms.specs.declared.form.Form.{Form}
use Rattle.forms.specs.declared.form.Form.TheVariants.{FileTime, IsoDateTime, IsoDate, IsoDuration, Toml, Fancy, PgIso, Postgres, PgVerbose}
use Rattle.forms.specs.declared.form.Form.TheVariants.{PgSql, IsoStrict, Unix, PgTimestamp, HttpDate, MailDate, XsdDuration}
use Rattle.forms.specs.declared.cause.Cause.{Cause}
use Rattle.forms.specs.declared.cause.Cause.TheVariants.{Syntax, NoSuchMoment, Range, Kind, Precision, Ambiguous}

-- a form's name
abbrev pub name_of : Form → List ℕ
name_of FileTime = codes "FileTime"
name_of IsoDateTime = codes "IsoDateTime"
name_of IsoDate = codes "IsoDate"
name_of IsoDuration = codes "IsoDuration"
name_of Toml = codes "Toml"
name_of Fancy = codes "Fancy"
name_of PgIso = codes "PgIso"
name_of Postgres = codes "Postgres"
name_of PgVerbose = codes "PgVerbose"
name_of PgSql = codes "PgSql"
name_of IsoStrict = codes "IsoStrict"
name_of Unix = codes "Unix"
name_of PgTimestamp = codes "PgTimestamp"
name_of HttpDate = codes "HttpDate"
name_of MailDate = codes "MailDate"
name_of XsdDuration = codes "XsdDuration"

-- the style of an interval form
abbrev pub style_of : Form → Option Style
style_of PgIso = Some style.Iso
style_of Postgres = Some style.Postgres
style_of PgVerbose = Some style.Verbose
style_of PgSql = Some style.Sql
style_of IsoStrict = Some style.IsoStrict
style_of _ = None

-- the forms whose reader counts each access to a byte of the text: the interval forms, and durations of ISO 8601
abbrev pub is_counted : Form → Bool
is_counted IsoDuration = true
is_counted PgIso = true
is_counted Postgres = true
is_counted PgVerbose = true
is_counted PgSql = true
is_counted IsoStrict = true
is_counted _ = false

-- a cause's name
abbrev pub cause_name : Cause → List ℕ
cause_name Syntax = codes "Syntax"
cause_name NoSuchMoment = codes "NoSuchMoment"
cause_name Range = codes "Range"
cause_name Kind = codes "Kind"
cause_name Precision = codes "Precision"
cause_name Ambiguous = codes "Ambiguous"
