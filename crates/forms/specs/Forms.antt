-- The forms, a row each: what reading a text answers, and what writing a value does.
use Rattle.std.specs.Prelude.{ℕ, List, decimal, Result}
use Rattle.fancy_duration.specs.Spelled.{SpellsLength}
use Rattle.fancy_duration.specs.Written.{length_text}
use Rattle.internet_dates.specs.HttpDate.{IsHttpDate}
use Rattle.internet_dates.specs.MailDate.{IsMailDate}
use Rattle.internet_dates.specs.Written.{http_date_text, mail_date_text}
use Rattle.iso8601.specs.Dates.{IsDate}
use Rattle.iso8601.specs.DateTimes.{IsDateTime}
use Rattle.iso8601.specs.Durations.{IsDuration}
use Rattle.iso8601.specs.Written.{date_text, date_time_text}
use Rattle.iso8601.specs.WrittenDurations.{duration_text}
use Rattle.nt_time.specs.Text.{IsTextOf}
use Rattle.port_toml_datetime.specs.Datetimes.{IsDatetime}
use Rattle.port_toml_datetime.specs.Texts.{text_of}
use Rattle.pg_timestamp.specs.Timestamps.{IsTimestampText}
use Rattle.pg_interval_2.specs.Styles.{Shape, style_text}
use Rattle.pg_interval_2.specs.declared.style.Style.TheVariants as style
use Rattle.xsd_duration.specs.Durations.{SpellsDuration}
use Rattle.xsd_duration.specs.Written.{xml_duration_text}
use Rattle.forms.specs.declared.cause.Cause.{Cause}
use Rattle.forms.specs.declared.form.Form.{Form}
use Rattle.forms.specs.declared.form.Form.TheVariants.{FileTime, IsoDateTime, IsoDate, IsoDuration, Toml, Fancy, PgIso, Postgres, PgVerbose}
use Rattle.forms.specs.declared.form.Form.TheVariants.{PgSql, IsoStrict, Unix, PgTimestamp, HttpDate, MailDate, XsdDuration}
use Rattle.forms.specs.declared.value.Value.{Value}
use Rattle.forms.specs.Answers.{Is, ReadsBy, WritesBy}
use Rattle.forms.specs.form.FileTime as file_time
use Rattle.forms.specs.form.IsoDateTime as iso_date_time
use Rattle.forms.specs.form.IsoDate as iso_date
use Rattle.forms.specs.form.IsoDuration as iso_duration
use Rattle.forms.specs.form.Toml as toml
use Rattle.forms.specs.form.Fancy as fancy
use Rattle.forms.specs.form.Unix as unix
use Rattle.forms.specs.form.Intervals as interval
use Rattle.forms.specs.form.PgTimestamp as pg_timestamp
use Rattle.forms.specs.form.InternetDates as internet
use Rattle.forms.specs.form.XsdDuration as xml

-- what a text stands for in the form: a value, or the cause why it is none
abbrev pub Reads : Form → List ℕ → Result Value Cause → Type 0
Reads FileTime = ReadsBy IsTextOf (Is file_time.worth)
Reads IsoDateTime = ReadsBy IsDateTime iso_date_time.Worth
Reads IsoDate = ReadsBy IsDate iso_date.Worth
Reads IsoDuration = ReadsBy IsDuration (Is iso_duration.worth)
Reads Toml = ReadsBy IsDatetime (Is (λ d. toml.worth_of d.date d.time d.offset))
Reads Fancy = ReadsBy SpellsLength (Is fancy.worth)
Reads PgIso = ReadsBy (Shape style.Iso) (Is interval.worth)
Reads Postgres = ReadsBy (Shape style.Postgres) (Is interval.worth)
Reads PgVerbose = ReadsBy (Shape style.Verbose) (Is interval.worth)
Reads PgSql = ReadsBy (Shape style.Sql) (Is interval.worth)
Reads IsoStrict = ReadsBy (Shape style.IsoStrict) (Is interval.worth)
Reads Unix = ReadsBy unix.Spells (Is unix.worth)
Reads PgTimestamp = ReadsBy IsTimestampText pg_timestamp.Worth
Reads HttpDate = ReadsBy IsHttpDate (internet.Worth 0)
Reads MailDate = ReadsBy IsMailDate (internet.Worth 1900)
Reads XsdDuration = ReadsBy SpellsDuration (Is interval.worth)

-- the written text of a value in the form, or the cause why there is none
abbrev pub Writes : Form → Value → Result (List ℕ) Cause → Type 0
Writes FileTime = WritesBy (Is file_time.held) decimal
Writes IsoDateTime = WritesBy iso_date_time.Holds date_time_text
Writes IsoDate = WritesBy iso_date.Holds date_text
Writes IsoDuration = WritesBy (Is iso_duration.held) duration_text
Writes Toml = WritesBy toml.Holds text_of
Writes Fancy = WritesBy (Is fancy.held) length_text
Writes PgIso = WritesBy (Is interval.held) (style_text style.Iso)
Writes Postgres = WritesBy (Is interval.held) (style_text style.Postgres)
Writes PgVerbose = WritesBy (Is interval.held) (style_text style.Verbose)
Writes PgSql = WritesBy (Is interval.held) (style_text style.Sql)
Writes IsoStrict = WritesBy (Is interval.held) (style_text style.IsoStrict)
Writes Unix = WritesBy (Is unix.held) unix.unix_text
Writes PgTimestamp = WritesBy pg_timestamp.Holds (λ text. text)
Writes HttpDate = WritesBy (internet.Holds 0) http_date_text
Writes MailDate = WritesBy (internet.Holds 1900) mail_date_text
Writes XsdDuration = WritesBy (Is xml.held) xml_duration_text
