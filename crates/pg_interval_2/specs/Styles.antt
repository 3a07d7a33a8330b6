-- The output styles (PostgreSQL's manual, section 8.5.5), and the strict form of the ISO one, this project's own: the shape of what each
-- reads, its refusals, and the one text that each writes.
use Rattle.std.specs.Prelude.{◌≡◌, ℕ, List, Result, Ok, Err, IfOk, IfErr, IsErrAnd}
use Rattle.scan_core.specs.Blanks.{words}
use Rattle.scan_core.specs.Count.{Count}
use Rattle.scan_core.specs.declared.share.Part.{Part}
use Rattle.pg_interval_2.specs.declared.error.ParseError.{ParseError}
use Rattle.pg_interval_2.specs.declared.error.ParseError.TheVariants.{BadUnit}
use Rattle.pg_interval_2.specs.declared.interval.Interval.{Interval}
use Rattle.pg_interval_2.specs.declared.style.Style.{Style}
use Rattle.pg_interval_2.specs.declared.style.Style.TheVariants.{Iso, Postgres, Verbose, Sql, IsoStrict}
use Rattle.pg_interval_2.specs.Denotes.{Denotes, HasNoShape, IsRange, IsRangeOf, Misfits, NoPlace, Refuses}
use Rattle.pg_interval_2.specs.Iso.{IsIso, unit_in}
use Rattle.pg_interval_2.specs.IsoStrict.{IsIsoStrict}
use Rattle.pg_interval_2.specs.IsoText.{iso_text}
use Rattle.pg_interval_2.specs.Messages.{not_iso, not_postgres, not_verbose, not_sql, not_iso_strict}
use Rattle.pg_interval_2.specs.Postgres.{AreItems, IsPostgresBadName}
use Rattle.pg_interval_2.specs.PostgresText.{postgres_text}
use Rattle.pg_interval_2.specs.Sql.{IsSql}
use Rattle.pg_interval_2.specs.SqlText.{sql_text}
use Rattle.pg_interval_2.specs.Verbose.{IsVerbose, IsVerboseBadName}
use Rattle.pg_interval_2.specs.UnitNames.{postgres_names}
use Rattle.pg_interval_2.specs.VerboseText.{verbose_text}

-- the text spells these counts in the style
abbrev pub Shape : Style → List ℕ → List Count → Type 0
Shape Iso = IsIso unit_in
Shape Postgres = λ text. AreItems postgres_names (words text)
Shape Verbose = IsVerbose
Shape Sql = IsSql
Shape IsoStrict = IsIsoStrict

-- letters of a text, from start to end, that are a bad name in the style
abbrev pub IsBadPlace : Style → List ℕ → ℕ → ℕ → Type 0
IsBadPlace Iso = NoPlace
IsBadPlace Postgres = IsPostgresBadName
IsBadPlace Verbose = IsVerboseBadName
IsBadPlace Sql = NoPlace
IsBadPlace IsoStrict = NoPlace

-- the message for a text that isn't in the style
abbrev pub not_in : Style → List ℕ
not_in Iso = not_iso
not_in Postgres = not_postgres
not_in Verbose = not_verbose
not_in Sql = not_sql
not_in IsoStrict = not_iso_strict

-- the written text of an interval
abbrev pub style_text : Style → Interval → List ℕ
style_text Iso t = iso_text t
style_text Postgres t = postgres_text t
style_text Verbose t = verbose_text t
style_text Sql t = sql_text t
style_text IsoStrict t = iso_text t

-- The answer to a text in a style: the interval that it denotes and no other, or else why it denotes none, a bad name by its place
-- and the first part that leaves its type.
pub record Answers (style : Style) (text : List ℕ) (result : Result Interval ParseError)
    : Type 0 where
  pub ok : IfOk result (λ t. Denotes (Shape style) text t)
  pub all : (t : Interval) → Denotes (Shape style) text t → result ≡ Ok t
  pub err : IfErr result (λ e. Refuses (Shape style) (IsBadPlace style) (not_in style) text e)
  pub bad : (start end : ℕ) → IsBadPlace style text start end → result ≡ Err (BadUnit start end)
  pub range : (part : Part) → Misfits (Shape style) text part → IsErrAnd result (IsRangeOf part)
  pub none : HasNoShape (Shape style) text → IsErrAnd result (λ e. ¬ (IsRange e))
