-- What the readers of the crates below answer, as the readers of forms hand it on.
use Rattle.std.specs.Prelude.{ℕ, List}
use Rattle.scan_core.specs.declared.share.Part.{Part}
use Rattle.pg_interval_2.specs.Denotes.{HasNoShape, Misfits, IsRange}
use Rattle.pg_interval_2.specs.Styles.{Shape}
use Rattle.pg_interval_2.specs.declared.error.ParseError.{ParseError}
use Rattle.pg_interval_2.specs.declared.style.Style.{Style}
use Rattle.xsd_duration.specs.declared.error.DurationError.{DurationError}
use Rattle.xsd_duration.specs.declared.error.DurationError.TheVariants as duration
use Rattle.forms.specs.declared.cause.Cause.{Cause}
use Rattle.forms.specs.declared.cause.Cause.TheVariants.{Syntax, Range}

-- what a reader's error says of a text of the style
pub record IsRefusedBy (style : Style) (text : List ℕ) (error : ParseError) : Type 0 where
  pub range : IsRange error → (part : Part) × Misfits (Shape style) text part
  pub no_range : (IsRange error → ⊥) → HasNoShape (Shape style) text

-- the cause of a duration's refusal
abbrev pub cause_of : DurationError → Cause
cause_of duration.Syntax = Syntax
cause_of duration.Range = Range
