-- The reply to a line that asks for a series: the first refusal that holds, and else the instants of the series, a line each.
use Rattle.std.specs.Prelude.{◌≡◌, ◌⊎◌, ℕ, ◌<◌, ◌≤◌, List, [], ◌++◌, codes, decimal, ℤ, pos, ◌*ℤ◌, Option, Some, None, Result, Ok, Err}
use Rattle.scan_core.specs.Digits.{number_of}
use Rattle.scan_core.specs.Join.{IsJoin}
use Rattle.pg_interval_2.specs.declared.style.Style.TheVariants.{Iso}
use Rattle.pg_interval_2.specs.declared.interval.Interval.{Interval}
use Rattle.forms.specs.Forms.{Reads, Writes}
use Rattle.forms.specs.Lines.{lines}
use Rattle.forms.specs.Names.{cause_name}
use Rattle.forms.specs.form.Intervals.{FindsInterval}
use Rattle.forms.specs.declared.cause.Cause.{Cause}
use Rattle.forms.specs.declared.form.Form.TheVariants.{IsoDateTime}
use Rattle.forms.specs.declared.value.Value.{Value}
use Rattle.forms.specs.declared.value.Value.TheVariants.{Instant}
use Rattle.recurrence.specs.Series.{IsSeries}
use Rattle.recurrence.specs.Requests.{IsRequest}

-- the line of a refusal
abbrev pub refusal : List ℕ → List ℕ
refusal cause = codes "refused " ++ (cause ++ codes "\n")

-- the line of an instant: its written date-time of ISO 8601
abbrev pub IsInstantLine : List ℕ → ℤ → Type 0
IsInstantLine whole instant =
    (text : List ℕ) × Writes IsoDateTime (Instant instant) (Ok text) × (whole ≡ text ++ codes "\n")

-- the line behind the instants where the series stopped
abbrev pub stop_text : Option ℕ → List ℕ
stop_text None = []
stop_text (Some k) = codes "refused Range at " ++ (decimal k ++ codes "\n")

-- the instants of the series, and where it stopped
pub record IsSeriesReply (last : ℕ) (start : ℤ) (step : Interval) (out : List ℕ) : Type 0 where
  pub instants : List ℤ
  pub stop : Option ℕ
  pub text : List ℕ
  pub series : IsSeries start step last instants stop
  pub written : IsJoin IsInstantLine text instants
  pub joined : out ≡ text ++ stop_text stop

-- the time of the step is a whole number of milliseconds, which is all that a date-time's text has
abbrev pub IsWholeMillis : Interval → Type 0
IsWholeMillis step = (millis : ℤ) × (step.microseconds ≡ millis *ℤ pos 1000)

-- by the time of the step: refused where it isn't whole milliseconds, and else the series
abbrev pub IsStepReply : ℕ → ℤ → Interval → List ℕ → Type 0
IsStepReply last start step out =
    ((IsWholeMillis step → ⊥) × (out ≡ refusal (codes "length Precision")))
    ⊎ (IsWholeMillis step × IsSeriesReply last start step out)

-- by the interval of the ISO style that the step's text denotes, or by the cause why it denotes none
abbrev pub IsLengthReply : ℕ → ℤ → Result Interval Cause → List ℕ → Type 0
IsLengthReply last start (Err cause) out = out ≡ refusal (codes "length " ++ cause_name cause)
IsLengthReply last start (Ok step) out = IsStepReply last start step out

-- by what the start's text stands for as a date-time, and then by the step's text
abbrev pub IsStartReply : ℕ → Result Value Cause → List ℕ → List ℕ → Type 0
IsStartReply last (Err cause) step out = out ≡ refusal (codes "start " ++ cause_name cause)
IsStartReply last (Ok (Instant start)) step out =
    (length : Result Interval Cause) × FindsInterval Iso step length × IsLengthReply last start length out
IsStartReply last (Ok _) step out = ⊥

-- by the number that the digits write
abbrev pub IsCountReply : ℕ → List ℕ → List ℕ → List ℕ → Type 0
IsCountReply last start step out =
    ((10_000 < last) × (out ≡ refusal (codes "Count")))
    ⊎ ((last ≤ 10_000) × (moment : Result Value Cause) × Reads IsoDateTime start moment
    × IsStartReply last moment step out)

-- the reply to a line, with its line feeds
abbrev pub IsReply : List ℕ → List ℕ → Type 0
IsReply out line =
    (((digits start step : List ℕ) → IsRequest line digits start step → ⊥)
    × (out ≡ refusal (codes "Line")))
    ⊎ ((digits : List ℕ) × (start : List ℕ) × (step : List ℕ) × IsRequest line digits start step
    × IsCountReply (number_of digits) start step out)

-- the replies to lines, in order
abbrev pub AreReplies : List (List ℕ) → List ℕ → Type 0
AreReplies lines out = IsJoin IsReply out lines

-- what the program writes of an input: the replies to all its lines, and the status 0
abbrev pub Expands : List ℕ → List ℕ → ℕ → Type 0
Expands input out status = AreReplies (lines input) out × (status ≡ 0)
