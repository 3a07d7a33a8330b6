-- What a line is answered by: cited by private contracts alone.
use Rattle.std.specs.Prelude.{◌≡◌, ℕ, List, ◌++◌, codes, ℤ, pos}
use Rattle.forms.specs.Names.{cause_name}
use Rattle.forms.specs.declared.value.Value.{Value}
use Rattle.forms.specs.declared.value.Value.TheVariants.{Instant}
use Rattle.recurrence.specs.declared.answer.Answer.{Answer}
use Rattle.recurrence.specs.declared.answer.Answer.TheVariants.{Refused, Instants}
use Rattle.recurrence.specs.declared.refusal.Refusal.{Refusal}
use Rattle.recurrence.specs.declared.refusal.Refusal.TheVariants.{Line, Count, Start, Length}
use Rattle.recurrence.specs.Replies.{refusal, IsSeriesReply, IsWholeMillis}
use Rattle.recurrence.specs.inside.Written.{IsInMillis}

-- the words of a refusal
abbrev pub words_of : Refusal → List ℕ
words_of Line = codes "Line"
words_of Count = codes "Count"
words_of (Start cause) = codes "start " ++ cause_name cause
words_of (Length cause) = codes "length " ++ cause_name cause

-- the reply
abbrev pub RepliesBy : Answer → List ℕ → Type 0
RepliesBy (Refused why) out = out ≡ refusal (words_of why)
RepliesBy (Instants start step last) out = IsSeriesReply last start step out

-- the instants have written texts
abbrev pub IsFine : Answer → Type 0
IsFine (Refused why) = Unit {0}
IsFine (Instants start step last) = IsInMillis start × IsWholeMillis step

-- the value is an instant
abbrev pub IsInstant : Value → Type 0
IsInstant value = (z : ℤ) × (value ≡ Instant z)

-- the nanoseconds of an instant
abbrev pub nanos_in : Value → ℤ
nanos_in (Instant z) = z
nanos_in _ = pos 0
