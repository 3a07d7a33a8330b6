-- What a call answers in place of an answer, each a negative number: the causes in the order in which they are judged, and then what is
-- wrong with the call itself.
use Rattle.std.specs.Prelude.{ℤ, pos, neg_ℤ, ◌+ℤ◌}
use Rattle.forms.specs.declared.cause.Cause.{Cause}
use Rattle.forms.specs.declared.cause.Cause.TheVariants.{Syntax, NoSuchMoment, Range, Kind, Precision, Ambiguous}
use Rattle.schedule_check.specs.declared.fault.Fault.{Fault}
use Rattle.schedule_check.specs.declared.fault.Fault.TheVariants.{Line, Start, Length, Empty}

-- the code of a cause
abbrev pub code_of : Cause → ℤ
code_of Syntax = neg_ℤ (pos 1)
code_of NoSuchMoment = neg_ℤ (pos 2)
code_of Range = neg_ℤ (pos 3)
code_of Kind = neg_ℤ (pos 4)
code_of Precision = neg_ℤ (pos 5)
code_of Ambiguous = neg_ℤ (pos 6)

-- a number or a name that is no form's
abbrev pub no_such_form : ℤ
no_such_form = neg_ℤ (pos 101)

-- a text that isn't UTF-8
abbrev pub not_utf8 : ℤ
not_utf8 = neg_ℤ (pos 102)

-- an answer that is longer than the room for it
abbrev pub no_room : ℤ
no_room = neg_ℤ (pos 103)

-- offsets of a cell that fall, or that leave the data
abbrev pub bad_offsets : ℤ
bad_offsets = neg_ℤ (pos 104)

-- two slots that clash
abbrev pub clash : ℤ
clash = neg_ℤ (pos 105)

-- a line of a schedule that isn't UTF-8, or has no tab
abbrev pub bad_line : ℤ
bad_line = neg_ℤ (pos 106)

-- a slot whose length is 0
abbrev pub empty_length : ℤ
empty_length = neg_ℤ (pos 107)

-- the code of a line's fault: that of the cause less 200 where it is the start's, and less 300 where it is the length's
abbrev pub code_of_fault : Fault → ℤ
code_of_fault Line = bad_line
code_of_fault (Start cause) = neg_ℤ (pos 200) +ℤ code_of cause
code_of_fault (Length cause) = neg_ℤ (pos 300) +ℤ code_of cause
code_of_fault Empty = empty_length
