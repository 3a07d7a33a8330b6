-- What a refusal says and prints.
use Rattle.std.specs.Prelude.{◌≡◌, ℕ, List, ◌++◌, codes, decimal}
use Rattle.pg_interval_2.specs.declared.error.ParseError.{ParseError}
use Rattle.pg_interval_2.specs.declared.error.ParseError.TheVariants.{InvalidInterval, BadUnit, InvalidYearMonth, InvalidDay, InvalidTime}

-- the part that is refused, and its message, or where the bad unit stands
abbrev pub error_text : ParseError → List ℕ
error_text (InvalidInterval message) = codes "Invalid interval: " ++ message.now
error_text (BadUnit start end) =
    codes "Invalid interval: bad unit at " ++ (decimal start ++ (codes ".." ++ decimal end))
error_text (InvalidYearMonth message) = codes "Invalid year/month interval: " ++ message.now
error_text (InvalidDay message) = codes "Invalid day interval: " ++ message.now
error_text (InvalidTime message) = codes "Invalid time interval: " ++ message.now

-- two refusals of one kind, with the same message or of the same bytes of the text
abbrev pub SayTheSame : ParseError → ParseError → Type 0
SayTheSame (InvalidInterval message) (InvalidInterval other) = message.now ≡ other.now
SayTheSame (BadUnit start end) (BadUnit from to) = (start ≡ from) × (end ≡ to)
SayTheSame (InvalidYearMonth message) (InvalidYearMonth other) = message.now ≡ other.now
SayTheSame (InvalidDay message) (InvalidDay other) = message.now ≡ other.now
SayTheSame (InvalidTime message) (InvalidTime other) = message.now ≡ other.now
SayTheSame _ _ = ⊥
