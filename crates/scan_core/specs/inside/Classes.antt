-- The classes of bytes that a scan passes: cited by private contracts alone.
use Rattle.std.specs.Prelude.{ℕ, Bool}
use Rattle.std.specs.Char.{is_ascii_digit, is_ascii_alphabetic}
use Rattle.scan_core.specs.Blanks.{is_blank}
use Rattle.scan_core.specs.declared.scan.Class.{Class}
use Rattle.scan_core.specs.declared.scan.Class.TheVariants.{Digit, Letter, Blank}

-- the byte is of the class
abbrev pub has_byte : Class → ℕ → Bool
has_byte Digit = is_ascii_digit
has_byte Letter = is_ascii_alphabetic
has_byte Blank = is_blank
