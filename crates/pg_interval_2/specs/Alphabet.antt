-- The bytes that texts of the four styles are made of (PostgreSQL's manual, section 8.5.5): blanks, digits, signs, a point, a colon,
-- `@`, the designators of ISO 8601, and the letters of the names of units and of `ago`.
use Rattle.std.specs.Prelude.{ℕ, Bool, not, ◌||◌, ◌==◌, codes}
use Rattle.std.specs.Char.{is_ascii_digit}
use Rattle.std.specs.List.{list_any}
use Rattle.scan_core.specs.Blanks.{is_blank}

-- the byte stands in texts of some style
abbrev pub is_in_alphabet : ℕ → Bool
is_in_alphabet byte =
    is_blank byte
    || (is_ascii_digit byte || list_any (λ b. b == byte) (codes "+-.:@PTYMWDHSacdeghimnorstuy"))

-- the byte is no line feed
abbrev pub is_no_feed : ℕ → Bool
is_no_feed byte = not (byte == 10)
