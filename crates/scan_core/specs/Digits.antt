-- ASCII digits, U+0030 to U+0039 of Unicode's Basic Latin, and the number that they write in decimal.
use Rattle.std.specs.Prelude.{ℕ, ◌<◌, List, length}
use Rattle.std.specs.Str.Parse.{AllDigits, digits_value}

-- each byte is an ASCII digit
abbrev pub AreDigits : List ℕ → Type 0
AreDigits digits = AllDigits 10 digits

-- one ASCII digit or more
abbrev pub AreSomeDigits : List ℕ → Type 0
AreSomeDigits digits = (0 < length digits) × AreDigits digits

-- the number that digits write, however many they are; no digits are the number 0
abbrev pub number_of : List ℕ → ℕ
number_of digits = digits_value 10 digits
