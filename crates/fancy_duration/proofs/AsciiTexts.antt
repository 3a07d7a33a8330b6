-- A text that spells a length is made of digits, letters and blanks, so it is ASCII.
use Rattle.std.proofs.Common.{◌≡◌, ℕ, ◌<◌, true, List, [], ◌∷◌, codes, refl, sym, subst, inl, inr, arith}
use Rattle.std.specs.List.{list_all}
use Rattle.std.specs.Str.{IsAscii}
use Rattle.std.proofs.lemmas.Bool.{and_parts}
use Rattle.std.proofs.lemmas.Bool.Decides.{nat_tests}
use Rattle.std.proofs.lemmas.Str.Ascii.{IsAscii-nil, IsAscii-cons}
use Rattle.scan_core.specs.Blanks.{is_blank}
use Rattle.scan_core.specs.Join.{IsJoin}
use Rattle.scan_core.proofs.AsciiFacts.{Ascii, append, digits, known}
use Rattle.fancy_duration.specs.declared.part.DurationPart.{DurationPart}
use Rattle.fancy_duration.specs.declared.part.DurationPart.TheVariants.{Years, Months, Weeks, Days, Hours, Minutes}
use Rattle.fancy_duration.specs.declared.part.DurationPart.TheVariants.{Seconds, Milliseconds, Microseconds, Nanoseconds}
use Rattle.fancy_duration.specs.Parts.{unit_of}
use Rattle.fancy_duration.specs.Spelled.{LengthCount, IsLengthCount, SpellsLength}

blank_below : (b : ℕ) → is_blank b ≡ true → b < 128
blank_below b h = grind (arith, nat_tests)

each_blank : (bytes : List ℕ) → list_all is_blank bytes ≡ true → IsAscii bytes
each_blank [] h = IsAscii-nil
each_blank (b ∷ bs) h =
    let parts = and_parts (is_blank b) (list_all is_blank bs) h in
    IsAscii-cons b bs (blank_below b parts.0) (each_blank bs parts.1)

blanks : (bytes : List ℕ) → list_all is_blank bytes ≡ true → Ascii bytes
blanks bytes h = record { each = each_blank bytes h }

-- ---- counts in a row

unit : (part : DurationPart) → Ascii (unit_of part)
unit Years = known (codes "y") refl
unit Months = known (codes "m") refl
unit Weeks = known (codes "w") refl
unit Days = known (codes "d") refl
unit Hours = known (codes "h") refl
unit Minutes = known (codes "m") refl
unit Seconds = known (codes "s") refl
unit Milliseconds = known (codes "ms") refl
unit Microseconds = known (codes "us") refl
unit Nanoseconds = known (codes "ns") refl

count : (piece : List ℕ) (c : LengthCount) → IsLengthCount piece c → Ascii piece
count piece c h =
    subst Ascii (sym h.joined) (append (digits c.digits h.are_digits) (append (unit c.part) (blanks h.blanks h.are_blanks)))

row : (text : List ℕ) (counts : List LengthCount) → IsJoin IsLengthCount text counts → Ascii text
row text [] h = subst Ascii (sym h) (known [] refl)
row text (c ∷ cs) h = subst Ascii (sym h.4) (append (count h.0 c h.2) (row h.1 cs h.3))

pub length_is_ascii : (text : List ℕ) (nanos : ℕ) → SpellsLength text nanos → IsAscii text
length_is_ascii text nanos (inl h) = subst IsAscii (sym h.0) (known (codes "0") refl).each
length_is_ascii text nanos (inr h) = (row text h.0 h.2).each
