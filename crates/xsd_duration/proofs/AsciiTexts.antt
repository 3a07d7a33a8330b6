-- A text that is a duration is made of digits, letters, points and minuses, so it is ASCII.
use Rattle.std.proofs.Common.{ℕ, Bool, true, false, List, [], ◌∷◌, ◌++◌, codes, refl, sym, subst}
use Rattle.std.specs.Str.{IsAscii}
use Rattle.scan_core.specs.Count.{Count}
use Rattle.scan_core.specs.Number.{minus}
use Rattle.scan_core.proofs.AsciiFacts.{Ascii, append, digits, known}
use Rattle.xsd_duration.specs.Durations.{Spelling, IsSpelling, SpellsDuration, spelling_text}
use Rattle.xsd_duration.specs.Durations.{lettered_text, marked_text, date_counts_text, time_counts_text}

-- ---- the parts of a duration

lettered : (text letter : List ℕ) → Ascii text → Ascii letter → Ascii (lettered_text text letter)
lettered [] letter h k = known [] refl
lettered (b ∷ bs) letter h k = append h k

marked : (mark text : List ℕ) → Ascii mark → Ascii text → Ascii (marked_text mark text)
marked mark [] h k = known [] refl
marked mark (b ∷ bs) h k = append h k

sign : (negative : Bool) → Ascii (minus negative)
sign true = known (codes "-") refl
sign false = known [] refl

date_counts : (s : Spelling) → IsSpelling s → Ascii (date_counts_text s)
date_counts s h =
    append (lettered s.years (codes "Y") (digits s.years h.years) (known (codes "Y") refl))
    (append (lettered s.months (codes "M") (digits s.months h.months) (known (codes "M") refl))
    (lettered s.days (codes "D") (digits s.days h.days) (known (codes "D") refl)))

time_counts : (s : Spelling) → IsSpelling s → Ascii (time_counts_text s)
time_counts s h =
    let fraction = marked (codes ".") s.fraction (known (codes ".") refl) (digits s.fraction h.fraction) in
    let seconds = append (digits s.seconds h.seconds) fraction in
    append (lettered s.hours (codes "H") (digits s.hours h.hours) (known (codes "H") refl))
    (append (lettered s.minutes (codes "M") (digits s.minutes h.minutes) (known (codes "M") refl))
    (lettered (s.seconds ++ marked_text (codes ".") s.fraction) (codes "S") seconds (known (codes "S") refl)))

spelling : (s : Spelling) → IsSpelling s → Ascii (spelling_text s)
spelling s h =
    let time = marked (codes "T") (time_counts_text s) (known (codes "T") refl) (time_counts s h) in
    append (sign s.negative) (append (known (codes "P") refl) (append (date_counts s h) time))

pub duration_is_ascii : (text : List ℕ) (counts : List Count) → SpellsDuration text counts → IsAscii text
duration_is_ascii text counts h = subst IsAscii (sym h.2) (spelling h.0 h.1).each
