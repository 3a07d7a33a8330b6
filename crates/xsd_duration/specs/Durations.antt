-- Durations of W3C XML Schema 1.1 part 2, section 3.3.6: an optional minus for the whole, `P`, and counts in order, of which only seconds
-- have a fraction. At least one count stands there, and behind a `T` at least one of hours, minutes and seconds.
use Rattle.std.specs.Prelude.{◌≡◌, ◌≢◌, ℕ, Bool, List, [], ◌∷◌, ◌++◌, codes}
use Rattle.scan_core.specs.Count.{Count, count_of}
use Rattle.scan_core.specs.Digits.{AreDigits}
use Rattle.scan_core.specs.Number.{minus}
use Rattle.scan_core.specs.declared.share.Unit.TheVariants.{Year, Month, Day, Hour, Minute, Second}

-- how a text spells a duration: whether a minus stands there, and the digits of each count, none where the count is left out
pub record Spelling : Type 0 where
  pub negative : Bool
  pub years : List ℕ
  pub months : List ℕ
  pub days : List ℕ
  pub hours : List ℕ
  pub minutes : List ℕ
  pub seconds : List ℕ
  pub fraction : List ℕ

-- a number and the letter of its unit, or nothing where the number is left out
abbrev pub lettered_text : List ℕ → List ℕ → List ℕ
lettered_text [] letter = []
lettered_text (b ∷ bs) letter = (b ∷ bs) ++ letter

-- a mark and what stands behind it, or nothing where nothing would
abbrev pub marked_text : List ℕ → List ℕ → List ℕ
marked_text mark [] = []
marked_text mark (b ∷ bs) = mark ++ (b ∷ bs)

-- the counts in front of the `T`
abbrev pub date_counts_text : Spelling → List ℕ
date_counts_text s =
    lettered_text s.years (codes "Y")
    ++ (lettered_text s.months (codes "M") ++ lettered_text s.days (codes "D"))

-- the counts behind the `T`
abbrev pub time_counts_text : Spelling → List ℕ
time_counts_text s =
    lettered_text s.hours (codes "H")
    ++ (lettered_text s.minutes (codes "M")
    ++ lettered_text (s.seconds ++ marked_text (codes ".") s.fraction) (codes "S"))

-- the text with this spelling
abbrev pub spelling_text : Spelling → List ℕ
spelling_text s =
    minus s.negative ++ (codes "P" ++ (date_counts_text s ++ marked_text (codes "T") (time_counts_text s)))

-- digits alone are counted, a fraction stands behind whole seconds alone, and one count stands there at least
pub record IsSpelling (s : Spelling) : Type 0 where
  pub years : AreDigits s.years
  pub months : AreDigits s.months
  pub days : AreDigits s.days
  pub hours : AreDigits s.hours
  pub minutes : AreDigits s.minutes
  pub seconds : AreDigits s.seconds
  pub fraction : AreDigits s.fraction
  pub pointed : s.seconds ≡ [] → s.fraction ≡ []
  pub some : date_counts_text s ++ time_counts_text s ≢ []

-- the six counts, all with the sign of the whole; one that is left out is 0
abbrev pub counts_of : Spelling → List Count
counts_of s =
    count_of s.negative s.years [] Year
    ∷ (count_of s.negative s.months [] Month
    ∷ (count_of s.negative s.days [] Day
    ∷ (count_of s.negative s.hours [] Hour
    ∷ (count_of s.negative s.minutes [] Minute
    ∷ (count_of s.negative s.seconds s.fraction Second ∷ [])))))

-- the text is a duration and spells these counts
abbrev pub SpellsDuration : List ℕ → List Count → Type 0
SpellsDuration text counts =
    (s : Spelling) × IsSpelling s × (text ≡ spelling_text s) × (counts ≡ counts_of s)
