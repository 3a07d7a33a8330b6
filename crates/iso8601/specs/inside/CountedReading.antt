-- What a scan knows that has passed digits whose unit isn't known yet. Cited by private contracts alone.
use Rattle.std.specs.Prelude.{◌≡◌, ◌≢◌, ℕ, List, [], drop, None, ◌⊎◌, ◌∷◌, true}
use Rattle.std.specs.Char.{is_ascii_digit}
use Rattle.scan_core.specs.Fronts.{front_digits, after_digits}
use Rattle.scan_core.specs.Runs.{IsRun, digits_of}
use Rattle.scan_core.specs.Scanning.{Place, ahead}
use Rattle.scan_core.specs.declared.runs.Run.{Run}
use Rattle.iso8601.specs.inside.Reading.{read_marked}
use Rattle.iso8601.specs.inside.TimeReading.{millis_of, read_both}
use Rattle.iso8601.specs.inside.DurationReading.{read_perhaps, read_seconds}

-- the bytes from the run's start on
abbrev pub from_run : List ℕ → Run → List ℕ
from_run text run = drop run.start text

-- the run is all digits that stand at its start, and the scan stands behind them
pub record IsBehind (run : Run) (place : Place) : Type 0 where
  pub is_run : IsRun place.text run
  pub digits : digits_of place.text run ≡ front_digits (from_run place.text run)
  pub rest : ahead place ≡ after_digits (from_run place.text run)

-- a colon or a digit is in front, and no field up to hi stands there
abbrev pub BeginsField : List ℕ → Type 0
BeginsField [] = ⊥
BeginsField (b ∷ bs) = (b ≡ 58) ⊎ (is_ascii_digit b ≡ true)

abbrev pub IsStuck : ℕ → List ℕ → Type 0
IsStuck hi bytes = BeginsField bytes × (read_marked 58 2 0 hi bytes ≡ None)

-- a point or a comma is in front, digits behind it have these milliseconds, and the rest follows them
abbrev pub IsPointed : List ℕ → ℕ → List ℕ → Type 0
IsPointed [] millisecond rest = ⊥
IsPointed (b ∷ bs) millisecond rest =
    ((b ≡ 46) ⊎ (b ≡ 44)) × (millisecond ≡ millis_of (front_digits bs)) × (rest ≡ after_digits bs)

abbrev pub BeginsNoPoint : List ℕ → Type 0
BeginsNoPoint [] = Unit {0}
BeginsNoPoint (b ∷ bs) = (b ≢ 46) × (b ≢ 44)

-- what stands behind a `T`
abbrev pub read_clock_counts : List ℕ → (ℕ × (ℕ × (ℕ × ℕ))) × List ℕ
read_clock_counts = read_both (read_perhaps 72) (read_both (read_perhaps 77) read_seconds)

-- the letter of years, months or days is in front
abbrev pub BeginsUnit : List ℕ → Type 0
BeginsUnit [] = ⊥
BeginsUnit (b ∷ bs) = (b ≡ 89) ⊎ ((b ≡ 77) ⊎ (b ≡ 68))
