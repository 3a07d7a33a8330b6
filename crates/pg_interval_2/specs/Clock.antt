-- Clocks in the texts of PostgreSQL: hours, minutes and seconds with colons between, `-04:05:06.5`.
use Rattle.std.specs.Prelude.{◌≡◌, ℕ, Bool, true, ◌&&◌, not, ◌==◌, List, [], ◌∷◌, ◌++◌, take, codes, filter}
use Rattle.scan_core.specs.Digits.{AreSomeDigits, number_of}
use Rattle.scan_core.specs.Number.{IsSign, IsFraction}
use Rattle.scan_core.specs.Count.{Count, count_of}
use Rattle.scan_core.specs.declared.share.Unit.TheVariants.{Hour, Minute, Second}

-- the counts of a clock's fields: those that aren't 0, the fraction of the seconds cut after six digits
abbrev pub clock_counts : Bool → List ℕ → List ℕ → List ℕ → List ℕ → List Count
clock_counts negative hours minutes seconds fraction =
    filter (λ c. not (number_of c.whole == 0 && number_of c.fraction == 0))
    (count_of negative hours [] Hour
    ∷ count_of negative minutes [] Minute
    ∷ count_of negative seconds (take 6 fraction) Second
    ∷ [])

-- the word is a clock with these counts
pub record IsClock (word : List ℕ) (counts : List Count) : Type 0 where
  pub negative : Bool
  pub sign : List ℕ
  pub hours : List ℕ
  pub minutes : List ℕ
  pub seconds : List ℕ
  pub fraction : List ℕ
  pub tail : List ℕ
  pub signed : IsSign true negative sign
  pub hour_field : AreSomeDigits hours
  pub minute_field : AreSomeDigits minutes
  pub second_field : AreSomeDigits seconds
  pub point : IsFraction fraction tail
  pub joined :
      word ≡ sign ++ (hours ++ (codes ":" ++ (minutes ++ (codes ":" ++ (seconds ++ tail)))))
  pub counted : counts ≡ clock_counts negative hours minutes seconds fraction
