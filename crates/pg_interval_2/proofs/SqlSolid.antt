-- The words of a text in `sql_standard` style are words: each has a byte, and none has a blank.
use Rattle.std.proofs.Common.{ℕ, ◌<◌, Bool, true, false, List, [], ◌++◌, length, length-append, append-nil, refl, sym, arith, inl, inr}
use Rattle.std.proofs.Common.{codes, subst}
use Rattle.scan_core.specs.Count.{Count}
use Rattle.scan_core.proofs.WordFacts.{NoBlanks}
use Rattle.scan_core.specs.Digits.{AreSomeDigits}
use Rattle.pg_interval_2.specs.Sql.{IsSignOr, IsYearMonth, IsDays, IsSqlTime}
use Rattle.pg_interval_2.specs.inside.SqlParts.{HasSeconds}
use Rattle.pg_interval_2.proofs.ItemWords.{no_blanks-append, digits_no_blanks, point_no_blanks}

-- at least one byte, and no blank
abbrev pub IsSolid : List ℕ → Type 0
IsSolid word = (0 < length word) × NoBlanks word

sign_clear : (default negative : Bool) (sign : List ℕ) → IsSignOr default negative sign → NoBlanks sign
sign_clear default true sign (inl minus) = rw minus (refl, tt)
sign_clear default true sign (inr none) = rw none.0 tt
sign_clear default false sign (inl plus) = rw plus (refl, tt)
sign_clear default false sign (inr none) = rw none.0 tt

-- a sign, digits and what follows them
pub solid : (default negative : Bool) (sign field tail : List ℕ) → IsSignOr default negative sign → AreSomeDigits field → NoBlanks tail
    → IsSolid (sign ++ (field ++ tail))
solid default negative sign field tail signed digits clear =
    let some = digits.0 in (
      omega (arith, some, length-append sign (field ++ tail), length-append field tail),
      no_blanks-append sign (field ++ tail) (sign_clear default negative sign signed)
          (no_blanks-append field tail (digits_no_blanks field digits.1) clear),
    )

pub year_month_solid : (word : List ℕ) (counts : List Count) → IsYearMonth word counts → IsSolid word
year_month_solid word counts h =
    subst IsSolid (sym h.joined) (solid false h.negative h.sign h.years (codes "-" ++ h.months) h.signed h.year_field
    (refl, digits_no_blanks h.months h.month_field.1))

pub days_solid : (negative : Bool) (word : List ℕ) (counts : List Count) → IsDays negative word counts → IsSolid word
days_solid negative word counts h =
    let clear = solid false negative h.sign h.days [] h.signed h.day_field tt in
    subst IsSolid (sym h.joined) (subst (λ (l : List ℕ). IsSolid (h.sign ++ l)) (append-nil h.days) clear)

pub seconds_clear : (negative : Bool) (piece : List ℕ) (counts : List Count) → HasSeconds negative piece counts → NoBlanks piece
seconds_clear negative piece counts (inl none) = rw none.0 tt
seconds_clear negative piece counts (inr h) =
    let joined = h.joined in
    rw joined (
      refl,
      no_blanks-append h.seconds h.tail (digits_no_blanks h.seconds h.second_field.1)
          (point_no_blanks h.fraction h.tail h.point),
    )

pub time_solid : (default : Bool) (word : List ℕ) (counts : List Count) → IsSqlTime default word counts → IsSolid word
time_solid default word counts h =
    subst IsSolid (sym h.joined) (solid default h.negative h.sign h.hours (codes ":" ++ (h.minutes ++ h.piece)) h.signed h.hour_field (
      refl,
      no_blanks-append h.minutes h.piece (digits_no_blanks h.minutes h.minute_field.1)
          (seconds_clear h.negative h.piece h.second_counts h.seconds),
    ))
