-- Where the parts of a timestamp stand in its text, and what follows them.
use Rattle.std.specs.Prelude.{◌≡◌, ℕ, ◌+◌, ◌*◌, ◌==◌, ◌||◌, Bool, false, List, [], ◌∷◌, take, drop, if◌then◌else◌, Option, Some, None, ℤ}
use Rattle.scan_core.specs.Fronts.{front_digits, after_digits, NoDigitFirst, BeginsWithout}
use Rattle.scan_core.specs.Shares.{signed}
use Rattle.pg_timestamp.specs.Pieces.{IsMarkedPair, era_text}
use Rattle.pg_timestamp.specs.Dates.{IsLongYear}
use Rattle.pg_timestamp.specs.Timestamps.{IsMicrosFraction, IsMore, sign_of}
use Rattle.pg_timestamp.specs.declared.time.Time.{Time}
use Rattle.pg_timestamp.specs.declared.timestamp.Timestamp.{Timestamp}

-- a point in front and the digits behind it, and what follows them
abbrev pub fraction_front : List ℕ → List ℕ
fraction_front [] = []
fraction_front (b ∷ bs) = if b == 46 then (b ∷ front_digits bs) else []

abbrev pub after_fraction : List ℕ → List ℕ
after_fraction [] = []
after_fraction (b ∷ bs) = if b == 46 then after_digits bs else (b ∷ bs)

-- whether a point stands in front, and what follows it
abbrev pub has_point : List ℕ → Bool
has_point [] = false
has_point (b ∷ bs) = b == 46

abbrev pub behind_point : List ℕ → List ℕ
behind_point [] = []
behind_point (b ∷ bs) = if b == 46 then bs else (b ∷ bs)

abbrev pub is_point : ℕ → Bool
is_point b = b == 46

-- whether this byte stands in front
abbrev pub has_first : ℕ → List ℕ → Bool
has_first mark [] = false
has_first mark (b ∷ bs) = b == mark

-- a colon in front and two digits behind it, and what follows them
abbrev pub more_front : List ℕ → List ℕ
more_front text = if has_first 58 text then take 3 text else []

abbrev pub after_more : List ℕ → List ℕ
after_more text = if has_first 58 text then drop 3 text else text

-- the parts of an offset in front of a text
pub record IsOffsetAt (text : List ℕ) (seconds : ℤ) : Type 0 where
  pub negative : Bool
  pub hour : ℕ
  pub minute : ℕ
  pub second : ℕ
  pub hours : IsMarkedPair (sign_of negative) 0 24 (take 3 text) hour
  pub minutes : IsMore (more_front (drop 3 text)) minute
  pub seconds_are : IsMore (more_front (after_more (drop 3 text))) second
  pub value : seconds ≡ signed negative ((hour * 60 + minute) * 60 + second)

-- what follows an offset
abbrev pub after_offset : List ℕ → List ℕ
after_offset text = after_more (after_more (drop 3 text))

-- whether a sign stands in front
abbrev pub has_sign : List ℕ → Bool
has_sign text = has_first 45 text || has_first 43 text

abbrev pub IsPerhapsOffsetAt : List ℕ → Option ℤ → Type 0
IsPerhapsOffsetAt text None = has_sign text ≡ false
IsPerhapsOffsetAt text (Some seconds) = IsOffsetAt text seconds

abbrev pub after_perhaps : List ℕ → List ℕ
after_perhaps text = if has_sign text then after_offset text else text

-- what can stand behind a time: no digit, no point, no colon and no sign in front
pub record EndsTime (rest : List ℕ) : Type 0 where
  pub digit : NoDigitFirst rest
  pub point : BeginsWithout is_point rest
  pub colon : has_first 58 rest ≡ false
  pub sign : has_sign rest ≡ false

-- the parts of a time in front of a text
pub record AreTimeAt (text : List ℕ) (time : Time) : Type 0 where
  pub hours : IsMarkedPair 32 0 24 (take 3 text) time.hour
  pub minutes : IsMarkedPair 58 0 59 (take 3 (drop 3 text)) time.minute
  pub seconds : IsMarkedPair 58 0 60 (take 3 (drop 3 (drop 3 text))) time.second
  pub fraction : IsMicrosFraction (fraction_front (drop 3 (drop 3 (drop 3 text)))) time.micros
  pub offset : IsPerhapsOffsetAt (after_fraction (drop 3 (drop 3 (drop 3 text)))) time.offset

-- what follows a time
abbrev pub after_time : List ℕ → List ℕ
after_time text = after_perhaps (after_fraction (drop 3 (drop 3 (drop 3 text))))

-- what follows the day: the era, or a time and the era
abbrev pub IsEndAt : List ℕ → Option Time → Bool → Type 0
IsEndAt text None bc = text ≡ era_text bc
IsEndAt text (Some time) bc = AreTimeAt text time × (after_time text ≡ era_text bc)

-- the parts of a timestamp
pub record AreAt (text : List ℕ) (timestamp : Timestamp) : Type 0 where
  pub years : IsLongYear (front_digits text) timestamp.date.year
  pub months : IsMarkedPair 45 1 12 (take 3 (after_digits text)) timestamp.date.month
  pub days : IsMarkedPair 45 1 31 (take 3 (drop 3 (after_digits text))) timestamp.date.day
  pub end : IsEndAt (drop 3 (drop 3 (after_digits text))) timestamp.time timestamp.date.bc
