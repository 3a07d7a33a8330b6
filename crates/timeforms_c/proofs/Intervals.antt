-- What a reader of one style says of the texts of a style that is the same.
use Rattle.std.proofs.Common.{◌≡◌, List, ℕ, Result, Ok, Err, FitsSigned, to_z, of_z, w32, w64, refl, sym, ◌∙◌, subst}
use Rattle.std.specs.Prelude.{ℤ}
use Rattle.std.proofs.Math.Facts.{to_z-of_z}
use Rattle.pg_interval_2.specs.Ranges.{IsInRange}
use Rattle.pg_interval_2.specs.Styles.{style_text}
use Rattle.pg_interval_2.specs.declared.interval.Interval.{Interval}
use Rattle.pg_interval_2.specs.declared.style.Style.{Style}
use Rattle.forms.specs.declared.cause.Cause.{Cause}
use Rattle.forms.specs.declared.cause.Cause.TheVariants.{Syntax, NoSuchMoment, Range, Kind, Precision, Ambiguous}
use Rattle.forms.specs.form.Intervals.{FindsInterval}
use Rattle.timeforms_c.specs.Codes.{code_of}
use Rattle.timeforms_c.proofs.Answered.{same_ok}

-- the numbers of an interval, as 32, 32 and 64 bits hold them
abbrev pub IsHeldAs : Interval → Interval → Type 0
IsHeldAs read t = (to_z w32 (of_z w32 read.months) ≡ t.months) × (to_z w32 (of_z w32 read.days) ≡ t.days)
    × (to_z w64 (of_z w64 read.microseconds) ≡ t.microseconds)

-- the one interval that a text denotes is held
pub read_held : (read t : Interval) → ◌≡◌ {A = Result Interval Cause} (Ok read) (Ok t) → IsInRange t → IsHeldAs read t
read_held read t is range =
    let fit : IsHeldAs t t = (to_z-of_z range.months, to_z-of_z range.days, to_z-of_z range.microseconds) in
    subst (λ (u : Interval). IsHeldAs u t) (sym (same_ok read t is)) fit

-- what the law of the crate below says: a text has one interval or cause in a style
abbrev pub HasOneFound : Type 0
HasOneFound = (style : Style) (text : List ℕ) (a b : Result Interval Cause) → FindsInterval style text a → FindsInterval style text b → a ≡ b

-- what was found of a text is what is found of the same text in the same style
pub found_again : HasOneFound → (s style : Style) (given text : List ℕ) (a b : Result Interval Cause) → s ≡ style → given ≡ text
    → FindsInterval s given a → FindsInterval style text b → a ≡ b
found_again one s style given text a b same is h k = one style text a b (rw (same, is) at h) k

pub is_no_code : (t : Interval) (cause : Cause) → ◌≡◌ {A = Result Interval Cause} (Ok t) (Err cause) → ⊥
is_no_code t cause e = cc

pub is_no_interval : (cause : Cause) (t : Interval) → ◌≡◌ {A = Result Interval Cause} (Err cause) (Ok t) → ⊥
is_no_interval cause t e = cc

-- the code of a cause that is this one
pub is_code : (cause other : Cause) (code : ℤ) → ◌≡◌ {A = Result Interval Cause} (Err cause) (Err other) → code ≡ code_of cause
    → to_z w32 (of_z w32 code) ≡ code_of other
is_code Syntax other code is answered = let same : Syntax ≡ other = cc in rw (answered, sym same) refl
is_code NoSuchMoment other code is answered = let same : NoSuchMoment ≡ other = cc in rw (answered, sym same) refl
is_code Range other code is answered = let same : Range ≡ other = cc in rw (answered, sym same) refl
is_code Kind other code is answered = let same : Kind ≡ other = cc in rw (answered, sym same) refl
is_code Precision other code is answered = let same : Precision ≡ other = cc in rw (answered, sym same) refl
is_code Ambiguous other code is answered = let same : Ambiguous ≡ other = cc in rw (answered, sym same) refl

-- a text that is written of an interval is written of the same one in the same style
pub written_again : (s style : Style) (made t : Interval) (bytes : List ℕ) → s ≡ style → made ≡ t → bytes ≡ style_text s made
    → bytes ≡ style_text style t
written_again s style made t bytes same is h = rw (sym same, sym is) h

-- an interval that was made of three numbers as 32, 32 and 64 bits hold them was made of the numbers
pub made_of : (made : Interval) (m d u : ℤ) → FitsSigned w32 m → FitsSigned w32 d → FitsSigned w64 u
    → made ≡ record { months = to_z w32 (of_z w32 m); days = to_z w32 (of_z w32 d); microseconds = to_z w64 (of_z w64 u) }
    → made ≡ record { months = m; days = d; microseconds = u }
made_of made m d u months days micros is = is ∙ rw (to_z-of_z months, to_z-of_z days, to_z-of_z micros) refl
