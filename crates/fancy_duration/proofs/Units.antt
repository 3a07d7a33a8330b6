-- What a unit weighs, by the part that it names.
use Rattle.std.proofs.Common.{◌≡◌, ◌≢◌, ℕ, ◌+◌, ◌*◌, Bool, false, ◌||◌, List, ◌∷◌, codes, bytes_eq, sym, ◌∙◌, ap, arith, mul-zero}
use Rattle.std.proofs.lemmas.Bool.{false_from_ne_true}
use Rattle.std.proofs.lemmas.Slice.Eq.{bytes_eq-Decides}
use Rattle.scan_core.specs.Digits.{number_of}
use Rattle.fancy_duration.specs.declared.part.DurationPart.{DurationPart}
use Rattle.fancy_duration.specs.declared.part.DurationPart.TheVariants.{Years, Months, Weeks, Days, Hours, Seconds, Milliseconds}
use Rattle.fancy_duration.specs.declared.part.DurationPart.TheVariants.{Microseconds, Nanoseconds}
use Rattle.fancy_duration.specs.Parts.{unit_of}
use Rattle.fancy_duration.specs.Items.{Item}
use Rattle.fancy_duration.specs.Sums.{is_long, long_follows, weight_in, total}
use Rattle.fancy_duration.specs.inside.Reading.{sum_with}

bytes_eq-false : (xs ys : List ℕ) → xs ≢ ys → bytes_eq xs ys ≡ false
bytes_eq-false xs ys h = false_from_ne_true (bytes_eq xs ys) (λ e. h ((bytes_eq-Decides xs ys).0 e))

-- of letters that are no unit
pub weight_in-other : (unit : List ℕ) (long : Bool) → ((part : DurationPart) → unit ≢ unit_of part)
    → weight_in unit long ≡ 0
weight_in-other unit long h =
    simp (
      bytes_eq-false unit (codes "y") (h Years),
      bytes_eq-false unit (codes "m") (h Months),
      bytes_eq-false unit (codes "w") (h Weeks),
      bytes_eq-false unit (codes "d") (h Days),
      bytes_eq-false unit (codes "h") (h Hours),
      bytes_eq-false unit (codes "s") (h Seconds),
      bytes_eq-false unit (codes "ms") (h Milliseconds),
      bytes_eq-false unit (codes "us") (h Microseconds),
      bytes_eq-false unit (codes "ns") (h Nanoseconds),
    )

pub is_long-other : (unit : List ℕ) → ((part : DurationPart) → unit ≢ unit_of part) → is_long unit ≡ false
is_long-other unit h =
    simp (
      bytes_eq-false unit (codes "y") (h Years),
      bytes_eq-false unit (codes "m") (h Months),
      bytes_eq-false unit (codes "w") (h Weeks),
      bytes_eq-false unit (codes "d") (h Days),
      bytes_eq-false unit (codes "h") (h Hours),
    )

pub passes_item : (item : Item) (later : List Item) (nanos pending : ℕ)
    → ((part : DurationPart) → item.unit ≢ unit_of part)
    → sum_with nanos pending (long_follows later) (total later)
    ≡ sum_with nanos pending (long_follows (item ∷ later)) (total (item ∷ later))
passes_item item later nanos pending h =
    let l = long_follows later in
    let nothing : number_of item.digits * weight_in item.unit l ≡ 0 = ap (λ w. number_of item.digits * w) (weight_in-other item.unit l h)
    ∙ mul-zero _ in
    let same_total : total later ≡ number_of item.digits * weight_in item.unit l + total later = omega (arith, nothing) in
    ap (λ b. sum_with nanos pending (b || l) (total later)) (sym (is_long-other item.unit h))
    ∙ ap (λ t. sum_with nanos pending (is_long item.unit || l) t) same_total
