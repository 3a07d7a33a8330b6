-- What a text of counts and units adds up to, in nanoseconds. The documentation of the Rust crate
-- `fancy-duration` says of `m` that months "must appear before" minutes; its code takes an `m` for
-- months exactly where an `m`, `h`, `d`, `w` or `y` follows later, and so do these definitions.
use Rattle.std.specs.Prelude.{◌≡◌, ℕ, ◌+◌, ◌*◌, Bool, true, not, ◌&&◌, List, [], ◌∷◌, codes, find, bytes_eq, Option}
use Rattle.std.specs.List.{list_any}
use Rattle.std.specs.Option.{option_map_or}
use Rattle.scan_core.specs.Digits.{number_of}
use Rattle.fancy_duration.specs.declared.part.DurationPart.{DurationPart}
use Rattle.fancy_duration.specs.declared.part.DurationPart.TheVariants.{Months, Minutes}
use Rattle.fancy_duration.specs.Parts.{all_parts, weight_of, unit_of}
use Rattle.fancy_duration.specs.Items.{Item, HasItems}

-- a unit that turns each `m` before it into months
abbrev pub is_long : List ℕ → Bool
is_long unit =
    list_any (bytes_eq unit) (codes "m" ∷ codes "h" ∷ codes "d" ∷ codes "w" ∷ codes "y" ∷ [])

-- a long unit stands among the items that follow
abbrev pub long_follows : List Item → Bool
long_follows later = list_any (λ item. is_long item.unit) later

-- of the two parts that `m` names, months are meant exactly where a long unit follows later, and
-- minutes elsewhere
abbrev pub can_be : DurationPart → Bool → Bool
can_be Months long = long
can_be Minutes long = not long
can_be _ long = true

-- the part that a unit names, if it names one
abbrev pub part_of : List ℕ → Bool → Option DurationPart
part_of unit long = find (λ part. bytes_eq unit (unit_of part) && can_be part long) all_parts

-- nanoseconds in one of the unit, and 0 where it names no part
abbrev pub weight_in : List ℕ → Bool → ℕ
weight_in unit long = option_map_or weight_of (part_of unit long) 0

-- the nanoseconds of all items
abbrev pub total : List Item → ℕ
total [] = 0
total (item ∷ later) =
    number_of item.digits * weight_in item.unit (long_follows later) + total later

-- the text's items make this many nanoseconds
pub record SumsTo (text : List ℕ) (nanos : ℕ) : Type 0 where
  pub items : List Item
  pub all : HasItems text items
  pub sum : nanos ≡ total items
