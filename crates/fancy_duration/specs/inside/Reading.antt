-- What the readers of this crate take from the front of a text.
use Rattle.std.specs.Prelude.{ℕ, ◌+◌, ◌*◌, ◌-◌, ◌^◌, min, Bool, true, false, not, ◌&&◌, List, [], ◌∷◌, length, take, drop, if◌then◌else◌}
use Rattle.fancy_duration.specs.Items.{Item, begins_by}
use Rattle.std.specs.Char.{is_ascii_digit as is_digit, is_ascii_alphabetic as is_letter}
use Rattle.scan_core.specs.Fronts.{leading, behind}
use Rattle.scan_core.specs.Join.{IsJoin}
use Rattle.fancy_duration.specs.Strict.{IsCount}
use Rattle.fancy_duration.specs.Parts.{weight_of}
use Rattle.fancy_duration.specs.declared.part.DurationPart.{DurationPart}
use Rattle.fancy_duration.specs.declared.part.DurationPart.TheVariants.{Years, Months, Weeks, Days, Hours, Minutes}

-- at most two letters at the front of a text, and what follows them
abbrev pub unit_front : List ℕ → List ℕ
unit_front bs = take 2 (leading is_letter bs)

abbrev pub unit_behind : List ℕ → List ℕ
unit_behind bs = drop (length (unit_front bs)) bs

-- the item that begins at the first digit of a text
abbrev pub item_at : List ℕ → Item
item_at bs = record { digits = leading is_digit bs; unit = unit_front (behind is_digit bs) }

-- the items of a text that stands behind a digit or behind none: each begins at a digit behind no
-- digit, and a letter follows its digits
abbrev pub items_behind : Bool → List ℕ → List Item
items_behind digit [] = []
items_behind digit (b ∷ bs) =
    if not digit && (is_digit b && begins_by is_letter (behind is_digit bs))
    then (item_at (b ∷ bs) ∷ items_behind (is_digit b) bs)
    else items_behind (is_digit b) bs

unfoldable pub items_of : List ℕ → List Item
items_of text = items_behind false text

-- a number as 128 bits hold it, and the greatest one for all above
abbrev pub capped : ℕ → ℕ
capped n = min n (2 ^ 128 - 1)

-- nanoseconds in one of a part, where minutes are months if a long part follows
abbrev pub weight_if : DurationPart → Bool → ℕ
weight_if Minutes long = if long then weight_of Months else weight_of Minutes
weight_if part long = weight_of part

-- a part turns an earlier `m` into months
abbrev pub is_long_part : DurationPart → Bool
is_long_part Years = true
is_long_part Weeks = true
is_long_part Days = true
is_long_part Hours = true
is_long_part Minutes = true
is_long_part _ = false

-- what a sum comes to with a pending `m`, a later part that may be long, and the sum of all later
-- items
abbrev pub sum_with : ℕ → ℕ → Bool → ℕ → ℕ
sum_with nanos pending long later = nanos + pending * weight_if Minutes long + later

-- a text is a join of counts
abbrev pub HasCounts : List ℕ → Type 0
HasCounts text = (parts : List DurationPart) × IsJoin IsCount text parts
