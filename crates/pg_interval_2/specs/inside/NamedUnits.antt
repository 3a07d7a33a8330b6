-- The unit that a word names, looked for in one order.
use Rattle.std.specs.Prelude.{ℕ, Bool, List, bytes_eq, Option, Some, None, if◌then◌else◌}
use Rattle.std.specs.List.{list_any}
use Rattle.scan_core.specs.declared.share.Unit.{Unit as TimeUnit}
use Rattle.scan_core.specs.declared.share.Unit.TheVariants.{Year, Month, Day, Hour, Minute, Second}

-- the word is one of these
abbrev pub is_one_of : List (List ℕ) → List ℕ → Bool
is_one_of names word = list_any (λ name. bytes_eq word name) names

-- the unit that a word names
unfoldable pub unit_named : (TimeUnit → List (List ℕ)) → List ℕ → Option TimeUnit
unit_named names word =
    if is_one_of (names Year) word then Some Year
    else if is_one_of (names Month) word then Some Month
    else if is_one_of (names Day) word then Some Day
    else if is_one_of (names Hour) word then Some Hour
    else if is_one_of (names Minute) word then Some Minute
    else if is_one_of (names Second) word then Some Second else None
