-- What the small readers answer, as functions on lists: a value and what follows it. Cited by private contracts alone.
use Rattle.std.specs.Prelude.{ℕ, ℤ, ◌^◌, Bool, true, false, ◌&&◌, ◌==◌, nat_le, nat_lt, List, [], ◌∷◌, length, take, drop, Option, Some}
use Rattle.std.specs.Prelude.{None, if◌then◌else◌, option_and_then}
use Rattle.std.specs.Char.{is_ascii_digit}
use Rattle.std.specs.List.{list_all}
use Rattle.scan_core.specs.Digits.{number_of}
use Rattle.scan_core.specs.Shares.{signed}
use Rattle.iso8601.specs.declared.types.Date.{Date}
use Rattle.iso8601.specs.declared.types.Date.TheVariants.{YMD, Week, Ordinal}

-- the number of 32 bits that digits are
unfoldable pub number_in : List ℕ → Option ℕ
number_in digits =
    if nat_lt 0 (length digits) && nat_lt (number_of digits) (2 ^ 32) then Some (number_of digits)
    else None

-- the bytes are a field
abbrev pub is_field : ℕ → ℕ → ℕ → List ℕ → Bool
is_field count lo hi text =
    (length text == count)
    && (list_all is_ascii_digit text && (nat_le lo (number_of text) && nat_le (number_of text) hi))

unfoldable pub read_field : ℕ → ℕ → ℕ → List ℕ → Option (ℕ × List ℕ)
read_field count lo hi bytes =
    if is_field count lo hi (take count bytes)
    then Some (number_of (take count bytes), drop count bytes) else None

-- what follows the mark, or all where it isn't there
abbrev pub after_mark : ℕ → List ℕ → List ℕ
after_mark mark [] = []
after_mark mark (b ∷ bs) = if b == mark then bs else (b ∷ bs)

unfoldable pub read_marked : ℕ → ℕ → ℕ → ℕ → List ℕ → Option (ℕ × List ℕ)
read_marked mark count lo hi bytes = read_field count lo hi (after_mark mark bytes)

-- what follows the mark
abbrev pub read_mark : ℕ → List ℕ → Option (List ℕ)
read_mark mark [] = None
read_mark mark (b ∷ bs) = if b == mark then Some bs else None

-- whether a minus stands in front, and what follows the sign
abbrev pub read_sign : List ℕ → Bool × List ℕ
read_sign [] = (false, [])
read_sign (b ∷ bs) =
    if b == 45 then (true, bs) else if b == 43 then (false, bs) else (false, b ∷ bs)

unfoldable pub read_year : List ℕ → Option (ℤ × List ℕ)
read_year bytes =
    let sign = read_sign bytes in
    option_and_then (λ r. Some (signed sign.0 r.0, r.1)) (read_field 4 0 9999 sign.1)

-- the one of these that there is, the first before the second
abbrev pub or_else : {A : Type 0} → Option A → Option A → Option A
or_else (Some x) second = Some x
or_else None second = second

unfoldable pub read_month_day : ℤ → List ℕ → Option (Date × List ℕ)
read_month_day year bytes =
    option_and_then (λ m.
    option_and_then (λ d. Some (YMD year m.0 d.0, d.1))
    (read_marked 45 2 1 31 m.1))
    (read_field 2 1 12 bytes)

unfoldable pub read_week_day : ℤ → List ℕ → Option (Date × List ℕ)
read_week_day year bytes =
    option_and_then (λ w.
    option_and_then (λ k.
    option_and_then (λ d. Some (Week year k.0 d.0, d.1))
    (read_marked 45 1 1 7 k.1))
    (read_field 2 1 53 w))
    (read_mark 87 bytes)

unfoldable pub read_ordinal_day : ℤ → List ℕ → Option (Date × List ℕ)
read_ordinal_day year bytes =
    option_and_then (λ d. Some (Ordinal year d.0, d.1)) (read_field 3 1 366 bytes)

unfoldable pub read_day : ℤ → List ℕ → Option (Date × List ℕ)
read_day year bytes =
    or_else (read_week_day year bytes)
    (or_else (read_month_day year bytes) (read_ordinal_day year bytes))

unfoldable pub read_date : List ℕ → Option (Date × List ℕ)
read_date bytes = option_and_then (λ y. read_day y.0 (after_mark 45 y.1)) (read_year bytes)
