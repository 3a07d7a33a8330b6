-- Parts of written texts by names that private contracts alone cite.
use Rattle.std.specs.Prelude.{ℤ, neg_ℤ, Bool, if◌then◌else◌}

-- a part of an offset, negated where a minus governs the parts
abbrev pub governed_part : Bool → ℤ → ℤ
governed_part governed part = if governed then neg_ℤ part else part
