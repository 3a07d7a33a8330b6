-- Units and their places.
use Rattle.std.proofs.Common.{◌≡◌, ℕ, ◌<◌, ◌==◌, cond, refl, sym, ◌∙◌, ap, arith}
use Rattle.scan_core.specs.declared.share.Unit.{Unit as TimeUnit}
use Rattle.scan_core.specs.declared.share.Unit.TheVariants.{Year, Month, Week, Day, Hour, Minute, Second}
use Rattle.pg_interval_2.specs.inside.UnitPlaces.{place_of}

pub place_small : (unit : TimeUnit) → place_of unit < 8
place_small Year = omega arith
place_small Month = omega arith
place_small Week = omega arith
place_small Day = omega arith
place_small Hour = omega arith
place_small Minute = omega arith
place_small Second = omega arith

pub unit_at : ℕ → TimeUnit
unit_at n = cond (n == 0) Year (cond (n == 1) Month (cond (n == 2) Week
    (cond (n == 3) Day (cond (n == 4) Hour (cond (n == 5) Minute Second)))))

pub at_place : (unit : TimeUnit) → unit_at (place_of unit) ≡ unit
unfolding unit_at
at_place Year = refl
at_place Month = refl
at_place Week = refl
at_place Day = refl
at_place Hour = refl
at_place Minute = refl
at_place Second = refl

-- units at one place are one
pub same_unit : (a b : TimeUnit) → place_of a ≡ place_of b → a ≡ b
same_unit a b h = sym (at_place a) ∙ ap unit_at h ∙ at_place b
