-- The written text of each style is read back as its interval, and as no other.
use Rattle.std.proofs.Common.{◌≡◌, ℕ, List, sym, subst}
use Rattle.pg_interval_2.specs.declared.interval.Interval.{Interval}
use Rattle.pg_interval_2.specs.declared.style.Style.{Style}
use Rattle.pg_interval_2.specs.declared.style.Style.TheVariants.{Iso, Postgres, Verbose, Sql, IsoStrict}
use Rattle.pg_interval_2.specs.Denotes.{Denotes}
use Rattle.pg_interval_2.specs.Iso.{IsIso, unit_in}
use Rattle.pg_interval_2.specs.IsoStrict.{IsIsoStrict}
use Rattle.pg_interval_2.specs.inside.IsoShapes.{IsIsoEither, IsStrictEither}
use Rattle.pg_interval_2.specs.Ranges.{IsInRange}
use Rattle.pg_interval_2.specs.Styles.{Shape, style_text}
use Rattle.pg_interval_2.proofs.IsoReadBack.{iso_denotes, iso_alone, strict_denotes, strict_alone}
use Rattle.pg_interval_2.proofs.PostgresReadBack.{postgres_denotes, postgres_alone}
use Rattle.pg_interval_2.proofs.IsoWhole.{whole, either, whole_strict, strict_either}
use Rattle.pg_interval_2.proofs.SameShape.{denotes_onto}
use Rattle.pg_interval_2.proofs.TextsInSteps.{steps_of, in_steps}
use Rattle.pg_interval_2.proofs.SqlReadBack.{sql_denotes, sql_alone}
use Rattle.pg_interval_2.proofs.VerboseReadBack.{verbose_denotes, verbose_alone}

steps_denote : (style : Style) (t : Interval) → IsInRange t → Denotes (Shape style) (steps_of style t) t
steps_denote Iso t range = denotes_onto IsIsoEither (IsIso unit_in) (whole unit_in) (steps_of Iso t) t (iso_denotes t range)
steps_denote Postgres t range = postgres_denotes t range
steps_denote Verbose t range = verbose_denotes t range
steps_denote Sql t range = sql_denotes t range
steps_denote IsoStrict t range = denotes_onto IsStrictEither IsIsoStrict whole_strict (steps_of IsoStrict t) t (strict_denotes t range)

steps_alone : (style : Style) (t u : Interval) → IsInRange t → Denotes (Shape style) (steps_of style t) u → u ≡ t
steps_alone Iso t u range h = iso_alone t u range (denotes_onto (IsIso unit_in) IsIsoEither either (steps_of Iso t) u h)
steps_alone Postgres t u range h = postgres_alone t u range h
steps_alone Verbose t u range h = verbose_alone t u range h
steps_alone Sql t u range h = sql_alone t u range h
steps_alone IsoStrict t u range h = strict_alone t u range (denotes_onto IsIsoStrict IsStrictEither strict_either
    (steps_of IsoStrict t) u h)

pub denotes : (style : Style) (t : Interval) → IsInRange t → Denotes (Shape style) (style_text style t) t
denotes style t range = subst (λ (l : List ℕ). Denotes (Shape style) l t) (sym (in_steps style t)) (steps_denote style t range)

pub alone : (style : Style) (t u : Interval) → IsInRange t → Denotes (Shape style) (style_text style t) u → u ≡ t
alone style t u range h = steps_alone style t u range (subst (λ (l : List ℕ). Denotes (Shape style) l u) (in_steps style t) h)
