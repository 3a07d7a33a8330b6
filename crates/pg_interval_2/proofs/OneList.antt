-- A text has one list of counts, in each style.
use Rattle.std.proofs.Common.{◌≡◌, ℕ, List}
use Rattle.scan_core.specs.Count.{Count}
use Rattle.pg_interval_2.specs.declared.style.Style.{Style}
use Rattle.pg_interval_2.specs.declared.style.Style.TheVariants.{Iso, Postgres, Verbose, Sql, IsoStrict}
use Rattle.pg_interval_2.specs.Styles.{IsBadPlace, Shape}
use Rattle.pg_interval_2.specs.UnitNames.{postgres_names}
use Rattle.pg_interval_2.proofs.Answering.{IsPlaces}
use Rattle.pg_interval_2.proofs.BadNames.{no_shape_at_bad_name, one_bad_name}
use Rattle.pg_interval_2.proofs.IsoWhole.{either, strict_either}
use Rattle.pg_interval_2.proofs.IsoCounts.{one_list as iso}
use Rattle.pg_interval_2.proofs.IsoStrictFacts.{one_list as strict}
use Rattle.pg_interval_2.proofs.PostgresCounts.{are_names, one_list as postgres}
use Rattle.pg_interval_2.proofs.SqlCounts.{one_list as sql}
use Rattle.pg_interval_2.proofs.VerboseBadNames.{no_shape_at_bad, one_bad}
use Rattle.pg_interval_2.proofs.VerboseCounts.{one_list as verbose}

pub one_list : (style : Style) (text : List ℕ) (a b : List Count) → Shape style text a → Shape style text b → a ≡ b
one_list Iso text a b h k = iso text a b (either text a h) (either text b k)
one_list Postgres text a b h k = postgres text a b h k
one_list Verbose text a b h k = verbose text a b h k
one_list Sql text a b h k = sql text a b h k
one_list IsoStrict text a b h k = strict text a b (strict_either text a h) (strict_either text b k)

-- in each style a bad place leaves a text without a shape, and it has one at most
pub places : (style : Style) → IsPlaces (Shape style) (IsBadPlace style)
places Iso = record { none = λ text start end counts bad shape. bad; one = λ text s e t f bad other. absurd bad }
places Postgres = record { none = no_shape_at_bad_name postgres_names are_names; one = one_bad_name postgres_names are_names }
places Verbose = record { none = no_shape_at_bad; one = one_bad }
places Sql = record { none = λ text start end counts bad shape. bad; one = λ text s e t f bad other. absurd bad }
places IsoStrict = record { none = λ text start end counts bad shape. bad; one = λ text s e t f bad other. absurd bad }
