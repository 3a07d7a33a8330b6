-- A text in strict ISO style is in ISO style, and so has one list of counts.
use Rattle.std.proofs.Common.{◌≡◌, ℕ, Bool, true, false, not, ◌||◌, List, inl, inr, sym, ◌∙◌}
use Rattle.std.proofs.Math.Bool.{or-false, or-true}
use Rattle.std.proofs.lemmas.Bool.{false≢true}
use Rattle.scan_core.specs.Count.{Count}
use Rattle.pg_interval_2.specs.declared.interval.Interval.{Interval}
use Rattle.pg_interval_2.specs.declared.reading.iso.OrderedTally.{OrderedTally}
use Rattle.pg_interval_2.specs.Denotes.{Denotes, HasNoShape}
use Rattle.pg_interval_2.specs.inside.IsoShapes.{IsIsoEither, IsStrictEither, iso_shape}
use Rattle.pg_interval_2.specs.inside.IsoTally.{IsSpelled}
use Rattle.pg_interval_2.specs.inside.Tallies.{IsTallyOf}
use Rattle.pg_interval_2.proofs.IsoCounts.{one_list as iso_list}

pub is_iso : (text : List ℕ) (counts : List Count) → IsStrictEither text counts → IsIsoEither text counts
is_iso text counts (inl (alone, ordered)) = inl alone
is_iso text counts (inr (timed, dates, times, some)) = inr timed

pub iso_denoted : (text : List ℕ) (t : Interval) → Denotes IsStrictEither text t → Denotes IsIsoEither text t
iso_denoted text t (counts, shape, fits, sum) = (counts, is_iso text counts shape, fits, sum)

pub one_list : (text : List ℕ) (a b : List Count) → IsStrictEither text a → IsStrictEither text b → a ≡ b
one_list text a b x y = iso_list text a b (is_iso text a x) (is_iso text b y)

-- ---- in either style, where the strict one asks for order

pub is_tally : (strict : Bool) (text : List ℕ) (spelled : OrderedTally) → true ≡ (spelled.in_order || not strict) → IsSpelled text spelled
    → IsTallyOf (iso_shape strict) text spelled.tally
is_tally false text spelled suits is = is.tallied
is_tally true text spelled suits is = is.strict (sym (suits ∙ or-false spelled.in_order))

pub is_none : (strict : Bool) (text : List ℕ) (spelled : OrderedTally) → false ≡ (spelled.in_order || not strict) → IsSpelled text spelled
    → HasNoShape (iso_shape strict) text
is_none false text spelled suits is = λ counts shape. false≢true (suits ∙ or-true spelled.in_order)
is_none true text spelled suits is = is.loose (sym (suits ∙ or-false spelled.in_order))

pub has_none : (strict : Bool) (text : List ℕ) → HasNoShape IsIsoEither text → HasNoShape (iso_shape strict) text
has_none false text none = none
has_none true text none = λ counts shape. none counts (is_iso text counts shape)
