-- One more pair, read and counted.
use Rattle.std.proofs.Common.{◌≡◌, ℕ, Bool, true, false, List, [], ◌∷◌, ◌++◌, Option, Some, None, IfSome, IfNone, refl, sym, ◌∙◌, ap, subst}
use Rattle.std.proofs.Common.{append_assoc, append-nil, inl, inr, codes, ◌≢◌, ◌==◌}
use Rattle.std.proofs.lemmas.Bool.{eqb-true}
use Rattle.scan_core.specs.Count.{Count}
use Rattle.scan_core.proofs.Joins.{join_push, join_same}
use Rattle.pg_interval_2.specs.declared.reading.order.Order.{Order}
use Rattle.pg_interval_2.specs.declared.reading.tally.Tally.{Tally}
use Rattle.pg_interval_2.specs.Denotes.{HasNoShape}
use Rattle.pg_interval_2.specs.Iso.{unit_in, IsPair}
use Rattle.pg_interval_2.specs.inside.IsoShapes.{IsIsoEither}
use Rattle.pg_interval_2.specs.inside.IsoTally.{StopsBehindPairs, TakesPairs, ends_pairs}
use Rattle.pg_interval_2.specs.inside.Orders.{Orders}
use Rattle.scan_core.specs.Scanning.{Passes, Place, ahead}
use Rattle.pg_interval_2.specs.inside.Reading.{read_number, read_pair, read_unsigned}
use Rattle.pg_interval_2.specs.inside.Tallies.{Tallies}
use Rattle.pg_interval_2.proofs.IsoCounts.{is_pair, finds_pair, nothing_read, time_ends, no_time, behind_dates}

pub no_pairs : (in_time : Bool) (bytes : List ℕ) (tally : Tally) (order : Order) → TakesPairs in_time bytes bytes tally tally order order
no_pairs in_time bytes tally order = record {
  front = [];
  counts = [];
  pairs = refl;
  split = refl;
  tallied = λ before h. subst (Tallies tally) (sym (append-nil before)) h;
  ordered = λ before h. subst (Orders in_time order) (sym (append-nil before)) h;
}

-- one more pair in front of the rest
pub one_more_pair : (in_time : Bool) (bytes rest after : List ℕ) (old mid new : Tally) (was now is : Order) (c : Count)
    → TakesPairs in_time bytes rest old mid was now → read_pair (unit_in in_time) rest ≡ Some (c, after)
    → ((counts : List Count) → Tallies mid counts → Tallies new (counts ++ c ∷ []))
    → ((counts : List Count) → Orders in_time now counts → Orders in_time is (counts ++ c ∷ []))
    → TakesPairs in_time bytes after old new was is
one_more_pair in_time bytes rest after old mid new was now is c taken read adds orders =
    let pair = is_pair in_time rest c after read in
    record {
      front = taken.front ++ pair.0;
      counts = taken.counts ++ c ∷ [];
      pairs = join_push (IsPair (unit_in in_time)) taken.front pair.0 taken.counts c taken.pairs pair.1;
      split = taken.split ∙ ap (λ (l : List ℕ). taken.front ++ l) pair.2 ∙ sym (append_assoc taken.front pair.0 after);
      tallied = λ before h. subst (Tallies new) (append_assoc before taken.counts (c ∷ []))
          (adds (before ++ taken.counts) (taken.tallied before h));
      ordered = λ before h. subst (Orders in_time is) (append_assoc before taken.counts (c ∷ []))
          (orders (before ++ taken.counts) (taken.ordered before h));
    }

-- ---- whole texts

-- neither the end nor the time follows the pairs
pub no_shape_behind_dates : (text date rest : List ℕ) (old new : Tally) (was is : Order) → text ≡ codes "P" ++ date
    → TakesPairs false date rest old new was is → read_pair (unit_in false) rest ≡ None → rest ≢ []
    → ((time : List ℕ) → rest ≢ codes "T" ++ time)
    → HasNoShape IsIsoEither text
no_shape_behind_dates text date rest old new was is spelled taken stuck some no_time counts shape =
    elim (behind_dates text taken.front rest taken.counts counts taken.pairs stuck
    (spelled ∙ ap (λ (l : List ℕ). codes "P" ++ l) taken.split) shape) [
      | inl end ↦ some end.0
      | inr timed ↦ no_time timed.0 timed.2
    ]

-- something follows the pairs of the time
pub no_shape_behind_times : (text date time rest : List ℕ) (old mid new : Tally) (was is from to : Order) → text ≡ codes "P" ++ date
    → TakesPairs false date (codes "T" ++ time) old mid was is → TakesPairs true time rest mid new from to
    → read_pair (unit_in true) rest ≡ None → rest ≢ []
    → HasNoShape IsIsoEither text
no_shape_behind_times text date time rest old mid new was is from to spelled dates times stuck some counts shape =
    elim (behind_dates text dates.front (codes "T" ++ time) dates.counts counts dates.pairs (time_ends time)
    (spelled ∙ ap (λ (l : List ℕ). codes "P" ++ l) dates.split) shape) [
      | inl end ↦ no_time time end.0
      | inr timed ↦
          let same : codes "T" ++ time ≡ codes "T" ++ timed.0 = timed.2 in
          let tails : time ≡ timed.0 = cc in
          let split : times.front ++ rest ≡ timed.0 ++ [] = sym times.split ∙ tails ∙ sym (append-nil timed.0) in
          some (join_same (IsPair (unit_in true)) (read_pair (unit_in true))
          (finds_pair true) times.front timed.0 rest [] times.counts timed.1 times.pairs timed.3 split stuck (nothing_read true)).1
    ]

-- ---- where the pairs end

-- no pair stands where pairs may end
pub no_pair_at_end : (in_time : Bool) (rest : List ℕ) → ends_pairs rest ≡ true → read_pair (unit_in in_time) rest ≡ None
unfolding read_pair read_number read_unsigned
no_pair_at_end in_time [] ends = refl
no_pair_at_end in_time (b ∷ bs) ends = let letter = eqb-true b 84 ends in rw letter refl

-- behind the pairs of the date, where the text goes on, the time begins
pub time_begins : (passed : Option ℕ) (old new : Place) → IfSome passed (λ byte. Passes (byte ∷ []) old new)
    → IfNone passed ((ahead old ≡ []) × (new ≡ old)) → ends_pairs (ahead old) ≡ true → ahead old ≢ []
    → ahead old ≡ codes "T" ++ ahead new
time_begins None old new some none ends more = absurd (more none.0)
time_begins (Some b) old new some none ends more = let letter : b ≡ 84 = eqb-true b 84 (sym (ap ends_pairs some.split) ∙ ends) in
    some.split ∙ ap (λ (x : ℕ). x ∷ ahead new) letter

some_left : (rest : List ℕ) → ends_pairs rest ≡ false → rest ≢ []
some_left [] goes_on e = cc
some_left (b ∷ bs) goes_on e = cc

no_time_left : (rest time : List ℕ) → ends_pairs rest ≡ false → rest ≢ codes "T" ++ time
no_time_left [] time goes_on e = cc
no_time_left (b ∷ bs) time goes_on e = let letter : b ≡ 84 = cc in let ends : (b == 84) ≡ true = rw letter refl in cc

-- where the pairs of the date stop at something else, or those of the time, the text has no shape
pub stopped_dates : (text date : List ℕ) (old : Tally) (was : Order) → text ≡ codes "P" ++ date → StopsBehindPairs false date old was
    → HasNoShape IsIsoEither text
stopped_dates text date old was spelled stop =
    no_shape_behind_dates text date stop.rest old stop.mid was stop.order spelled stop.taken stop.stuck (some_left stop.rest stop.goes_on)
    (λ time. no_time_left stop.rest time stop.goes_on)

pub stopped_times : (text date time : List ℕ) (old mid : Tally) (was is from : Order) → text ≡ codes "P" ++ date
    → TakesPairs false date (codes "T" ++ time) old mid was is → StopsBehindPairs true time mid from
    → HasNoShape IsIsoEither text
stopped_times text date time old mid was is from spelled dates stop =
    no_shape_behind_times text date time stop.rest old mid stop.mid was is from stop.order spelled dates stop.taken stop.stuck
    (some_left stop.rest stop.goes_on)
