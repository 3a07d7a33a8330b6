-- What a text in ISO style spells, and whether its units stand in order.
use Rattle.std.proofs.Common.{◌≡◌, ◌≢◌, ◌↔◌, ℕ, Bool, true, false, ◌&&◌, not, List, [], ◌++◌, refl, sym, subst, ◌∙◌, ap, append-nil, inl}
use Rattle.std.proofs.Common.{inr, codes, true≢false}
use Rattle.std.proofs.lemmas.Bool.{and_parts, not-true}
use Rattle.scan_core.specs.Count.{Count}
use Rattle.scan_core.proofs.Joins.{join_values}
use Rattle.pg_interval_2.specs.declared.reading.iso.OrderedTally.{OrderedTally}
use Rattle.pg_interval_2.specs.declared.reading.order.Order.{Order}
use Rattle.pg_interval_2.specs.declared.reading.tally.Tally.{Tally}
use Rattle.pg_interval_2.specs.Iso.{IsPair, unit_in}
use Rattle.pg_interval_2.specs.inside.IsoShapes.{ArePairs, IsDateAlone, IsDateAndTime}
use Rattle.pg_interval_2.specs.IsoStrict.{AreInOrder}
use Rattle.pg_interval_2.specs.inside.UnitsInOrder.{units_in_order}
use Rattle.pg_interval_2.specs.inside.IsoShapes.{IsStrictEither}
use Rattle.pg_interval_2.specs.inside.IsoTally.{IsSpelled, TakesPairs}
use Rattle.pg_interval_2.specs.inside.Orders.{Orders, is_kept}
use Rattle.pg_interval_2.specs.inside.Reading.{read_pair}
use Rattle.pg_interval_2.specs.inside.Tallies.{Tallies}
use Rattle.pg_interval_2.proofs.IsoCounts.{finds_pair, no_time, nothing_read, rest_is, time_ends}
use Rattle.pg_interval_2.proofs.OrderFacts.{in_order, kept}

-- a text of a date alone, whose pairs were taken
pub alone_spelled : (text date : List ℕ) (old : Tally) (was is : Order) (spelled : OrderedTally) → text ≡ codes "P" ++ date → date ≢ []
    → TakesPairs false date [] old spelled.tally was is → Tallies old [] → Orders false was [] → spelled.in_order ≡ is_kept false is
    → IsSpelled text spelled
alone_spelled text date old was is spelled whole some taken none unordered told =
    let same : date ≡ taken.front = taken.split ∙ append-nil taken.front in
    let alone : IsDateAlone unit_in text taken.counts = (
      taken.front,
      taken.pairs,
      (λ h. some (same ∙ h)),
      whole
          ∙ ap (λ (l : List ℕ). codes "P" ++ l) same,
    ) in
    let orders : Orders false is taken.counts = taken.ordered [] unordered in
    record {
      tallied = (taken.counts, inl alone, taken.tallied [] none);
      strict = λ so. (taken.counts, inl (alone, in_order false is taken.counts orders (sym told ∙ so)), taken.tallied [] none);
      loose = λ so counts shape. not_so counts shape (sym told ∙ so);
    }
  where
    not_so : (counts : List Count) → IsStrictEither text counts → is_kept false is ≡ false → ⊥
    not_so counts (inl (alone, ordered)) so =
        let rest = rest_is text taken.front [] taken.counts counts taken.pairs (nothing_read false)
        (whole ∙ ap (λ (l : List ℕ). codes "P" ++ l) taken.split) (inl alone) in
        let keeps = kept false is taken.counts (taken.ordered [] unordered)
        (subst (AreInOrder (units_in_order false)) (sym rest.1) ordered) in
        true≢false (sym keeps ∙ so)
    not_so counts (inr (timed, dates, times, some)) so =
        let rest = rest_is text taken.front [] taken.counts counts taken.pairs (nothing_read false)
        (whole ∙ ap (λ (l : List ℕ). codes "P" ++ l) taken.split) (inr timed) in
        no_time timed.time (sym rest.0)

not_bare : (bare : Bool) (time : List ℕ) → (bare ≡ true → time ≡ []) → time ≢ [] → bare ≡ false
not_bare true time none some = absurd (some (none refl))
not_bare false time none some = refl

-- a text of a date and a time, whose pairs were taken
pub timed_spelled : (text date time : List ℕ) (old mid : Tally) (was is from to : Order) (bare : Bool) (spelled : OrderedTally)
    → text ≡ codes "P" ++ date → TakesPairs false date (codes "T" ++ time) old mid was is
    → TakesPairs true time [] mid spelled.tally from to → Tallies old [] → Orders false was [] → Orders true from []
    → ((bare ≡ true) ↔ (time ≡ [])) → spelled.in_order ≡ ((is_kept false is && is_kept true to) && not bare)
    → IsSpelled text spelled
timed_spelled text date time old mid was is from to bare spelled whole dates times none unordered unordered_times nothing told =
    let same : time ≡ times.front = times.split ∙ append-nil times.front in
    let all = times.tallied dates.counts (dates.tallied [] none) in
    let timed : IsDateAndTime unit_in text (dates.counts ++ times.counts) =
    record {
      date = dates.front;
      time = times.front;
      date_counts = dates.counts;
      time_counts = times.counts;
      dates = dates.pairs;
      times = times.pairs;
      spelled = whole ∙ ap (λ (l : List ℕ). codes "P" ++ l) (dates.split ∙ ap (λ (l : List ℕ). dates.front ++ (codes "T" ++ l)) same);
      counted = refl;
    } in
    record {
      tallied = (dates.counts ++ times.counts, inr timed, all);
      strict = λ so.
          let parts = and_parts _ _ (sym told ∙ so) in
          let both = and_parts _ _ parts.0 in
          let some : times.front ≢ [] = λ empty. true≢false (sym (nothing.1 (same ∙ empty)) ∙ not-true bare parts.1) in (
            dates.counts ++ times.counts,
            inr (
              timed,
              in_order false is dates.counts (dates.ordered [] unordered) both.0,
              in_order true to times.counts (times.ordered [] unordered_times) both.1,
              some,
            ),
            all,
          );
      loose = λ so counts shape. not_so counts shape so;
    }
  where
    behind : text ≡ codes "P" ++ (dates.front ++ (codes "T" ++ time))
    behind = whole ∙ ap (λ (l : List ℕ). codes "P" ++ l) dates.split

    times_are : (other : List ℕ) (counts : List Count) → codes "T" ++ time ≡ codes "T" ++ other → ArePairs (unit_in true) other counts
        → times.counts ≡ counts
    times_are other counts split pairs =
        let tails : time ≡ other = cc in
        let front : times.front ≡ other = sym (times.split ∙ append-nil times.front) ∙ tails in
        join_values (IsPair (unit_in true)) (read_pair (unit_in true)) (finds_pair true) (nothing_read true) other times.counts counts
        (subst (λ (l : List ℕ). ArePairs (unit_in true) l times.counts) front times.pairs) pairs

    not_so : (counts : List Count) → IsStrictEither text counts → spelled.in_order ≡ false → ⊥
    not_so counts (inl (alone, ordered)) so = no_time time (rest_is text dates.front (codes "T" ++ time) dates.counts counts dates.pairs
        (time_ends time) behind (inl alone)).0
    not_so counts (inr (timed, dates_ordered, times_ordered, some_time)) so =
        let rest = rest_is text dates.front (codes "T" ++ time) dates.counts counts dates.pairs (time_ends time) behind (inr timed) in
        let split : codes "T" ++ time ≡ codes "T" ++ timed.time = rest.0 in
        let tails : time ≡ timed.time = cc in
        let is_true = kept false is dates.counts (dates.ordered [] unordered)
        (subst (AreInOrder (units_in_order false)) (sym rest.1) dates_ordered) in
        let to_true = kept true to times.counts (times.ordered [] unordered_times)
        (subst (AreInOrder (units_in_order true)) (sym (times_are timed.time timed.time_counts split timed.times)) times_ordered) in
        let some = not_bare bare time nothing.0 (λ empty. some_time (sym tails ∙ empty)) in
        let all : spelled.in_order ≡ true = told ∙ rw (is_true, to_true, some) refl in
        true≢false (sym all ∙ so)
