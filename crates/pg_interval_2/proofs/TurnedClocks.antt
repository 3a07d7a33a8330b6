-- Clocks whose counts are turned as those before them.
use Rattle.std.proofs.Common.{◌≡◌, ℕ, Bool, true, false, List, ◌++◌, ap, inl, inr, subst, sym, ◌∙◌}
use Rattle.scan_core.specs.Count.{Count}
use Rattle.pg_interval_2.specs.declared.reading.distinct_tally.DistinctTally.{DistinctTally}
use Rattle.pg_interval_2.specs.inside.DistinctItems.{CountsAll, IsDistinctTally, IsItemStep, clock_step}
use Rattle.pg_interval_2.specs.inside.ItemReading.{ClockFields, NextItem, ClockItem, clock_of}
use Rattle.pg_interval_2.specs.inside.UnitPlaces.{has_distinct_units}
use Rattle.pg_interval_2.specs.Turned.{turned_counts}
use Rattle.pg_interval_2.proofs.Turning.{clock-turned, distinct-turned, turned-append, turned_fields}
use Rattle.pg_interval_2.proofs.Verdicts.{Names}

both_turned : (turned : Bool) (counts : List Count) (fields : ClockFields)
    → turned_counts turned counts ++ clock_of (turned_fields turned fields) ≡ turned_counts turned (counts ++ clock_of fields)
both_turned turned counts fields =
    ap (λ (l : List Count). turned_counts turned counts ++ l) (clock-turned turned fields)
    ∙ sym (turned-append turned counts (clock_of fields))

-- a clock that was read is the step that its counts tell
pub clock_counted : (names : Names) (turned : Bool) (text rest : List ℕ) (item : NextItem) (fields : ClockFields) (counts : List Count)
    (new : DistinctTally) (taken : Bool)
    → item ≡ ClockItem fields rest → CountsAll (turned_counts turned counts) (clock_of (turned_fields turned fields)) new taken
    → IsItemStep names turned text item rest counts new (clock_step taken)
clock_counted names turned text rest item fields counts new true read counted =
    inl (fields, read, subst (IsDistinctTally new) (both_turned turned counts fields) counted)
clock_counted names turned text rest item fields counts new false read again =
    inr (
      fields,
      rest,
      read,
      sym (distinct-turned turned (counts ++ clock_of fields))
          ∙ sym (ap has_distinct_units (both_turned turned counts fields)) ∙ again,
    )
