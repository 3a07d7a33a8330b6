-- Intervals with their keys, and the intervals alone.
use Rattle.std.proofs.Common.{ℕ, ◌+◌, List, [], ◌∷◌, is_lt, IsPermutation}
use Rattle.std.proofs.Common.{IsSorted, refl, ap, arith}
use Rattle.std.specs.List.Sorted.{IsSortedBy}
use Rattle.std.specs.declared.cmp.Ordering.{Ordering}
use Rattle.std.proofs.lemmas.List.{get_or-map, length-map}
use Rattle.std.proofs.lemmas.List.Sorted.{IsPermutation-map}
use Rattle.whole_input.specs.Numbered.{AreRead, IsFirstFault}
use Rattle.pg_interval_2.specs.declared.interval.Interval.{Interval}
use Rattle.interval_column.specs.declared.fault.LineFault.{LineFault}
use Rattle.interval_column.specs.declared.ranked.Ranked.{Ranked}
use Rattle.forms.specs.Lines.{lines}
use Rattle.interval_column.specs.Columns.{IsColumn}
use Rattle.interval_column.specs.Readings.{IsColumnOf}
use Rattle.interval_column.specs.Lines.{IsRead}
use Rattle.interval_column.specs.Order.{order_of, key_of}
use Rattle.interval_column.specs.inside.Ranks.{intervals_of, IsRankRead}

abbrev pub interval_of : Ranked → Interval
interval_of r = r.interval

abbrev pub ranks_order : Ranked → Ranked → Ordering
ranks_order a b = order_of a.interval b.interval

with_key : Interval → Ranked
with_key t = record { key = key_of t; interval = t; exact = refl }

-- ranks in order are intervals in order
sorted_alone : (ranks : List Ranked) → IsSortedBy (λ (a b : Ranked). is_lt (order_of a.interval b.interval)) ranks
    → IsSorted order_of (intervals_of ranks)
sorted_alone ranks up k d low high =
    let long = length-map ranks interval_of in
    let r = with_key d in
    rw (
      get_or-map interval_of ranks (k + 1) r d (omega (arith, high, long)),
      get_or-map interval_of ranks k r d (omega (arith, high, long)),
    ) (up k r low (omega (arith, high, long)))

pub ranks_column : (old new : List Ranked) → IsPermutation old new
    → IsSortedBy (λ (a b : Ranked). is_lt (order_of a.interval b.interval)) new → IsColumn (intervals_of old) (intervals_of new)
ranks_column old new each up = record { each = IsPermutation-map interval_of old new each; order = sorted_alone new up }

-- what was read, without the keys
pub read_alone : (n : ℕ) (lines : List (List ℕ)) (ranks : List Ranked) → AreRead IsRankRead n lines ranks
    → AreRead IsRead n lines (intervals_of ranks)
read_alone n [] ranks h = ap intervals_of h
read_alone n (line ∷ lines) ranks h = (h.0.interval, intervals_of h.1, h.2, read_alone (n + 1) lines h.1 h.3, ap intervals_of h.4)

pub fault_alone : (lines : List (List ℕ)) (n : ℕ) (fault : LineFault) → IsFirstFault IsRankRead lines n fault
    → IsFirstFault IsRead lines n fault
fault_alone lines n fault h = record {
  before = h.before;
  line = h.line;
  after = h.after;
  values = intervals_of h.values;
  split = h.split;
  read = read_alone 1 h.before h.values h.read;
  counted = h.counted;
  faulty = h.faulty;
}

-- the ranks that were read, sorted
pub column_of : (input : List ℕ) (old new : List Ranked) → AreRead IsRankRead 1 (lines input) old
    → IsColumn (intervals_of old) (intervals_of new) → IsColumnOf input (intervals_of new)
column_of input old new read column = (intervals_of old, read_alone 1 (lines input) old read, column)
