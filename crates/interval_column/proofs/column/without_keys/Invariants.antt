-- The invariant of the loop of `column::without_keys`.
use Rattle.std.proofs.Common.{◌≡◌, take}
use Rattle.interval_column.specs.inside.Ranks.{intervals_of}
use Rattle.interval_column.proofs.column.without_keys.Given as goal

abbrev pub invariant-loop-ranked : goal.invariant-loop-ranked
invariant-loop-ranked l = l.intervals.items ≡ intervals_of (take l.ranked-index l.ranks)
