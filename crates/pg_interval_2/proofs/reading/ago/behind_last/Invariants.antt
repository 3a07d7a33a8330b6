-- The invariant and the measure of the loop of `reading::ago::behind_last`.
use Rattle.std.proofs.Common.{◌+◌, ◌-◌, ◌≤◌}
use Rattle.pg_interval_2.specs.inside.VerboseReading.{AreBlanksBetween}
use Rattle.pg_interval_2.proofs.reading.ago.behind_last.Given as goal

abbrev pub invariant-loop-byte : goal.invariant-loop-byte
invariant-loop-byte g l = record {
  within : l.last ≤ l.end;
  blanks : AreBlanksBetween l.text l.last l.end;
  least : l.fn.steps + (l.end - l.last) ≤ l.steps;
  most : l.steps ≤ l.fn.steps + (l.end - l.last);
}

abbrev pub decreases-loop-byte : goal.decreases-loop-byte
decreases-loop-byte g l = l.last
