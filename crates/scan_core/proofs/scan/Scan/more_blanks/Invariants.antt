-- The invariant and the measure of the loop of `scan::Scan::more_blanks`.
use Rattle.std.proofs.Common.{◌≡◌, ℕ, ◌+◌, List, length}
use Rattle.scan_core.specs.Blanks.{is_blank}
use Rattle.scan_core.specs.Scanning.{ahead, unseen}
use Rattle.scan_core.proofs.Scans.{IsAmong}
use Rattle.scan_core.proofs.scan.Scan.more_blanks.Given as goal

abbrev pub invariant-loop-self : goal.invariant-loop-self
invariant-loop-self g l = record {
  among : (bytes : List ℕ) × IsAmong is_blank bytes l.initial.self l.self;
  ticks : l.steps + unseen (ahead l.self) ≡ l.initial.steps + unseen (ahead l.initial.self);
}

abbrev pub decreases-loop-self : goal.decreases-loop-self
decreases-loop-self g l = length (ahead l.self)
