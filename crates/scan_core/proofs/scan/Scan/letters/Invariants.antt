-- The invariant and the measure of the loop of `scan::Scan::letters`.
use Rattle.std.proofs.Common.{◌≡◌, ℕ, ◌+◌, ◌%◌, ◌^◌, List, length}
use Rattle.std.specs.Char.{is_ascii_alphabetic}
use Rattle.scan_core.specs.Runs.{packed}
use Rattle.scan_core.specs.Scanning.{ahead, unseen}
use Rattle.scan_core.proofs.Scans.{IsAmong}
use Rattle.scan_core.proofs.scan.Scan.letters.Given as goal

-- some of the letters were passed, and they are known
abbrev pub invariant-loop-letter : goal.invariant-loop-letter
invariant-loop-letter g l = record {
  among : (bytes : List ℕ) × IsAmong is_ascii_alphabetic bytes l.fn.self l.self × (l.value ≡ packed bytes % 2 ^ 64);
  ticks : l.steps + unseen (ahead l.self) ≡ l.fn.steps + unseen (ahead l.fn.self);
}

abbrev pub decreases-loop-letter : goal.decreases-loop-letter
decreases-loop-letter g l = length (ahead l.self)
