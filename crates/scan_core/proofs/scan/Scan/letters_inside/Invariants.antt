-- The invariant and the measure of the loop of `scan::Scan::letters_inside`.
use Rattle.std.proofs.Common.{◌≡◌, ℕ, ◌+◌, ◌%◌, ◌^◌, ◌<◌, List, length}
use Rattle.std.specs.Char.{is_ascii_alphabetic}
use Rattle.scan_core.specs.Runs.{packed}
use Rattle.scan_core.specs.Scanning.{ahead, unseen}
use Rattle.scan_core.proofs.Scans.{IsAmong}
use Rattle.scan_core.proofs.scan.Scan.letters_inside.Given as goal

-- some of the letters were passed, and they are known; the text goes on behind as many as may follow
abbrev pub invariant-loop-letter : goal.invariant-loop-letter
invariant-loop-letter g l = record {
  among : (bytes : List ℕ) × IsAmong is_ascii_alphabetic bytes l.initial.self l.self × (l.value ≡ packed bytes % 2 ^ 64)
      × (length bytes + l.left ≡ l.most);
  room : l.left < length (ahead l.self);
  ticks : l.steps + unseen (ahead l.self) ≡ l.initial.steps + unseen (ahead l.initial.self);
}

abbrev pub decreases-loop-letter : goal.decreases-loop-letter
decreases-loop-letter g l = l.left
