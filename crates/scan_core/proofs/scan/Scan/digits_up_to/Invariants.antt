-- The invariant and the measure of the loop of `scan::Scan::digits_up_to`.
use Rattle.std.proofs.Common.{◌≡◌, ℕ, ◌+◌, ◌^◌, List, length}
use Rattle.std.specs.Char.{is_ascii_digit}
use Rattle.scan_core.specs.Digits.{number_of}
use Rattle.scan_core.specs.Runs.{Knows}
use Rattle.scan_core.specs.Scanning.{ahead, unseen}
use Rattle.scan_core.proofs.Scans.{IsAmong}
use Rattle.scan_core.proofs.scan.Scan.digits_up_to.Given as goal

-- some of the digits were passed, and they are known
abbrev pub invariant-loop-digit : goal.invariant-loop-digit
invariant-loop-digit g l = record {
  among : (bytes : List ℕ) × IsAmong is_ascii_digit bytes l.fn.self l.self × Knows (10 ^ 18) l.value (number_of bytes)
      × (length bytes + l.left ≡ l.most);
  ticks : l.steps + unseen (ahead l.self) ≡ l.fn.steps + unseen (ahead l.fn.self);
}

abbrev pub decreases-loop-digit : goal.decreases-loop-digit
decreases-loop-digit g l = l.left
