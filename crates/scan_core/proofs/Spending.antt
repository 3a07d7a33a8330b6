-- Looks that are spent on a way: on none, on a scan, and on two ways in a row.
use Rattle.std.proofs.Common.{◌≡◌, ℕ, ◌+◌, ◌≤◌, List, length, arith}
use Rattle.scan_core.specs.Scanning.{Spends, unseen}

pub spends_none : (looks : ℕ) (bytes : List ℕ) → Spends looks bytes looks bytes
spends_none looks bytes = record { least = omega arith; most = omega arith }

-- a scan
pub spends_scan : (looks : ℕ) (bytes : List ℕ) (then : ℕ) (rest : List ℕ) → then + unseen rest ≡ looks + unseen bytes
    → length rest ≤ length bytes
    → Spends looks bytes then rest
spends_scan looks bytes then rest ticks onward = record { least = omega arith; most = omega arith }

-- a scan, and then no more looks than bytes were passed
pub spends_again : (looks : ℕ) (bytes : List ℕ) (mid then : ℕ) (rest : List ℕ) → mid + unseen rest ≡ looks + unseen bytes → mid ≤ then
    → then + length rest ≤ mid + length bytes
    → Spends looks bytes then rest
spends_again looks bytes mid then rest ticks least most = record { least = omega arith; most = omega arith }

pub spends_more : (a : ℕ) (xs : List ℕ) (b : ℕ) (ys : List ℕ) (c : ℕ) (zs : List ℕ) → Spends a xs b ys → Spends b ys c zs → Spends a xs c zs
spends_more a xs b ys c zs p q = record { least = omega arith; most = omega arith }
