-- Answers to the goals of `written::push_time`.
use Rattle.std.proofs.Common.{◌≡◌, ℕ, ℤ, List, ◌++◌, ◌≤◌, ◌+◌, ◌<◌, ◌^◌, ap, arith, length, length-append, rules, FitsSigned}
use Rattle.std.specs.Int.{w32}
use Rattle.std.specs.Prelude.{unsigned_abs}
use Rattle.std.proofs.lemmas.Int.{ints, to_z-of_z}
use Rattle.iso8601.specs.Written.{offset_text}
use Rattle.iso8601.proofs.Widths.{length-offset}
use Rattle.iso8601.proofs.written.push_time.Goals as goal

within : (z : ℤ) → FitsSigned w32 z → unsigned_abs z < 2 ^ 32
within z f = let s = f.sfits in omega (arith, ints)

longer : (old clock new : List ℕ) (hours minutes : ℤ) → FitsSigned w32 hours → FitsSigned w32 minutes → length clock ≤ length old + 43
    → new ≡ clock ++ offset_text hours minutes → length new ≤ length old + 66
longer old clock new hours minutes f g h joined =
    let short = length-offset hours minutes (within hours f) (within minutes g) in
    omega (arith, ap length joined, length-append clock (offset_text hours minutes))

pub returns-clause-len : goal.returns-clause-len
returns-clause-len g c =
    let f : FitsSigned w32 c.args.time.now.tz_offset_hours = search rules in
    let g : FitsSigned w32 c.args.time.now.tz_offset_minutes = search rules in
    longer c.args.out.now.bytes c.push_clock.new.out.bytes c.push_offset.new.out.bytes c.args.time.now.tz_offset_hours
    c.args.time.now.tz_offset_minutes f g c.push_clock.ensures.len (simp to_z-of_z at c.push_offset.ensures.bytes)
