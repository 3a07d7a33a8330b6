-- Answers to the goals of `front::long_fraction`.
use Rattle.std.proofs.Common.{false, ◌+◌, ◌*◌, arith}
use Rattle.scan_core.specs.Shares.{rounded}
use Rattle.scan_core.proofs.RoundingFacts.{rounded-le}
use Rattle.scan_core.proofs.ShareFacts.{small_64}
use Rattle.xsd_duration.proofs.front.long_fraction.Goals as goal

pub unwrap-requires : goal.unwrap-requires
unwrap-requires c =
    let micros = rounded 1_000_000 c.args.digits.now in
    let most = rounded-le 1_000_000 c.args.digits.now c.requires in
    c.count_share.ensures.fits.1 (small_64 false (0 * 1_000_000 + micros) (omega (arith, most)))
