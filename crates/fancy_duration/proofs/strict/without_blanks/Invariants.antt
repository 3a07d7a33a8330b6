-- The invariant and the measure of the loop of `strict::without_blanks`.
use Rattle.std.proofs.Common.{◌≡◌, length}
use Rattle.scan_core.specs.Blanks.{is_blank}
use Rattle.scan_core.specs.Fronts.{behind}
use Rattle.fancy_duration.proofs.strict.without_blanks.Given as goal

abbrev pub invariant-loop-first : goal.invariant-loop-first
invariant-loop-first l = behind is_blank l.rest ≡ behind is_blank l.text

abbrev pub decreases-loop-first : goal.decreases-loop-first
decreases-loop-first l = length l.rest
