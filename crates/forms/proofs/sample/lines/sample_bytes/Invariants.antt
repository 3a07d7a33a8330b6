-- The invariant of the loop of `sample::lines::sample_bytes`.
use Rattle.std.proofs.Common.{◌≡◌, ◌*◌}
use Rattle.forms.specs.Sample.{drawn, sample_lines}
use Rattle.forms.specs.inside.Pieces.{AreWhole}
use Rattle.forms.proofs.sample.lines.sample_bytes.Given as goal

abbrev pub invariant-loop-index : goal.invariant-loop-index
invariant-loop-index l = record {
  drawn : l.x ≡ drawn (3 * l.index);
  whole : AreWhole (sample_lines l.index) l.bytes.items;
}
