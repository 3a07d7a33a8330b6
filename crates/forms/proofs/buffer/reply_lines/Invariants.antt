-- The invariant and the measure of the loop of `buffer::reply_lines`.
use Rattle.std.proofs.Common.{◌≤◌, length}
use Rattle.forms.proofs.Buffers.{IsFilled}
use Rattle.forms.proofs.buffer.reply_lines.Given as goal

abbrev pub invariant-loop-len : goal.invariant-loop-len
invariant-loop-len l = record {
  filled : IsFilled l.text l.rest l.initial.out l.out l.written;
  room : l.written ≤ length l.out;
  left : length l.rest ≤ length l.text;
}

abbrev pub decreases-loop-len : goal.decreases-loop-len
decreases-loop-len l = length l.rest
