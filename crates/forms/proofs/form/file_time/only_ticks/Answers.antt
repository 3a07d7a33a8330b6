-- Answers to the goals of `form::file_time::only_ticks`.
use Rattle.std.proofs.Common.{◌≡◌, ◌+◌, ◌*◌, ◌^◌, ◌%◌, arith}
use Rattle.std.proofs.lemmas.Int.{ints}
use Rattle.forms.proofs.FileTimes.{divided}
use Rattle.forms.proofs.form.file_time.only_ticks.Goals as goal

pub returns : goal.returns
returns c = λ ticks fits e.
    let range = c.ranges.nanos in
    let bits = c.cast_unsigned-since.ensures in
    let since : (c.cast_unsigned-since.result + 11_644_473_600_000_000_000) % 2 ^ 128 ≡ 100 * ticks = omega (arith, ints) in
    rw since (divided ticks fits)
