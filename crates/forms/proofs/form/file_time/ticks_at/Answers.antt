-- Answers to the goals of `form::file_time::ticks_at`.
use Rattle.std.proofs.Common.{◌≡◌, sym, ap, ◌∙◌, arith, of_z}
use Rattle.std.specs.Int.{w128}
use Rattle.std.proofs.Math.Facts.{to_z-of_z}
use Rattle.std.proofs.lemmas.Int.{ints}
use Rattle.nt_time.specs.FileTime.{unix_nanos}
use Rattle.forms.proofs.FileTimes.{exact_tick}
use Rattle.forms.proofs.form.file_time.ticks_at.Goals as goal

pub returns-then-to_unix_time_nanos-nanos : goal.returns-then-to_unix_time_nanos-nanos
returns-then-to_unix_time_nanos-nanos c =
    let range = c.ranges.nanos in
    let tested = c.if-to_unix_time_nanos-nanos.true in
    let exact = c.to_unix_time_nanos.ensures in
    let is : c.to_unix_time_nanos.result ≡ c.args.nanos = omega (arith, ints) in
    let lies = sym (exact ∙ ap unix_nanos c.new.ensures) ∙ is in
    sym (exact_tick c.args.nanos c.only_ticks-ticks.result lies c.only_ticks-ticks.type_inv)

pub off_ticks-requires : goal.off_ticks-requires
off_ticks-requires c = λ ticks fits e.
    let same = c.new.ensures ∙ c.only_ticks-ticks.ensures ticks fits (sym e) in
    c.if-to_unix_time_nanos-nanos.false
    (ap (of_z w128) (c.to_unix_time_nanos.ensures ∙ ap unix_nanos same ∙ e ∙ to_z-of_z c.ranges.nanos))
