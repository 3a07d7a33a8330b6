-- Answers to the goals of `sample::lines::sample_bytes`.
use Rattle.std.proofs.Common.{List, ℕ, ◌+◌, sym, ◌∙◌, subst}
use Rattle.forms.specs.Sample.{sample_lines}
use Rattle.forms.specs.inside.Pieces.{AreWhole}
use Rattle.forms.proofs.SampleLines.{first_drawn, are_drawn, drawn_on, drawn_interval, whole_more}
use Rattle.forms.proofs.sample.lines.sample_bytes.Goals as goal

pub loop-index-init : goal.loop-index-init
loop-index-init c = record { drawn = sym first_drawn; whole = c.in_ok-bytes.ensures.items }

pub loop-index-preserved : goal.loop-index-preserved
loop-index-preserved c =
    let index = c.loop-index.index in
    let before = c.loop-index.invariant in
    let drawn = are_drawn index c.loop-index.x _ _ _ before.drawn c.draw_after-a.ensures c.draw_after-b.ensures c.draw_after-x.ensures in
    let interval = c.interval_of_draws.ensures ∙ drawn_interval index _ _ _ drawn in
    let line = c.as_bytes.ensures.value ∙ (c.as_str.ensures.value ∙ c.line_of-line.ensures) in
    record {
      drawn = drawn_on index _ _ _ drawn;
      whole = subst (λ (bytes : List ℕ). AreWhole (sample_lines (index + 1)) bytes) (sym c.in_ok-extend_from_slice.ensures.items)
          (whole_more c.written_text_is_one_line.ensures index c.loop-index.bytes.items c.as_bytes.result.now c.interval_of_draws.result
          before.whole interval line);
    }
