-- Answers to the goals of `sample::lines::line_of`.
use Rattle.std.proofs.Common.{◌∙◌}
use Rattle.forms.proofs.SampleLines.{line_pushed}
use Rattle.forms.proofs.sample.lines.line_of.Goals as goal

pub returns : goal.returns
returns c = line_pushed c.args.index c.args.interval _ _ _ _ _ _ _ _ _ c.style_at-from.ensures c.style_at.ensures c.new-out.ensures
    c.push_name.ensures.bytes c.push_name-2.ensures.bytes (c.as_str.ensures.value ∙ c.text.ensures.bytes) c.push_text.ensures.bytes
    c.push_mark.ensures.bytes c.push_text-2.ensures.bytes
