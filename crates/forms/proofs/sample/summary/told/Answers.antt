-- Answers to the goals of `sample::summary::told`.
use Rattle.forms.proofs.SampleTold.{told_pushed}
use Rattle.forms.proofs.sample.summary.told.Goals as goal

pub returns : goal.returns
returns c = told_pushed c.args.lines c.args.ok c.args.refused c.args.bytes _ _ _ _ _ _ c.new-out.ensures c.push_count.ensures.bytes
    c.push_count-2.ensures.bytes c.push_count-3.ensures.bytes c.push_count-4.ensures.bytes c.push_text.ensures.bytes
