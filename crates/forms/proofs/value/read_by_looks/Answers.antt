-- Answers to the goals of `value::read_by_looks`.
use Rattle.std.proofs.Common.{sym, ◌∙◌}
use Rattle.forms.proofs.Replies.{counted_alone, of_style}
use Rattle.forms.proofs.value.read_by_looks.Goals as goal

pub returns-in-Some-clause-read : goal.returns-in-Some-clause-read
returns-in-Some-clause-read g c = (of_style c.args.form c.in-Some.style (sym c.style.ensures ∙ c.in-Some.is)).read c.args.text.now _
    c.read_counted.ensures.read

pub returns-in-None-clause-read : goal.returns-in-None-clause-read
returns-in-None-clause-read g c = counted_alone c.args.form c.requires
    (sym c.in-None.is ∙ c.style.ensures) c.args.text.now _ c.read_counted-in-None.ensures.read
