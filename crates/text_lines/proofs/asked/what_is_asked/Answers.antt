-- Answers to the goals of `asked::what_is_asked`.
use Rattle.std.proofs.Common.{refl}
use Rattle.text_lines.specs.declared.place.Place.TheVariants.{Whole}
use Rattle.text_lines.proofs.AskedWords.{read_lines_are, read_text_is, read_text_only, read_nothing, alone_lines_are, alone_text_only}
use Rattle.text_lines.proofs.AskedWords.{lines_no_text, text_not_nothing, alone_nothing, none_lines_are, none_text_only, none_nothing}
use Rattle.text_lines.proofs.asked.what_is_asked.Goals as goal

pub returns-in-Some-default-default-Some-clause-lines : goal.returns-in-Some-default-default-Some-clause-lines
returns-in-Some-default-default-Some-clause-lines c =
    read_lines_are c.args.words.now c.in-Some-default-default-Some.from c.in-Some-default-default-Some.to
    c.in-Some-default-default-Some.text.now c.behind_forms.result
    (rw c.in-Some-default-default-Some.field-0-2-is at c.in-Some-default-default-Some.ensures.found)
    (rw c.in-Some-default-default-Some.field-0-2-is at c.in-Some-default-default-Some.ensures.only) c.behind_forms.ensures.lines

pub returns-in-Some-default-default-Some-clause-text : goal.returns-in-Some-default-default-Some-clause-text
returns-in-Some-default-default-Some-clause-text c =
    read_text_is c.args.words.now c.in-Some-default-default-Some.from c.in-Some-default-default-Some.to
    c.in-Some-default-default-Some.text.now c.behind_forms.result
    (rw c.in-Some-default-default-Some.field-0-2-is at c.in-Some-default-default-Some.ensures.found) c.behind_forms.ensures.text

pub returns-in-Some-default-default-Some-clause-text_only : goal.returns-in-Some-default-default-Some-clause-text_only
returns-in-Some-default-default-Some-clause-text_only c =
    read_text_only c.args.words.now c.in-Some-default-default-Some.from c.in-Some-default-default-Some.to
    c.in-Some-default-default-Some.text.now c.behind_forms.result
    (rw c.in-Some-default-default-Some.field-0-2-is at c.in-Some-default-default-Some.ensures.only) c.behind_forms.ensures.text_only

pub returns-in-Some-default-default-Some-clause-nothing : goal.returns-in-Some-default-default-Some-clause-nothing
returns-in-Some-default-default-Some-clause-nothing c =
    read_nothing c.args.words.now c.in-Some-default-default-Some.from c.in-Some-default-default-Some.to
    c.in-Some-default-default-Some.text.now c.behind_forms.result
    (rw c.in-Some-default-default-Some.field-0-2-is at c.in-Some-default-default-Some.ensures.found)
    (rw c.in-Some-default-default-Some.field-0-2-is at c.in-Some-default-default-Some.ensures.only) c.behind_forms.ensures.lines
    c.behind_forms.ensures.text c.behind_forms.ensures.text_only

pub returns-in-Some-default-default-None-clause-lines : goal.returns-in-Some-default-default-None-clause-lines
returns-in-Some-default-default-None-clause-lines c =
    alone_lines_are c.args.words.now c.in-Some-default-default-None.from c.in-Some-default-default-None.to
    (rw c.in-Some-default-default-None.field-0-2-is at c.in-Some-default-default-None.ensures.found)
    (rw c.in-Some-default-default-None.field-0-2-is at c.in-Some-default-default-None.ensures.only)

pub returns-in-Some-default-default-None-clause-text_only : goal.returns-in-Some-default-default-None-clause-text_only
returns-in-Some-default-default-None-clause-text_only c = λ from to text ask.
    absurd (alone_text_only c.args.words.now c.in-Some-default-default-None.from c.in-Some-default-default-None.to
    (rw c.in-Some-default-default-None.field-0-2-is at c.in-Some-default-default-None.ensures.only) from to text ask)

pub returns-in-Some-default-default-None-clause-nothing : goal.returns-in-Some-default-default-None-clause-nothing
returns-in-Some-default-default-None-clause-nothing c =
    alone_nothing c.args.words.now c.in-Some-default-default-None.from c.in-Some-default-default-None.to
    (rw c.in-Some-default-default-None.field-0-2-is at c.in-Some-default-default-None.ensures.found)

pub returns-in-None-clause-lines : goal.returns-in-None-clause-lines
returns-in-None-clause-lines c = none_lines_are c.args.words.now c.in-None.ensures.only

pub returns-in-None-clause-text_only : goal.returns-in-None-clause-text_only
returns-in-None-clause-text_only c = λ from to text ask. absurd (none_text_only c.args.words.now c.in-None.ensures.only from to text ask)

pub returns-in-None-clause-nothing : goal.returns-in-None-clause-nothing
returns-in-None-clause-nothing c = (λ is. none_nothing c.args.words.now c.in-None.ensures.only, λ none. refl)

pub returns-in-Some-default-default-None-clause-text : goal.returns-in-Some-default-default-None-clause-text
returns-in-Some-default-default-None-clause-text c = λ f t start same.
    absurd (lines_no_text c.in-Some-default-default-None.from c.in-Some-default-default-None.to f t Whole start same)

pub returns-in-None-clause-text : goal.returns-in-None-clause-text
returns-in-None-clause-text c = λ f t start same. absurd (text_not_nothing f t start same)
