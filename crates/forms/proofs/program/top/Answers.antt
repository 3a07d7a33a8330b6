-- Answers to the goals of `program::top`.
use Rattle.forms.proofs.Ends.{each_end_leaves_a_front, length_decides_the_end, status_within, status_beyond}
use Rattle.std.proofs.Common.{sym, ◌∙◌}
use Rattle.forms.proofs.SampleWords.{same_count, done_at_zero}
use Rattle.forms.proofs.program.top.Goals as goal

pub returns-then-is_empty-clause-front : goal.returns-then-is_empty-clause-front
returns-then-is_empty-clause-front g c = λ none. each_end_leaves_a_front 67108864 _ _ c.run.result c.run.ensures.ended

pub returns-then-is_empty-clause-within : goal.returns-then-is_empty-clause-within
returns-then-is_empty-clause-within g c = λ none. rw c.status.ensures
    (status_within 67108864 _ c.run.result _ _ (length_decides_the_end 67108864 _ _ c.run.result c.run.ensures.ended))

pub returns-then-is_empty-clause-beyond : goal.returns-then-is_empty-clause-beyond
returns-then-is_empty-clause-beyond g c = λ none. rw c.status.ensures
    (status_beyond 67108864 _ c.run.result _ _ (length_decides_the_end 67108864 _ _ c.run.result c.run.ensures.ended))

pub returns-in-Some-clause-sampled : goal.returns-in-Some-clause-sampled
returns-in-Some-clause-sampled g c = λ count words.
    let same = same_count c.args.words.now count c.in-Some.count words c.in-Some.ensures.found in
    (c.sample.result, rw same c.sample.ensures.stands, c.status-in-Some.ensures)

pub returns-in-Some-clause-tenth : goal.returns-in-Some-clause-tenth
returns-in-Some-clause-tenth g c = λ count words status.
    let same = same_count c.args.words.now count c.in-Some.count words c.in-Some.ensures.found in
    rw same (c.sample.ensures.tenth (done_at_zero c.sample.result (sym c.status-in-Some.ensures ∙ status)))
