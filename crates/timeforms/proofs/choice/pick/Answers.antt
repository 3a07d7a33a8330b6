-- Answers to the goals of `choice::pick`: behind commands that don't know the words the source and the sink are as they were.
use Rattle.std.proofs.Common.{◌≡◌, ◌∙◌, rules}
use Rattle.timeforms.proofs.choice.pick.Goals as goal

pub returns-clause-words : goal.returns-clause-words
returns-clause-words g c =
    let column : c.top-status.result ≡ 2 = search rules in
    let recur : c.top-status-2.result ≡ 2 = search rules in
    let schedule : c.top-status-3.result ≡ 2 = search rules in
    let lines : c.top-status-4.result ≡ 2 = search rules in (
      λ unknown. (
        c.top-status.ensures.words.0 column,
        (
          c.top.ensures.words.0 unknown,
          c.top-status-3.ensures.words.0 schedule,
          c.top-status-2.ensures.words.0 recur,
          c.top-status-4.ensures.words.0 lines,
        ),
      ),
      λ both. c.top.ensures.words.1 both.1.0,
    )

pub returns-clause-requests : goal.returns-clause-requests
returns-clause-requests g c =
    let column = c.top-status.ensures.unknown (let is : c.top-status.result ≡ 2 = search rules in is) in
    let recur = c.top-status-2.ensures.unknown (let is : c.top-status-2.result ≡ 2 = search rules in is) in
    let schedule = c.top-status-3.ensures.unknown (let is : c.top-status-3.result ≡ 2 = search rules in is) in
    let lines = c.top-status-4.ensures.unknown (let is : c.top-status-4.result ≡ 2 = search rules in is) in
    let source = lines.0 ∙ schedule.0 ∙ recur.0 ∙ column.0 in
    let sink = lines.1 ∙ schedule.1 ∙ recur.1 ∙ column.1 in
    λ none. record {
      ended = rw (source, sink) at (c.top.ensures.ended none);
      done = c.top.ensures.done none;
      replies = λ zero. rw (source, sink) at (c.top.ensures.replies none zero);
      front = rw (source, sink) at (c.top.ensures.front none);
      within = rw (source, sink) at (c.top.ensures.within none);
      beyond = rw (source, sink) at (c.top.ensures.beyond none);
    }
