-- Answers to the goals of `laws::answered`.
use Rattle.std.proofs.Common.{List, ℕ, refl, sym, subst, rules, FitsSigned}
use Rattle.std.specs.Int.{w128}
use Rattle.std.proofs.Math.Facts.{to_z-of_z}
use Rattle.recurrence.specs.declared.answer.Answer.{Answer}
use Rattle.recurrence.specs.Replies.{refusal}
use Rattle.recurrence.specs.inside.Answers.{IsFine, RepliesBy, words_of}
use Rattle.recurrence.proofs.SeriesReplies.{has_reply}
use Rattle.recurrence.proofs.laws.answered.Goals as goal

pub returns-in-Refused : goal.returns-in-Refused
returns-in-Refused c = subst (λ (a : Answer). (x : List ℕ) × RepliesBy a x) (sym c.in-Refused.is)
    (refusal (words_of c.in-Refused.field-0), refl)

pub returns-in-Instants : goal.returns-in-Instants
returns-in-Instants c =
    let f : FitsSigned w128 c.in-Instants.start = search rules in
    let fine = subst IsFine c.in-Instants.is c.requires in
    let series = rw (to_z-of_z f) at c.new.ensures.series in
    subst (λ (a : Answer). (x : List ℕ) × RepliesBy a x) (sym c.in-Instants.is)
    (has_reply c.civil_dates_are_calendar_dates.ensures c.in-Instants.start c.in-Instants.step c.in-Instants.last c.new.result.left
    c.new.result.stop series fine.0 fine.1)
