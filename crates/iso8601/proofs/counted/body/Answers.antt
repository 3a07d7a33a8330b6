-- Answers to the goals of `counted::body`.
use Rattle.std.proofs.Common.{◌≡◌, true, false, sym, subst, ◌∙◌, ap}
use Rattle.scan_core.specs.Scanning.{Place, ahead}
use Rattle.iso8601.specs.inside.CountedReading.{BeginsUnit, from_run}
use Rattle.iso8601.specs.inside.DurationReading.{read_counted}
use Rattle.iso8601.proofs.CountedBodies.{is_weeks, is_counts, is_no_number, is_dated, some_as, none_as, weeks_some, weeks_none, dated_some}
use Rattle.iso8601.proofs.CountedBodies.{dated_none, number_apart}
use Rattle.iso8601.proofs.counted.body.Goals as goal

pub returns-in-None-clause-some : goal.returns-in-None-clause-some
returns-in-None-clause-some g c =
    let place = c.args.scan.now in
    let number = sym (c.number_in.ensures place.text c.requires.behind.is_run) ∙ c.in-None.is in
    some_as c.counts.result _ _ (is_no_number c.args.run place c.requires.behind number) c.counts.ensures.some

pub returns-in-None-clause-none : goal.returns-in-None-clause-none
returns-in-None-clause-none g c =
    let place = c.args.scan.now in
    let number = sym (c.number_in.ensures place.text c.requires.behind.is_run) ∙ c.in-None.is in
    none_as c.counts.result _ _ (is_no_number c.args.run place c.requires.behind number) c.counts.ensures.none

pub returns-then-next_if-clause-some : goal.returns-then-next_if-clause-some
returns-then-next_if-clause-some g c =
    let place = c.args.scan.now in
    let number = sym (c.number_in.ensures place.text c.requires.behind.is_run) ∙ c.in-Some.is in
    let read = is_weeks c.args.run place c.next_if.new.self c.in-Some.number c.requires.behind number
    (c.next_if.ensures.passed c.if-next_if.true) in
    weeks_some c.weeks.result _ c.in-Some.number (ahead c.next_if.new.self) read c.weeks.ensures.some

pub returns-then-next_if-clause-none : goal.returns-then-next_if-clause-none
returns-then-next_if-clause-none g c =
    let place = c.args.scan.now in
    let number = sym (c.number_in.ensures place.text c.requires.behind.is_run) ∙ c.in-Some.is in
    let read = is_weeks c.args.run place c.next_if.new.self c.in-Some.number c.requires.behind number
    (c.next_if.ensures.passed c.if-next_if.true) in
    weeks_none c.weeks.result _ c.in-Some.number (ahead c.next_if.new.self) read c.weeks.ensures.none

pub returns-then-begins_unit-clause-some : goal.returns-then-begins_unit-clause-some
returns-then-begins_unit-clause-some g c =
    let place = c.args.scan.now in
    let number = sym (c.number_in.ensures place.text c.requires.behind.is_run) ∙ c.in-Some.is in
    let other = c.next_if.ensures.other c.if-next_if.false in
    let P : Place → Type 0 = λ p. BeginsUnit (ahead p) in
    let unit : P place = subst P other.0 (c.begins_unit.ensures.0 c.if-begins_unit.true) in
    let read = is_counts c.args.run place c.in-Some.number c.requires.behind number other.1 unit in
    some_as c.counts-then-begins_unit.result _ _ (read ∙ ap (λ (p : Place). read_counted (from_run p.text c.args.run)) (sym other.0))
    c.counts-then-begins_unit.ensures.some

pub returns-then-begins_unit-clause-none : goal.returns-then-begins_unit-clause-none
returns-then-begins_unit-clause-none g c =
    let place = c.args.scan.now in
    let number = sym (c.number_in.ensures place.text c.requires.behind.is_run) ∙ c.in-Some.is in
    let other = c.next_if.ensures.other c.if-next_if.false in
    let P : Place → Type 0 = λ p. BeginsUnit (ahead p) in
    let unit : P place = subst P other.0 (c.begins_unit.ensures.0 c.if-begins_unit.true) in
    let read = is_counts c.args.run place c.in-Some.number c.requires.behind number other.1 unit in
    none_as c.counts-then-begins_unit.result _ _ (read ∙ ap (λ (p : Place). read_counted (from_run p.text c.args.run)) (sym other.0))
    c.counts-then-begins_unit.ensures.none

pub returns-else-begins_unit-clause-some : goal.returns-else-begins_unit-clause-some
returns-else-begins_unit-clause-some g c =
    let place = c.args.scan.now in
    let number = sym (c.number_in.ensures place.text c.requires.behind.is_run) ∙ c.in-Some.is in
    let other = c.next_if.ensures.other c.if-next_if.false in
    let P : Place → Type 0 = λ p. BeginsUnit (ahead p) in
    let never = λ (unit : P place). let yes = c.begins_unit.ensures.1 (subst P (sym other.0) unit) in
    let both : true ≡ false = sym yes ∙ c.if-begins_unit.false in let impossible : ⊥ = cc in impossible in
    let apart = number_apart c.args.run place c.in-Some.number c.requires.behind number in
    let read = is_dated c.args.run place c.in-Some.number c.requires.behind apart number other.1 never in
    let start = c.text.ensures ∙ ap (λ (p : Place). p.text) other.0 ∙ c.requires.start in
    dated_some c.dated.result _ _ start read c.dated.ensures.some

pub returns-else-begins_unit-clause-none : goal.returns-else-begins_unit-clause-none
returns-else-begins_unit-clause-none g c =
    let place = c.args.scan.now in
    let number = sym (c.number_in.ensures place.text c.requires.behind.is_run) ∙ c.in-Some.is in
    let other = c.next_if.ensures.other c.if-next_if.false in
    let P : Place → Type 0 = λ p. BeginsUnit (ahead p) in
    let never = λ (unit : P place). let yes = c.begins_unit.ensures.1 (subst P (sym other.0) unit) in
    let both : true ≡ false = sym yes ∙ c.if-begins_unit.false in let impossible : ⊥ = cc in impossible in
    let apart = number_apart c.args.run place c.in-Some.number c.requires.behind number in
    let read = is_dated c.args.run place c.in-Some.number c.requires.behind apart number other.1 never in
    let start = c.text.ensures ∙ ap (λ (p : Place). p.text) other.0 ∙ c.requires.start in
    dated_none c.dated.result _ _ start read c.dated.ensures.none
