-- Answers to the goals of `reading::iso::spelled`.
use Rattle.std.proofs.Common.{ℕ, List, ap, false, refl, subst, sym, true, ◌∙◌}
use Rattle.std.proofs.lemmas.Bool.{false≢true}
use Rattle.scan_core.specs.Scanning.{ahead}
use Rattle.pg_interval_2.specs.inside.IsoTally.{TakesPairs}
use Rattle.pg_interval_2.proofs.IsoOrder.{alone_spelled, timed_spelled}
use Rattle.pg_interval_2.proofs.IsoSteps.{no_shape_behind_times, no_pair_at_end, stopped_dates, stopped_times, time_begins}
use Rattle.pg_interval_2.proofs.reading.iso.spelled.Goals as goal

pub returns-then-not-take_pairs-clause-none : goal.returns-then-not-take_pairs-clause-none
returns-then-not-take_pairs-clause-none g c =
    let whole = sym (ap ahead c.new-scan.ensures.place) ∙ (c.if-not-next_if.ensures.passed refl).split in
    stopped_dates c.args.text.now (ahead c.next_if.new.self) c.new-tally.result c.new-dates.result whole
    (c.if-not-take_pairs.ensures.stops refl)

pub returns-then-is_done-2-clause-some : goal.returns-then-is_done-2-clause-some
returns-then-is_done-2-clause-some g c =
    let whole = sym (ap ahead c.new-scan.ensures.place) ∙ (c.if-not-next_if.ensures.passed refl).split in
    let taken = subst (λ (rest : List ℕ). TakesPairs false (ahead c.next_if.new.self) rest c.new-tally.result c.take_pairs.new.tally
    c.new-dates.result c.take_pairs.new.order) (c.if-is_done-2.ensures.0 refl) (c.if-not-take_pairs.ensures.taken refl) in
    alone_spelled c.args.text.now (ahead c.next_if.new.self) c.new-tally.result c.new-dates.result c.take_pairs.new.order _ whole
    (λ none. false≢true (c.if-is_done.ensures.1 none)) taken
    c.new-tally.ensures.tallied c.new-dates.ensures c.is_kept.ensures

pub returns-then-not-take_pairs-2-clause-none : goal.returns-then-not-take_pairs-2-clause-none
returns-then-not-take_pairs-2-clause-none g c =
    let whole = sym (ap ahead c.new-scan.ensures.place) ∙ (c.if-not-next_if.ensures.passed refl).split in
    let begins = time_begins c.next.result c.take_pairs.new.scan c.next.new.self c.next.ensures.some c.next.ensures.none
    (c.if-not-take_pairs.ensures.ends refl) (λ none. false≢true (c.if-is_done-2.ensures.1 none)) in
    let dates = subst (λ (rest : List ℕ). TakesPairs false (ahead c.next_if.new.self) rest c.new-tally.result c.take_pairs.new.tally
    c.new-dates.result c.take_pairs.new.order) begins (c.if-not-take_pairs.ensures.taken refl) in
    stopped_times c.args.text.now (ahead c.next_if.new.self) (ahead c.next.new.self) c.new-tally.result c.take_pairs.new.tally
    c.new-dates.result c.take_pairs.new.order c.new-times.result whole dates (c.if-not-take_pairs-2.ensures.stops refl)

pub returns-then-is_done-3-clause-some : goal.returns-then-is_done-3-clause-some
returns-then-is_done-3-clause-some g c =
    let whole = sym (ap ahead c.new-scan.ensures.place) ∙ (c.if-not-next_if.ensures.passed refl).split in
    let begins = time_begins c.next.result c.take_pairs.new.scan c.next.new.self c.next.ensures.some c.next.ensures.none
    (c.if-not-take_pairs.ensures.ends refl) (λ none. false≢true (c.if-is_done-2.ensures.1 none)) in
    let dates = subst (λ (rest : List ℕ). TakesPairs false (ahead c.next_if.new.self) rest c.new-tally.result c.take_pairs.new.tally
    c.new-dates.result c.take_pairs.new.order) begins (c.if-not-take_pairs.ensures.taken refl) in
    let times = subst (λ (rest : List ℕ). TakesPairs true (ahead c.next.new.self) rest c.take_pairs.new.tally c.take_pairs-2.new.tally
    c.new-times.result c.take_pairs-2.new.order) (c.if-is_done-3.ensures.0 refl) (c.if-not-take_pairs-2.ensures.taken refl) in
    timed_spelled c.args.text.now (ahead c.next_if.new.self) (ahead c.next.new.self) c.new-tally.result c.take_pairs.new.tally
    c.new-dates.result c.take_pairs.new.order c.new-times.result c.take_pairs-2.new.order
    c.is_done-bare.result _ whole dates times c.new-tally.ensures.tallied c.new-dates.ensures c.new-times.ensures c.is_done-bare.ensures
    c.are_kept.ensures

pub returns-else-is_done-3-clause-none : goal.returns-else-is_done-3-clause-none
returns-else-is_done-3-clause-none g c =
    let whole = sym (ap ahead c.new-scan.ensures.place) ∙ (c.if-not-next_if.ensures.passed refl).split in
    let begins = time_begins c.next.result c.take_pairs.new.scan c.next.new.self c.next.ensures.some c.next.ensures.none
    (c.if-not-take_pairs.ensures.ends refl) (λ none. false≢true (c.if-is_done-2.ensures.1 none)) in
    let dates = subst (λ (rest : List ℕ). TakesPairs false (ahead c.next_if.new.self) rest c.new-tally.result c.take_pairs.new.tally
    c.new-dates.result c.take_pairs.new.order) begins (c.if-not-take_pairs.ensures.taken refl) in
    no_shape_behind_times c.args.text.now (ahead c.next_if.new.self) (ahead c.next.new.self)
    (ahead c.take_pairs-2.new.scan) c.new-tally.result c.take_pairs.new.tally c.take_pairs-2.new.tally
    c.new-dates.result c.take_pairs.new.order c.new-times.result c.take_pairs-2.new.order whole dates
    (c.if-not-take_pairs-2.ensures.taken refl) (no_pair_at_end true (ahead c.take_pairs-2.new.scan)
    (c.if-not-take_pairs-2.ensures.ends refl)) (λ none. false≢true (c.if-is_done-3.ensures.1 none))
