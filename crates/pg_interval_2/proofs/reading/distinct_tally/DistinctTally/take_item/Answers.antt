-- Answers to the goals of `reading::distinct_tally::DistinctTally::take_item`.
use Rattle.std.proofs.Common.{◌≢◌, Some, ap, false, refl, subst, sym, true, ◌∙◌}
use Rattle.scan_core.specs.Runs.{digits_of}
use Rattle.scan_core.specs.Scanning.{Place, ahead, front_byte}
use Rattle.pg_interval_2.specs.inside.DistinctItems.{IsItemStep, clock_step}
use Rattle.pg_interval_2.specs.inside.ItemReading.{NextItem, read_clock}
use Rattle.pg_interval_2.specs.inside.NameSets.{names_in}
use Rattle.pg_interval_2.proofs.NamedSteps.{item_clock, item_named}
use Rattle.pg_interval_2.proofs.reading.distinct_tally.DistinctTally.take_item.Goals as goal

pub returns-then-not-next_if-clause-step : goal.returns-then-not-next_if-clause-step
returns-then-not-next_if-clause-step g c =
    λ counts h.
    let bytes = ahead c.args.scan.now in
    let whole = c.digits-whole in
    let other = c.if-not-next_if.ensures.other refl in
    let rest = ap (λ (p : Place). ahead p) other.0 ∙ whole.ensures.rest in
    let digits = ap (λ (p : Place). digits_of p.text whole.result) other.0 ∙ whole.ensures.front in
    let colon = subst (λ (p : Place). front_byte (ahead p) ≢ Some 58) (sym other.0) other.1 in
    let item = item_named bytes c.sign-negative.result (ahead c.sign-negative.new.scan) (digits_of c.next_if.new.self.text whole.result)
    (ahead c.next_if.new.self) c.sign-negative.ensures.read digits rest colon in
    subst (λ (i : NextItem). IsItemStep (names_in c.args.names) c.args.turned c.take_named.new.scan.text i
    (ahead c.take_named.new.scan) counts c.take_named.new.self c.take_named.result) (sym item)
    (c.take_named.ensures.step counts h)

pub returns-then-taken-clause-step : goal.returns-then-taken-clause-step
returns-then-taken-clause-step g c =
    λ counts h.
    let whole = c.digits-whole in
    let item = item_clock (ahead c.args.scan.now) c.sign-negative.result
    (ahead c.sign-negative.new.scan) whole.new.self c.next_if.new.self whole.result c.sign-negative.ensures.read whole.ensures.front
    whole.ensures.rest
    (c.if-not-next_if.ensures.passed refl) in
    let behind = ap (λ (p : Place). read_clock c.sign-negative.result (digits_of p.text whole.result) (ahead p)) c.here-behind.ensures in
    subst (λ (i : NextItem). IsItemStep (names_in c.args.names) c.args.turned c.take_clock-taken.new.scan.text i
    (ahead c.take_clock-taken.new.scan) counts c.take_clock-taken.new.self (clock_step true)) (behind ∙ sym item)
    (c.if-taken.ensures.step c.args.names counts h)

pub returns-else-taken-clause-step : goal.returns-else-taken-clause-step
returns-else-taken-clause-step g c =
    λ counts h.
    let whole = c.digits-whole in
    let item = item_clock (ahead c.args.scan.now) c.sign-negative.result
    (ahead c.sign-negative.new.scan) whole.new.self c.next_if.new.self whole.result c.sign-negative.ensures.read whole.ensures.front
    whole.ensures.rest
    (c.if-not-next_if.ensures.passed refl) in
    let behind = ap (λ (p : Place). read_clock c.sign-negative.result (digits_of p.text whole.result) (ahead p)) c.here-behind.ensures in
    subst (λ (i : NextItem). IsItemStep (names_in c.args.names) c.args.turned c.take_clock-taken.new.scan.text i
    (ahead c.take_clock-taken.new.scan) counts c.take_clock-taken.new.self (clock_step false)) (behind ∙ sym item)
    (c.if-taken.ensures.step c.args.names counts h)
