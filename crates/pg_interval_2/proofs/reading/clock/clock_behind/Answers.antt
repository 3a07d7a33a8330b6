-- Answers to the goals of `reading::clock::clock_behind`.
use Rattle.std.proofs.Common.{◌≡◌, ℕ, List, Some, ap, refl, sym, take, ◌∙◌}
use Rattle.scan_core.specs.Fronts.{front_digits, after_digits}
use Rattle.scan_core.specs.Runs.{digits_of}
use Rattle.scan_core.specs.Scanning.{ahead}
use Rattle.pg_interval_2.specs.inside.ItemReading.{ClockFields, read_byte, read_clock}
use Rattle.pg_interval_2.specs.inside.Reading.{read_fraction}
use Rattle.pg_interval_2.proofs.ClockFacts.{closed, some_digits}
use Rattle.pg_interval_2.proofs.reading.clock.clock_behind.Goals as goal

pub returns-clause-read : goal.returns-clause-read
unfolding read_clock
returns-clause-read g c =
    let hours = c.args.hours in
    let minutes = c.digits-minutes in
    let colon = c.if-not-next_if.ensures.passed refl in
    let seconds = c.digits-seconds in
    let cut = c.cut_fraction-fraction in
    let behind = ahead c.next_if.new.self in
    let fraction = read_fraction (after_digits behind) in
    let fields : ClockFields = record {
      negative = c.args.negative;
      hours = digits_of c.args.scan.now.text hours;
      minutes = front_digits (ahead c.args.scan.now);
      seconds = front_digits behind;
      fraction = fraction.0;
    } in
    let byte : read_byte 58 (after_digits (ahead c.args.scan.now))
    ≡ Some behind = ap (read_byte 58) (sym minutes.ensures.rest ∙ colon.split) in
    let end : fraction.1 ≡ ahead cut.new.scan = ap (λ (l : List ℕ). (read_fraction l).1) (sym seconds.ensures.rest)
    ∙ sym cut.ensures.rest in
    let first = minutes.ensures.passed.same in
    let last = cut.ensures.same ∙ seconds.ensures.passed.same ∙ colon.same in
    let some_minutes = some_digits minutes.new.self.text minutes.result minutes.ensures.run c.if-is_empty-2.ensures in
    let some_seconds = some_digits seconds.new.self.text seconds.result seconds.ensures.run c.if-is_empty-3.ensures in (
      fields,
      rw (byte, end) (closed fields (ahead cut.new.scan)
          (some_digits c.args.scan.now.text hours c.requires c.if-is_empty.ensures)
          (rw minutes.ensures.front at some_minutes) (rw seconds.ensures.front at some_seconds) (sym c.if-not-ends_word.ensures)),
      record {
        negative = refl;
        hours = ap (λ (text : List ℕ). digits_of text hours) (last ∙ first);
        minutes = ap (λ (text : List ℕ). digits_of text minutes.result) last ∙ minutes.ensures.front;
        seconds = ap (λ (text : List ℕ). digits_of text seconds.result) cut.ensures.same ∙ seconds.ensures.front;
        fraction = cut.ensures.digits ∙ ap (λ (l : List ℕ). take 6 (read_fraction l).0) seconds.ensures.rest;
      },
    )
