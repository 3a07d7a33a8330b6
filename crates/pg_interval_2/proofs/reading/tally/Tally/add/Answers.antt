-- Answers to the goals of `reading::tally::Tally::add`.
use Rattle.std.proofs.Common.{refl}
use Rattle.scan_core.specs.Runs.{digits_of}
use Rattle.pg_interval_2.specs.inside.Reading.{count_with, numeral_in}
use Rattle.pg_interval_2.proofs.TallyFacts.{tally_share, tally_mark, off_unless}
use Rattle.pg_interval_2.proofs.reading.tally.Tally.add.Goals as goal

pub returns-then-not-add_scanned-clause-tallied : goal.returns-then-not-add_scanned-clause-tallied
returns-then-not-add_scanned-clause-tallied g c =
    λ counts h.
    let number = c.args.number in
    let text = c.args.text.now in
    let kept = c.if-not-add_scanned.ensures.kept refl in
    let marked = c.mark.ensures in
    rw (marked, kept) (tally_mark c.args.unit number.negative (digits_of text number.whole)
    (digits_of text number.fraction) c.args.self.now counts (off_unless _ c.if-not-add_scanned.ensures.fits.1) h)

pub returns-else-not-add_scanned-clause-tallied : goal.returns-else-not-add_scanned-clause-tallied
returns-else-not-add_scanned-clause-tallied g c =
    λ counts h.
    let added = c.if-not-add_scanned.ensures in
    tally_share c.args.self.now _ counts (count_with (numeral_in c.args.text.now c.args.number) c.args.unit)
    c.requires.number.fraction.digits (added.fits.0 refl) (record {
      months_fit = refl;
      days_fit = refl;
      micros_fit = refl;
      months = added.months refl;
      days = added.days refl;
      micros = added.micros refl;
    }) h
