-- Answers to the goals of `date::Date::from_civil`.
use Rattle.std.proofs.Common.{arith, ◌-◌, unsigned_abs}
use Rattle.std.proofs.lemmas.Int.{ints}
use Rattle.dos_date.proofs.DateWordLemmas.{IsRealDay-date}
use Rattle.dos_date.proofs.date.Date.from_civil.Goals as goal

pub returns : goal.returns
returns c =
    let made = rw c.to_plain-plain.ensures at c.word_of-word.ensures in
    (unsigned_abs c.args.date.year - 1980, omega (arith, ints), omega (arith, ints), omega (arith, ints))

pub invariant_of-result : goal.invariant_of-result
invariant_of-result c = IsRealDay-date _ c.args.date (returns c)
