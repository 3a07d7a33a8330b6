-- Answers to the goals of the law `written_iso_texts_are_strict`.
use Rattle.pg_interval_2.specs.declared.style.Style.TheVariants.{IsoStrict}
use Rattle.pg_interval_2.proofs.ReadBack.{denotes}
use Rattle.pg_interval_2.proofs.laws.written_iso_texts_are_strict.Goals as goal

pub returns : goal.returns
returns c = denotes IsoStrict
