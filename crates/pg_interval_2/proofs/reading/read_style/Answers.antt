-- Answers to the goals of `reading::read_style`.
use Rattle.pg_interval_2.specs.Denotes.{NoPlace}
use Rattle.pg_interval_2.specs.Iso.{IsIso, unit_in}
use Rattle.pg_interval_2.specs.IsoStrict.{IsIsoStrict}
use Rattle.pg_interval_2.specs.Messages.{not_iso, not_iso_strict}
use Rattle.pg_interval_2.specs.inside.IsoShapes.{IsIsoEither, IsStrictEither}
use Rattle.pg_interval_2.proofs.IsoWhole.{whole, either, whole_strict, strict_either}
use Rattle.pg_interval_2.proofs.SameShape.{ok_onto, err_onto}
use Rattle.pg_interval_2.proofs.reading.read_style.Goals as goal

pub returns-in-Postgres-clause-err : goal.returns-in-Postgres-clause-err
returns-in-Postgres-clause-err g c = let style = c.in-Postgres.is in rw style c.read_postgres.ensures.err

pub returns-in-Verbose-clause-err : goal.returns-in-Verbose-clause-err
returns-in-Verbose-clause-err g c = let style = c.in-Verbose.is in rw style c.read_verbose.ensures.err

pub returns-in-Iso-clause-ok : goal.returns-in-Iso-clause-ok
returns-in-Iso-clause-ok g c = let style = c.in-Iso.is in rw style
    (ok_onto IsIsoEither (IsIso unit_in) (whole unit_in) _ _ c.read_iso.ensures.ok)

pub returns-in-Iso-clause-err : goal.returns-in-Iso-clause-err
returns-in-Iso-clause-err g c = let style = c.in-Iso.is in rw style
    (err_onto IsIsoEither (IsIso unit_in) (whole unit_in) either NoPlace not_iso _ _ c.read_iso.ensures.err)

pub returns-in-IsoStrict-clause-ok : goal.returns-in-IsoStrict-clause-ok
returns-in-IsoStrict-clause-ok g c = let style = c.in-IsoStrict.is in
    rw style (ok_onto IsStrictEither IsIsoStrict whole_strict _ _ c.read_iso_strict.ensures.ok)

pub returns-in-IsoStrict-clause-err : goal.returns-in-IsoStrict-clause-err
returns-in-IsoStrict-clause-err g c = let style = c.in-IsoStrict.is in
    rw style (err_onto IsStrictEither IsIsoStrict whole_strict strict_either NoPlace not_iso_strict _ _ c.read_iso_strict.ensures.err)
