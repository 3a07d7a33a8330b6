-- Answers to the goals of `convert::DateTimeTryFromFileTime::try_from`.
use Rattle.std.proofs.Common.{◌<◌, ⊎_elim}
use Rattle.std.proofs.lemmas.Bool.{cases_lt}
use Rattle.nt_time.specs.Civil.{past_civil}
use Rattle.nt_time.proofs.CivilLemmas.{dos_from}
use Rattle.nt_time.proofs.convert.DateTimeTryFromFileTime.try_from.Goals as goal

pub returns-in-Ok : goal.returns-in-Ok
returns-in-Ok c =
    let utc = c.in-Ok.ensures in
    let below : c.args.ft < past_civil = ⊎_elim (λ h. h) (λ past. absurd (let out = utc.out.1 past in cc))
    (cases_lt c.args.ft past_civil) in
    dos_from _ c.in-Ok.utc _ utc.ok below (rw c.civil.ensures at c.from_civil.ensures)
