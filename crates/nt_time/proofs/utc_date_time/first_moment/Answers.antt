-- Answers to the goals of `utc_date_time::first_moment`.
use Rattle.std.proofs.Common.{refl}
use Rattle.nt_time.proofs.CivilLemmas.{first_nanos}
use Rattle.nt_time.proofs.utc_date_time.first_moment.Goals as goal

pub returns : goal.returns
returns c = first_nanos _ refl refl refl refl
