-- Answers to the goals of the law `equality_is_that_of_the_fields`.
use Rattle.std.proofs.Common.{rules, ◌≡◌, ℤ, int_eq, refl, ap}
use Rattle.std.specs.Prelude.{◌↔◌, IsTrue}
use Rattle.jiff_core.specs.DateTime.{civil_nanos}
use Rattle.iso8601.specs.contracts.types.DatePartialEq.TheImpl.{ghosts as date_equality}
use Rattle.iso8601.specs.contracts.types.TimePartialEq.TheImpl.{ghosts as time_equality}
use Rattle.iso8601.specs.declared.types.Date.{Date}
use Rattle.iso8601.specs.declared.types.DateTime.{DateTime}
use Rattle.iso8601.specs.declared.types.Time.{Time}
use Rattle.iso8601.proofs.EqualFields.{two_are}
use Rattle.iso8601.proofs.laws.equality_is_that_of_the_fields.Goals as goal

date_is : (a b : Date) → IsTrue (date_equality.eq a b) ↔ (a ≡ b)
date_is a b = search rules

time_is : (a b : Time) → IsTrue (time_equality.eq a b) ↔ (a ≡ b)
time_is a b = search rules

with : Date → Time → DateTime
with d t = record { date = d; time = t }

same : (d e : Date) (t u : Time) → d ≡ e → t ≡ u → with d t ≡ with e u
same d e t u i j = rw (i, j) refl

int_is : (m n : ℤ) → IsTrue (int_eq m n) ↔ (m ≡ n)
int_is m n = search rules

pub returns-clause-date_time : goal.returns-clause-date_time
unfolding with
returns-clause-date_time c a b =
    two_are (date_equality.eq a.date b.date) (time_equality.eq a.time b.time) (date_is a.date b.date) (time_is a.time b.time)
    (λ h. same a.date b.date a.time b.time h.0 h.1, λ h. (ap (λ (t : DateTime). t.date) h, ap (λ (t : DateTime). t.time) h))

pub returns-clause-moment : goal.returns-clause-moment
returns-clause-moment c a b =
    two_are _ _ (int_is (civil_nanos a.local) (civil_nanos b.local)) (int_is a.offset_seconds b.offset_seconds) (λ h. h, λ h. h)
