-- Answers to the goals of `fancy::FancyDuration::reads_back`.
use Rattle.std.proofs.Common.{ℕ, ◌<◌, ◌^◌, ◌↔◌, IsTrue, not, subst, rules}
use Rattle.fancy_duration.specs.Meanings.{Denotes}
use Rattle.fancy_duration.specs.Times.{nanos_of}
use Rattle.fancy_duration.specs.Written.{length_text}
use Rattle.fancy_duration.proofs.MonthsAlone.{tells_read_back}
use Rattle.fancy_duration.proofs.fancy.FancyDuration.reads_back.Goals as goal

pub returns-clause-text : goal.returns-clause-text
returns-clause-text g c =
    let times = c.as_times-seconds.result in
    let within = c.as_times-seconds.ensures.within in
    let small : times.0 < 2 ^ 64 = search rules in
    subst (λ (t : ℕ × ℕ). IsTrue (not c.have_months_alone.result) ↔ Denotes (length_text (nanos_of t)) t) c.as_times-seconds.ensures.value
    (tells_read_back times c.have_months_alone.result small within (c.have_months_alone.ensures times.1 within))
