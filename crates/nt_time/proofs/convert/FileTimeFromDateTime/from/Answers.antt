-- Answers to the goals of `convert::FileTimeFromDateTime::from`.
use Rattle.std.proofs.Common.{pos, ◌≤ℤ◌, arith}
use Rattle.std.proofs.lemmas.Int.{ints}
use Rattle.jiff.proofs.Family.{civil_nanos-civil_seconds}
use Rattle.jiff.specs.Words.{civil_nanos}
use Rattle.nt_time.proofs.CivilLemmas.{since_1980, succeeds}
use Rattle.nt_time.proofs.convert.FileTimeFromDateTime.from.Goals as goal

pub unwrap-requires : goal.unwrap-requires
unwrap-requires c =
    let civil = c.to_civil.result in
    let seconds = rw c.to_plain.ensures at c.to_second-seconds.ensures.value in
    let since : pos 0 ≤ℤ civil_nanos civil = since_1980 civil (omega (arith, ints)) in
    let split = civil_nanos-civil_seconds civil in
    let made = c.from_unix_time_secs.ensures in
    succeeds c.from_unix_time_secs.result (λ e. omega (arith, ints, seconds, since, split, made.negative.0 e))
    (λ e. omega (arith, ints, made.overflow.0 e))

pub returns : goal.returns
returns c =
    let civil = c.to_civil.result in
    let seconds = rw c.to_plain.ensures at c.to_second-seconds.ensures.value in
    let split = civil_nanos-civil_seconds civil in
    let made = rw c.unwrap.ensures at c.from_unix_time_secs.ensures.ok in
    (civil, c.to_civil.ensures, omega (arith, ints, seconds, split, made))
