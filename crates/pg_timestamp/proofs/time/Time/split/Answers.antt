-- Answers to the goals of `time::Time::split`.
use Rattle.pg_timestamp.proofs.time.Time.split.Goals as goal

pub returns-in_err-hour-clause-none : goal.returns-in_err-hour-clause-none
returns-in_err-hour-clause-none c = rw c.from_residual.ensures (λ time t. c.in_err-hour.ensures.none time.hour t.hours)

pub returns-in_err-minute-clause-none : goal.returns-in_err-minute-clause-none
returns-in_err-minute-clause-none c =
    let one = c.in_ok-hour.ensures.rest in
    rw c.from_residual-in_err-minute.ensures (λ time t. c.in_err-minute.ensures.none time.minute (rw one t.minutes))

pub returns-in_err-second-clause-none : goal.returns-in_err-second-clause-none
returns-in_err-second-clause-none c =
    let one = c.in_ok-hour.ensures.rest in
    let two = c.in_ok-minute.ensures.rest in
    rw c.from_residual-in_err-second.ensures (λ time t. c.in_err-second.ensures.none time.second (rw (two, one) t.seconds))

pub returns-in_err-micros-clause-none : goal.returns-in_err-micros-clause-none
returns-in_err-micros-clause-none c =
    let one = c.in_ok-hour.ensures.rest in
    let two = c.in_ok-minute.ensures.rest in
    let three = c.in_ok-second.ensures.rest in
    rw c.from_residual-in_err-micros.ensures (λ time t. c.in_err-micros.ensures.none time.micros (rw (three, two, one) t.fraction))

pub returns-in_err-offset-clause-none : goal.returns-in_err-offset-clause-none
returns-in_err-offset-clause-none c =
    let one = c.in_ok-hour.ensures.rest in
    let two = c.in_ok-minute.ensures.rest in
    let three = c.in_ok-second.ensures.rest in
    let four = c.in_ok-micros.ensures.rest in
    rw c.from_residual-in_err-offset.ensures (λ time t. c.in_err-offset.ensures.none time.offset (rw (four, three, two, one) t.offset))

pub returns-clause-found : goal.returns-clause-found
returns-clause-found c =
    let one = c.in_ok-hour.ensures.rest in
    let two = c.in_ok-minute.ensures.rest in
    let three = c.in_ok-second.ensures.rest in
    let four = c.in_ok-micros.ensures.rest in
    record {
      hours = c.in_ok-hour.ensures.found;
      minutes = rw one at c.in_ok-minute.ensures.found;
      seconds = rw (two, one) at c.in_ok-second.ensures.found;
      fraction = rw (three, two, one) at c.in_ok-micros.ensures.found;
      offset = rw (four, three, two, one) at c.in_ok-offset.ensures.found;
    }

pub returns-clause-rest : goal.returns-clause-rest
returns-clause-rest c =
    let one = c.in_ok-hour.ensures.rest in
    let two = c.in_ok-minute.ensures.rest in
    let three = c.in_ok-second.ensures.rest in
    let four = c.in_ok-micros.ensures.rest in
    rw (four, three, two, one) at c.in_ok-offset.ensures.rest
