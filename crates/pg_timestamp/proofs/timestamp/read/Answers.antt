-- Answers to the goals of `timestamp::read`.
use Rattle.pg_timestamp.proofs.PlaceFacts.{at_places, from_places}
use Rattle.pg_timestamp.proofs.timestamp.read.Goals as goal

pub returns-in_err-year-clause-none : goal.returns-in_err-year-clause-none
returns-in_err-year-clause-none c = rw c.from_residual.ensures (λ t d. c.in_err-year.ensures.none t.date.year
    (at_places c.args.text.now t d).years)

pub returns-in_err-month-clause-none : goal.returns-in_err-month-clause-none
returns-in_err-month-clause-none c =
    let one = c.in_ok-year.ensures.rest in
    rw c.from_residual-in_err-month.ensures (λ t d. c.in_err-month.ensures.none t.date.month
    (rw one (at_places c.args.text.now t d).months))

pub returns-in_err-day-clause-none : goal.returns-in_err-day-clause-none
returns-in_err-day-clause-none c =
    let one = c.in_ok-year.ensures.rest in
    let two = c.in_ok-month.ensures.rest in
    rw c.from_residual-in_err-day.ensures (λ t d. c.in_err-day.ensures.none t.date.day (rw (two, one) (at_places c.args.text.now t d).days))

pub returns-in_err-time-clause-none : goal.returns-in_err-time-clause-none
returns-in_err-time-clause-none c =
    let one = c.in_ok-year.ensures.rest in
    let two = c.in_ok-month.ensures.rest in
    let three = c.in_ok-day.ensures.rest in
    rw c.from_residual-in_err-time.ensures (λ t d. c.in_err-time.ensures.none t.time t.date.bc
    (rw (three, two, one) (at_places c.args.text.now t d).end))

pub returns-clause-found : goal.returns-clause-found
returns-clause-found c =
    let one = c.in_ok-year.ensures.rest in
    let two = c.in_ok-month.ensures.rest in
    let three = c.in_ok-day.ensures.rest in
    from_places c.args.text.now _ (record {
      years = c.in_ok-year.ensures.found;
      months = rw one at c.in_ok-month.ensures.found;
      days = rw (two, one) at c.in_ok-day.ensures.found;
      end = rw (three, two, one) at c.in_ok-time.ensures.found;
    })
