-- Answers to the goals of `offset::split_offset`.
use Rattle.pg_timestamp.proofs.OffsetFacts.{sign_is}
use Rattle.pg_timestamp.proofs.offset.split_offset.Goals as goal

pub returns-in_err-hour-clause-none : goal.returns-in_err-hour-clause-none
returns-in_err-hour-clause-none c =
    let negative = c.begins_with-negative.ensures in
    let mark = c.sign_byte.ensures in
    rw c.from_residual.ensures (λ seconds o. c.in_err-hour.ensures.none o.hour
    (rw mark (sign_is c.args.text.now c.begins_with-negative.result seconds negative o)))

pub returns-in_err-minute-clause-none : goal.returns-in_err-minute-clause-none
returns-in_err-minute-clause-none c =
    let one = c.in_ok-hour.ensures.rest in
    rw c.from_residual-in_err-minute.ensures (λ seconds o. c.in_err-minute.ensures.none o.minute (rw one o.minutes))

pub returns-in_err-second-clause-none : goal.returns-in_err-second-clause-none
returns-in_err-second-clause-none c =
    let one = c.in_ok-hour.ensures.rest in
    let two = c.in_ok-minute.ensures.rest in
    rw c.from_residual-in_err-second.ensures (λ seconds o. c.in_err-second.ensures.none o.second (rw (two, one) o.seconds_are))
