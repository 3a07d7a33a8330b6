-- Answers to the goals of `reading::order::Order::take`.
use Rattle.std.proofs.Common.{ap, sym}
use Rattle.pg_interval_2.specs.inside.UnitPlaces.{place_of}
use Rattle.pg_interval_2.proofs.OrderFacts.{orders_push}
use Rattle.pg_interval_2.proofs.reading.order.Order.take.Goals as goal

pub returns : goal.returns
returns c = λ in_time counts count same orders.
    let place = sym (ap place_of same) in
    orders_push in_time c.args.self.now _ counts count orders (rw place at c.place_behind-self.ensures)
