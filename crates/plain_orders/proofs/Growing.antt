-- The sums of an hour over the first events stay what they are when more events come.
use Rattle.std.proofs.Common.{ℕ, ◌++◌, List, sym, subst, arith}
use Rattle.std.proofs.lemmas.List.{length-append, take-append-le}
use Rattle.market_model.specs.declared.event.Event.{Event}
use Rattle.plain_orders.specs.declared.tally.OrderSums.{OrderSums}
use Rattle.plain_orders.specs.Tallies.{AreSums, AreSumsOf}

pub sums-grow : (events more : List Event) (hour : ℕ) (sums : OrderSums) → AreSums events hour sums → AreSums (events ++ more) hour sums
sums-grow events more hour sums are = record {
  most = omega (arith, are.most, length-append events more);
  of_first = subst (λ first. AreSumsOf first hour sums.tallies.items sums.moment sums.place) (sym (take-append-le sums.count events more are.most)) are.of_first;
}
