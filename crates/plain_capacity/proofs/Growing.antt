-- The capacity of an hour after the first events stays what it is when more events come.
use Rattle.std.proofs.Common.{ℕ, ◌++◌, List, sym, subst, arith}
use Rattle.std.proofs.lemmas.List.{length-append, take-append-le}
use Rattle.zone_graph.specs.Graph.{Graph}
use Rattle.market_model.specs.declared.event.Event.{Event}
use Rattle.plain_capacity.specs.declared.rooms.CapacitySums.{CapacitySums}
use Rattle.plain_capacity.specs.Hour.{IsCapacityOf}
use Rattle.plain_capacity.specs.Sums.{AreCapacitySums}

pub capacity-grows : (graph : Graph) (events more : List Event) (hour : ℕ) (sums : CapacitySums) → AreCapacitySums graph events hour sums
    → AreCapacitySums graph (events ++ more) hour sums
capacity-grows graph events more hour sums are = record {
  most = omega (arith, are.most, length-append events more);
  of_first = subst (λ first. IsCapacityOf graph first hour sums.capacity) (sym (take-append-le sums.count events more are.most)) are.of_first;
}
