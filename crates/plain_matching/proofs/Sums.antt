-- What was summed up of an hour serves when more events have come.
use Rattle.std.proofs.Common.{◌≡◌, ◌∙◌, ℕ, ◌≤◌, ◌++◌, List, Option, Some, None, IfSome, inl, inr, ap, length, length-append, sym, subst, arith}
use Rattle.std.proofs.lemmas.List.{take-append-le}
use Rattle.zone_graph.specs.Graph.{Graph}
use Rattle.market_model.specs.declared.event.Event.{Event}
use Rattle.plain_capacity.proofs.Growing.{capacity-grows}
use Rattle.plain_orders.proofs.Growing.{sums-grow}
use Rattle.plain_orders.specs.Listed.{open_orders}
use Rattle.plain_matching.specs.declared.hour_sums.HourSums.{HourSums}
use Rattle.plain_matching.specs.declared.hour_sums.OpenOrders.{OpenOrders}
use Rattle.plain_capacity.specs.declared.rooms.CapacitySums.{CapacitySums}
use Rattle.plain_matching.specs.Summed.{AreHourSums, IsAfter, StaysOrIsAfter, WereOpen}

of-some : {X : Type 0} {P Q : X → Type 0} (o : Option X) → ((x : X) → P x → Q x) → IfSome o P → IfSome o Q
of-some None so h = h
of-some (Some x) so h = so x h

-- open orders that were listed stay those of the first events when more come
pub listed-grow : (events more : List Event) (hour : ℕ) (found : OpenOrders) → WereOpen events hour found → WereOpen (events ++ more) hour found
listed-grow events more hour found were = record {
  most = omega (arith, were.most, length-append events more);
  of_first = were.of_first ∙ ap (λ first. open_orders first hour) (sym (take-append-le found.count events more were.most));
}

pub hour_sums-grow : (graph : Graph) (events more : List Event) (hour : ℕ) (sums : HourSums) → AreHourSums graph events hour sums
    → AreHourSums graph (events ++ more) hour sums
hour_sums-grow graph events more hour sums are = record {
  orders_are = of-some sums.orders (sums-grow events more hour) are.orders_are;
  capacity_is = of-some sums.capacity (capacity-grows graph events more hour) are.capacity_is;
  listed_are = of-some sums.listed (listed-grow events more hour) are.listed_are;
}

-- ---- how far the capacity is summed up

more-after : (few many : ℕ) (capacity : Option CapacitySums) → few ≤ many → IsAfter many capacity → IsAfter few capacity
more-after few many capacity less after =
    record { there = after.there; many = of-some capacity (λ (sums : CapacitySums) (h : many ≤ sums.count). omega (arith, less, h)) after.many }

-- one step more
pub stays-or-after : (first_needless needless now_needless : Type 0) (few many : ℕ) (first old new : Option CapacitySums) → (first_needless → needless → now_needless)
    → few ≤ many → StaysOrIsAfter first_needless few first old → StaysOrIsAfter needless many old new → StaysOrIsAfter now_needless few first new
stays-or-after first_needless needless now_needless few many first old new so less before now = elim now [
  | inl same ↦ elim before [
    | inl was ↦ inl (same.0 ∙ was.0, so was.1 same.1)
    | inr after ↦ inr (subst (IsAfter few) (sym same.0) after)
  ]
  | inr after ↦ inr (more-after few many new less after)
]

pub grew-more : (old now done : List Event) → now ≡ old ++ done → length old ≤ length now
grew-more old now done is = omega (arith, ap length is, length-append old done)
