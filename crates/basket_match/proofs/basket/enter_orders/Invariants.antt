use Rattle.std.proofs.Common.{◌≡◌, List, drop, flat_map, take}
use Rattle.market_model.specs.declared.event.Event.{Event}
use Rattle.market_model.specs.Grid.{graph_of}
use Rattle.market_model.specs.Sweep.{all_parts, first_answer}
use Rattle.joint_plan.specs.Baskets.{entered_alone}
use Rattle.joint_plan.specs.Rows.{IsHistoryOf}
use Rattle.joint_plan.proofs.Lists.{changed}
use Rattle.basket_match.proofs.Baskets.{asks, part_of}
use Rattle.basket_match.proofs.basket.enter_orders.Given as goal

-- the orders so far are filled and their events are made, and each of their desks plans its part of the whole
abbrev pub invariant-loop-i : goal.invariant-loop-i
invariant-loop-i g l = record {
  made : (history : List Event) → IsHistoryOf l.setup (g.D.Desks.desks l.fn.row) history → l.made.items ≡ flat_map (entered_alone all_parts (graph_of l.setup) history l.caller) (take l.i l.orders);
  desks : (history : List Event) → IsHistoryOf l.setup (g.D.Desks.desks l.fn.row) history → g.D.Desks.desks l.row ≡ changed (part_of l.setup l.caller l.orders history) l.i (g.D.Desks.desks l.fn.row);
  passed : (history : List Event) → IsHistoryOf l.setup (g.D.Desks.desks l.fn.row) history
      → first_answer (asks l.setup l.caller history) (drop l.i l.orders) ≡ first_answer (asks l.setup l.caller history) l.orders;
  rest : g.D.Desks.rest l.row ≡ g.D.Desks.rest l.fn.row;
}
