use Rattle.std.proofs.Common.{◌≡◌, drop}
use Rattle.market_model.specs.Refusals.{basket_order_refusal}
use Rattle.market_model.specs.Sweep.{first_answer}
use Rattle.plain_market.proofs.basket.first_unfilled.Given as goal

-- the events are as before, and the orders so far are filled
abbrev pub invariant-loop-order : goal.invariant-loop-order
invariant-loop-order l = record {
  kept : l.events ≡ l.initial.events;
  filled : first_answer (basket_order_refusal l.grid l.initial.events l.caller) (drop l.order-index l.orders)
      ≡ first_answer (basket_order_refusal l.grid l.initial.events l.caller) l.orders;
}
