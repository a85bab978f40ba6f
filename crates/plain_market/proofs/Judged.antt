-- What is judged after a taking is what the rules ask.
use Rattle.std.proofs.Common.{◌≡◌, ◌∙◌, ◌==◌, ℕ, zero, suc, Bool, true, false, if◌then◌else◌, List, Option, Some, None, refl, sym, ap}
use Rattle.std.specs.Option.{option_map}
use Rattle.order_kinds.specs.declared.order.Kind.{Kind}
use Rattle.order_kinds.specs.declared.order.Kind.TheVariants as kind
use Rattle.order_kinds.specs.declared.order.Order.{Order}
use Rattle.order_kinds.specs.declared.order.OrderName.{OrderName}
use Rattle.zone_graph.specs.Graph.{Graph}
use Rattle.market_model.specs.declared.command.Command.TheVariants as command
use Rattle.market_model.specs.declared.event.Event.{Event}
use Rattle.market_model.specs.declared.refusal.Refusal.{Refusal}
use Rattle.market_model.specs.declared.refusal.Refusal.TheVariants as refusal
use Rattle.market_model.specs.Certificate.{bound_of, unfilled_zones}
use Rattle.market_model.specs.Entering.{after_taking, name_of_next, rest_of, with_order}
use Rattle.market_model.specs.Orders.{left}
use Rattle.market_model.specs.Refusals.{basket_order_refusal, order_desk_refusal}
use Rattle.market_model.specs.Rules.{first_broken, unless}
use Rattle.market_model.specs.Sweep.{or_else}
use Rattle.market_model.specs.StateRules.{filling_rules}
use Rattle.laws_of_market.proofs.Replaced.{of_kind}
use Rattle.plain_market.proofs.Parts.{IsTaken}
use Rattle.plain_market.specs.declared.judging.Certificate.{Certificate}
use Rattle.plain_market.specs.Judging.{certificate, most_from, refusal_after, unless_full, zones_after}

or-nothing : (o : Option Refusal) → or_else o (λ _. None) ≡ o
or-nothing None = refl
or-nothing (Some x) = refl

-- a certificate makes a refusal, where there is one
certified : (graph : Graph) (start after : List Event) (name : OrderName) (order : Order) (refuse : Certificate → Refusal)
    → option_map refuse (certificate graph start after name order)
    ≡ unless (left after name == 0) (refuse (record { zones = zones_after graph after order; bound = most_from graph start order (zones_after graph after order) }))
certified graph start after name order refuse = by (left after name == 0)
  where
    made : Certificate
    made = record { zones = zones_after graph after order; bound = most_from graph start order (zones_after graph after order) }

    by : (b : Bool) → option_map refuse (if b then None else Some made) ≡ unless b (refuse made)
    by true = refl
    by false = refl

full-is : (graph : Graph) (events : List Event) (caller : ℕ) (order : Order)
    → unless_full (after_taking graph events caller order) (name_of_next events order) ≡ order_desk_refusal graph events caller order
full-is graph events caller order = go (rest_of graph events caller order) refl
  where
    go : (rest : ℕ) → rest_of graph events caller order ≡ rest
        → unless_full (after_taking graph events caller order) (name_of_next events order) ≡ order_desk_refusal graph events caller order
    go zero e = rw e refl
    go (suc more) e = rw e refl

-- an order by itself
pub order-judged : (graph : Graph) (events : List Event) (caller : ℕ) (order : Order)
    → refusal_after graph (with_order events caller order) (after_taking graph events caller order) (name_of_next events order) order
    ≡ first_broken (filling_rules graph events caller (command.Enter order))
unfolding of_kind unfilled_zones bound_of
order-judged graph events caller order = by order.kind
  where
    by : (kind : Kind)
        → refusal_after graph (with_order events caller (of_kind kind order)) (after_taking graph events caller (of_kind kind order)) (name_of_next events (of_kind kind order))
        (of_kind kind order)
        ≡ first_broken (filling_rules graph events caller (command.Enter (of_kind kind order)))
    by kind.Fok =
        certified graph (with_order events caller (of_kind kind.Fok order)) (after_taking graph events caller (of_kind kind.Fok order))
        (name_of_next events (of_kind kind.Fok order)) (of_kind kind.Fok order) (λ found. refusal.Unfilled found.zones found.bound)
        ∙ sym (or-nothing _)
    by kind.Ioc = refl
    by kind.Limit = full-is graph events caller (of_kind kind.Limit order) ∙ sym (or-nothing (order_desk_refusal graph events caller (of_kind kind.Limit order)))
    by (kind.Iceberg peak delta) =
        full-is graph events caller (of_kind (kind.Iceberg peak delta) order)
        ∙ sym (or-nothing (order_desk_refusal graph events caller (of_kind (kind.Iceberg peak delta) order)))

-- an order of a basket
pub one-judged : (graph : Graph) (events : List Event) (caller : ℕ) (order : Order)
    → option_map (λ found. refusal.BasketUnfilled order.contract.hour found.zones found.bound) (certificate graph (with_order events caller order)
    (after_taking graph events caller order) (name_of_next events order) order)
    ≡ basket_order_refusal graph events caller order
unfolding unfilled_zones bound_of
one-judged graph events caller order =
    certified graph (with_order events caller order) (after_taking graph events caller order) (name_of_next events order) order
    (λ found. refusal.BasketUnfilled order.contract.hour found.zones found.bound)

-- the same of what was taken
module _ (graph : Graph) (events : List Event) (caller : ℕ) (order : Order) (start after : List Event) (name : OrderName)
    (is_taken : IsTaken graph events caller order start after name) where
  over : (judge : List Event → List Event → OrderName → Option Refusal)
      → judge start after name ≡ judge (with_order events caller order) (after_taking graph events caller order) (name_of_next events order)
  over judge =
      ap (λ history. judge history after name) is_taken.start_is
      ∙ ap (λ history. judge (with_order events caller order) history name) is_taken.after_is
      ∙ ap (judge (with_order events caller order) (after_taking graph events caller order)) is_taken.name_is

  pub order-found : (found : Option Refusal) → found ≡ refusal_after graph start after name order
      → found ≡ first_broken (filling_rules graph events caller (command.Enter order))
  order-found found is = is ∙ over (λ s a n. refusal_after graph s a n order) ∙ order-judged graph events caller order

  pub one-found : (found : Option Certificate) → found ≡ certificate graph start after name order
      → option_map (λ found. refusal.BasketUnfilled order.contract.hour found.zones found.bound) found ≡ basket_order_refusal graph events caller order
  one-found found is =
      ap (option_map (λ found. refusal.BasketUnfilled order.contract.hour found.zones found.bound)) is
      ∙ over (λ s a n. option_map (λ found. refusal.BasketUnfilled order.contract.hour found.zones found.bound) (certificate graph s a n order))
      ∙ one-judged graph events caller order
