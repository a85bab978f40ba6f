-- One order of a basket, on the desk of its hour.
use Rattle.std.specs.Prelude.{◌≡◌, ℕ, ◌-◌, ◌<◌, ◌^◌, true, false, count_by, None}
use Rattle.order_kinds.specs.declared.order.Order.{Order}
use Rattle.order_kinds.specs.Order.{is_fill_or_kill}
use Rattle.zone_graph.specs.Graph.{Graph}
use Rattle.market_model.specs.declared.command.Command.TheVariants as command
use Rattle.market_model.specs.declared.refusal.Refusal.{Refusal}
use Rattle.market_model.specs.declared.refusal.Refusal.TheVariants as refusal
use Rattle.market_model.specs.declared.reply.Reply.{Reply}
use Rattle.market_model.specs.declared.reply.Reply.TheVariants as reply
use Rattle.market_model.specs.declared.setup.Setup.{Setup}
use Rattle.market_model.specs.Entering.{enter}
use Rattle.market_model.specs.Grid.{graph_of}
use Rattle.market_model.specs.History.{enters_in}
use Rattle.market_model.specs.Market.{refused_or}
use Rattle.market_model.specs.Refusals.{basket_order_refusal}
use Rattle.market_model.specs.Rules.{early_refusal}
use Rattle.market_model.specs.Sweep.{all_parts}
use Rattle.joint_plan.specs.Desk.{DeskState}
use Rattle.joint_plan.specs.Refusing.{is_closed}

-- a fill-or-kill order that breaks no rule by itself can be planned on the desk of its hour, which is not closed
pub record CanEnter (setup : Setup) (graph : Graph) (caller : ℕ) (order : Order) (desk : DeskState) : Type 0 where
  pub over : graph ≡ desk.grid
  pub over_setup : graph_of setup ≡ desk.grid
  pub here : order.contract.hour ≡ desk.hour
  pub early : early_refusal setup caller (command.Enter order) ≡ None
  pub kills : is_fill_or_kill order.kind ≡ true
  pub unclosed : is_closed desk ≡ false
  pub numbers : count_by (enters_in desk.hour) desk.settled < 2 ^ 32 - 1

-- what the order says of its basket after the settled events of the desk: the refusal where it is not filled, and
-- else its events
abbrev pub reply_on : (caller : ℕ) → Order → DeskState → Reply
reply_on caller order desk =
    refused_or (basket_order_refusal desk.grid desk.settled caller order) (λ _. reply.Done (enter all_parts desk.grid caller order desk.settled))

-- what the refusal of an order by itself says of its basket
abbrev pub refusal_of_basket : (hour : ℕ) → Refusal → Refusal
refusal_of_basket hour (refusal.Unfilled zones bound) = refusal.BasketUnfilled hour zones bound
refusal_of_basket hour given = given

-- and the reply to it
abbrev pub of_basket : (hour : ℕ) → Reply → Reply
of_basket hour (reply.Refused given) = reply.Refused (refusal_of_basket hour given)
of_basket hour given = given
