-- What a command is: no basket, or refused by a rule on it alone.
use Rattle.std.proofs.Common.{◌≡◌, ℕ, List, Option, Some, refl, ap}
use Rattle.order_kinds.specs.declared.order.Order.{Order}
use Rattle.market_model.specs.declared.command.Command.{Command}
use Rattle.market_model.specs.declared.command.Command.TheVariants as command
use Rattle.market_model.specs.declared.event.Event.{Event}
use Rattle.market_model.specs.declared.refusal.Refusal.{Refusal}
use Rattle.market_model.specs.declared.reply.Reply.TheVariants as reply
use Rattle.market_model.specs.declared.setup.Setup.{Setup}
use Rattle.market_model.specs.Market.{reply_let_in, refused_or, reply_by, reply_to}
use Rattle.market_model.specs.Rules.{early_refusal}
use Rattle.market_model.specs.Sweep.{all_parts}
use Rattle.hour_desk.proofs.Admitting.{early-some}
use Rattle.joint_plan.specs.Kinds.{IsNoBasket}

-- a command that is not a basket is none
pub is-no_basket : (given : Command) → ((orders : List Order) → ¬ (given ≡ command.EnterBasket orders)) → IsNoBasket given
is-no_basket (command.EnterBasket orders) apart = apart orders refl
is-no_basket _ apart = tt

module _ (setup : Setup) (caller : ℕ) (given : Command) where
  -- a command that a rule refuses by itself
  pub refused-early : (history : List Event) (broken : Refusal) → early_refusal setup caller given ≡ Some broken → reply_to setup history caller given ≡ reply.Refused broken
  unfolding reply_by
  refused-early history broken early = ap (λ (o : Option Refusal). refused_or o (λ _. reply_let_in all_parts setup history caller given)) (early-some setup history caller given broken early)
