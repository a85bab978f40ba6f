-- Which rule can refuse which command: a table, beside the rules themselves.
use Rattle.std.specs.Prelude.{ℕ, Bool, List, [], ◌∷◌, map}
use Rattle.order_kinds.specs.declared.order.Kind.{Kind}
use Rattle.order_kinds.specs.declared.order.Kind.TheVariants as kind
use Rattle.zone_graph.specs.Route.{has}
use Rattle.market_model.specs.declared.command.Command.{Command}
use Rattle.market_model.specs.declared.command.Command.TheVariants as command
use Rattle.market_model.specs.declared.refusal.Refusal.{Refusal}
use Rattle.market_model.specs.declared.refusal.Refusal.TheVariants as refusal

-- what a rule is about
pub data Rule : Type 0 where
  on_role : Rule
  on_hour : Rule
  on_contract : Rule
  on_zone : Rule
  on_border : Rule
  on_period : Rule
  on_basket : Rule
  on_price : Rule
  on_quantity : Rule
  on_peak : Rule
  on_closing : Rule
  on_gate : Rule
  on_ownership : Rule
  on_flowing : Rule
  on_room : Rule
  on_filling : Rule
  on_basket_filling : Rule
  on_desk : Rule

-- the place of a rule in the order in which they are tried
abbrev pub place_of : Rule → ℕ
place_of Rule.on_role = 1
place_of Rule.on_hour = 2
place_of Rule.on_contract = 3
place_of Rule.on_zone = 4
place_of Rule.on_border = 5
place_of Rule.on_period = 6
place_of Rule.on_basket = 7
place_of Rule.on_price = 8
place_of Rule.on_quantity = 9
place_of Rule.on_peak = 10
place_of Rule.on_closing = 11
place_of Rule.on_gate = 12
place_of Rule.on_ownership = 13
place_of Rule.on_flowing = 14
place_of Rule.on_room = 15
place_of Rule.on_filling = 16
place_of Rule.on_basket_filling = 17
place_of Rule.on_desk = 18

-- the rule that a refusal names
abbrev pub rule_of : Refusal → Rule
rule_of refusal.WrongRole = Rule.on_role
rule_of refusal.UnknownHour = Rule.on_hour
rule_of refusal.UnknownContract = Rule.on_contract
rule_of refusal.UnknownZone = Rule.on_zone
rule_of refusal.UnknownBorder = Rule.on_border
rule_of refusal.BadPeriod = Rule.on_period
rule_of refusal.BadBasket = Rule.on_basket
rule_of refusal.PriceOutOfRange = Rule.on_price
rule_of refusal.QuantityOutOfRange = Rule.on_quantity
rule_of refusal.BadPeak = Rule.on_peak
rule_of (refusal.Closed hour) = Rule.on_closing
rule_of (refusal.GateBack phase) = Rule.on_gate
rule_of refusal.UnknownOrder = Rule.on_ownership
rule_of (refusal.BelowFlow quarter flow) = Rule.on_flowing
rule_of (refusal.NoRoom quarter room) = Rule.on_room
rule_of (refusal.Unfilled zones bound) = Rule.on_filling
rule_of (refusal.BasketUnfilled hour zones bound) = Rule.on_basket_filling
rule_of refusal.DeskFull = Rule.on_desk

-- the rules on what an order of this kind leaves: a fill-or-kill order is filled, what rests has
-- room on the desk, and an immediate-or-cancel order's rest is withdrawn
abbrev pub rules_on_rest : Kind → List Rule
rules_on_rest kind.Fok = Rule.on_filling ∷ []
rules_on_rest kind.Ioc = []
rules_on_rest kind.Limit = Rule.on_desk ∷ []
rules_on_rest (kind.Iceberg peak delta) = Rule.on_desk ∷ []

-- the rules that can refuse a command
abbrev pub rules_for : Command → List Rule
rules_for (command.Enter order) =
    Rule.on_role ∷ Rule.on_hour ∷ Rule.on_contract ∷ Rule.on_zone ∷ Rule.on_price ∷ Rule.on_quantity ∷ Rule.on_peak ∷ Rule.on_closing ∷ rules_on_rest order.kind
rules_for (command.EnterBlock order) =
    Rule.on_role ∷ Rule.on_hour ∷ Rule.on_zone ∷ Rule.on_period ∷ Rule.on_price ∷ Rule.on_quantity ∷ Rule.on_closing ∷ Rule.on_desk ∷ []
rules_for (command.EnterBasket orders) =
    Rule.on_role ∷ Rule.on_hour ∷ Rule.on_contract ∷ Rule.on_zone ∷ Rule.on_basket ∷ Rule.on_price ∷ Rule.on_quantity ∷ Rule.on_closing ∷ Rule.on_basket_filling ∷ []
rules_for (command.Cancel name) = Rule.on_role ∷ Rule.on_hour ∷ Rule.on_closing ∷ Rule.on_ownership ∷ []
rules_for (command.Reduce name to) = Rule.on_role ∷ Rule.on_hour ∷ Rule.on_quantity ∷ Rule.on_closing ∷ Rule.on_ownership ∷ []
rules_for (command.Blocks first last) = Rule.on_hour ∷ Rule.on_period ∷ Rule.on_closing ∷ []
rules_for (command.Offer from to first last lots) =
    Rule.on_role ∷ Rule.on_hour ∷ Rule.on_contract ∷ Rule.on_zone ∷ Rule.on_border ∷ Rule.on_period ∷ Rule.on_quantity ∷ Rule.on_closing ∷ Rule.on_flowing ∷ []
rules_for (command.Request from to first last lots) =
    Rule.on_hour ∷ Rule.on_contract ∷ Rule.on_zone ∷ Rule.on_border ∷ Rule.on_period ∷ Rule.on_quantity ∷ Rule.on_closing ∷ Rule.on_room ∷ []
rules_for (command.Halt from to first last) =
    Rule.on_role ∷ Rule.on_hour ∷ Rule.on_zone ∷ Rule.on_border ∷ Rule.on_period ∷ Rule.on_closing ∷ []
rules_for (command.Resume from to first last) =
    Rule.on_role ∷ Rule.on_hour ∷ Rule.on_zone ∷ Rule.on_border ∷ Rule.on_period ∷ Rule.on_closing ∷ []
rules_for (command.Gate hour phase) = Rule.on_role ∷ Rule.on_hour ∷ Rule.on_gate ∷ []
rules_for (command.View contract side zone) = Rule.on_hour ∷ Rule.on_contract ∷ Rule.on_zone ∷ []

-- a rule can refuse a command
abbrev pub can_refuse : Command → Rule → Bool
can_refuse given rule = has (place_of rule) (map place_of (rules_for given))
