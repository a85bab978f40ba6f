-- The rules on the state of orders, hours and capacity: those between the rules on a command's numbers
-- and the rule that a fill-or-kill order is filled.
use Rattle.std.specs.Prelude.{◌≡◌, ℕ, List, [], ◌∷◌, ◌++◌, Option}
use Rattle.std.specs.Option.{option_map}
use Rattle.zone_graph.specs.Graph.{Graph}
use Rattle.market_model.specs.declared.command.Command.{Command}
use Rattle.market_model.specs.declared.event.Event.{Event}
use Rattle.market_model.specs.declared.refusal.Refusal.{Refusal}
use Rattle.market_model.specs.declared.refusal.Refusal.TheVariants as refusal
use Rattle.market_model.specs.declared.setup.Setup.{Setup}
use Rattle.market_model.specs.Grid.{graph_of}
use Rattle.market_model.specs.Refusals.{basket_refusal, closed_hour, desk_refusal, gate_refusal, offer_refusal, order_is_known, reduces, refusal_of_command, request_refusal, unfilled_refusal}
use Rattle.market_model.specs.Rules.{early_refusal, first_broken, unless}
use Rattle.market_model.specs.Sweep.{or_else}

-- the rules on the state of orders and hours, in order
abbrev pub order_rules : List Event → (caller : ℕ) → Command → List (Unit {0} → Option Refusal)
order_rules events caller given =
    (λ _. unless (reduces events caller given) refusal.QuantityOutOfRange)
    ∷ (λ _. option_map (λ hour. refusal.Closed hour) (closed_hour events given))
    ∷ (λ _. gate_refusal events given)
    ∷ (λ _. unless (order_is_known events caller given) refusal.UnknownOrder)
    ∷ []

-- the rules on capacity, in order
abbrev pub capacity_rules : Graph → List Event → Command → List (Unit {0} → Option Refusal)
capacity_rules graph events given =
    (λ _. offer_refusal graph events given)
    ∷ (λ _. request_refusal graph events given)
    ∷ []

-- all of them, in order
abbrev pub state_rules : Graph → List Event → (caller : ℕ) → Command → List (Unit {0} → Option Refusal)
state_rules graph events caller given = order_rules events caller given ++ capacity_rules graph events given

-- the first one that is broken: of those on orders and hours, of those on capacity, of all
unfoldable pub order_refusal : List Event → (caller : ℕ) → Command → Option Refusal
order_refusal events caller given = first_broken (order_rules events caller given)

unfoldable pub capacity_refusal : Graph → List Event → Command → Option Refusal
capacity_refusal graph events given = first_broken (capacity_rules graph events given)

unfoldable pub state_refusal : Graph → List Event → (caller : ℕ) → Command → Option Refusal
state_refusal graph events caller given = first_broken (state_rules graph events caller given)

-- the rules that come after them: orders are filled, and what rests has room
abbrev pub filling_rules : Graph → List Event → (caller : ℕ) → Command → List (Unit {0} → Option Refusal)
filling_rules graph events caller given =
    (λ _. unfilled_refusal graph events caller given)
    ∷ (λ _. basket_refusal graph events caller given)
    ∷ (λ _. desk_refusal graph events caller given)
    ∷ []

-- a command is refused by the first broken rule of those that it can break by itself, those on the
-- state, and those on filling
abbrev pub StateComesSecond : Type 0
StateComesSecond = (setup : Setup) (events : List Event) (caller : ℕ) (given : Command)
    → refusal_of_command setup events caller given
    ≡ or_else (early_refusal setup caller given) (λ _.
    or_else (state_refusal (graph_of setup) events caller given) (λ _.
    first_broken (filling_rules (graph_of setup) events caller given)))
