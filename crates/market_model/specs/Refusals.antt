-- Why a command is refused: the first rule that it breaks, in one fixed order. The rules are this
-- market's own.
use Rattle.std.specs.Prelude.{ℕ, zero, suc, ◌==◌, ◌&&◌, not, Bool, true, false, List, [], ◌∷◌, filter, length, nat_le, nat_lt, pos, int_lt, Option, Some, None, is_none, if◌then◌else◌}
use Rattle.std.specs.List.{find}
use Rattle.std.specs.Option.{option_map, option_and_then}
use Rattle.order_kinds.specs.declared.contract.Quarter.{Quarter}
use Rattle.order_kinds.specs.declared.order.BlockOrder.{BlockOrder}
use Rattle.order_kinds.specs.declared.order.Kind.{Kind}
use Rattle.order_kinds.specs.declared.order.Kind.TheVariants as kind
use Rattle.order_kinds.specs.declared.order.Order.{Order}
use Rattle.order_kinds.specs.declared.order.OrderName.{OrderName}
use Rattle.order_kinds.specs.Phase.{is_later}
use Rattle.order_kinds.specs.Period.{range_quarters}
use Rattle.order_kinds.specs.Same.{same_name}
use Rattle.zone_graph.specs.declared.route.Arc.{Arc}
use Rattle.zone_graph.specs.Graph.{Graph}
use Rattle.market_model.specs.declared.command.Command.{Command}
use Rattle.market_model.specs.declared.command.Command.TheVariants as command
use Rattle.market_model.specs.declared.event.Event.{Event}
use Rattle.market_model.specs.declared.refusal.Refusal.{Refusal}
use Rattle.market_model.specs.declared.refusal.Refusal.TheVariants as refusal
use Rattle.market_model.specs.declared.setup.Setup.{Setup}
use Rattle.market_model.specs.Blocks.{StandingBlock, partner_found, with_block}
use Rattle.market_model.specs.Capacity.{flow}
use Rattle.market_model.specs.Certificate.{bound_of, unfilled_zones}
use Rattle.market_model.specs.Entering.{after_taking, name_of_next, rest_of}
use Rattle.market_model.specs.Grid.{graph_of}
use Rattle.zone_graph.specs.Grid.{arc_between}
use Rattle.market_model.specs.Orders.{Placed, PlacedBlock, left, next_name, open_block, open_names, open_order}
use Rattle.market_model.specs.Room.{is_closed_phase, lots_of, phase_of, quarter_room}
use Rattle.market_model.specs.Rules.{first_broken, hours_concerned, naming_refusal, numbers_refusal, unless}
use Rattle.market_model.specs.Sweep.{first_answer}
use Rattle.order_kinds.specs.Order.{is_fill_or_kill, is_limit}

-- the order, and the block, if it is the caller's
abbrev pub if_own : (caller : ℕ) → Option Placed → Option Placed
if_own caller None = None
if_own caller (Some order) = if order.caller == caller then Some order else None

abbrev pub if_own_block : (caller : ℕ) → Option PlacedBlock → Option PlacedBlock
if_own_block caller None = None
if_own_block caller (Some block) = if block.caller == caller then Some block else None

-- the order, if it is a plain limit order
abbrev pub if_limit : Option Placed → Option Placed
if_limit None = None
if_limit (Some order) = if is_limit order.order.kind then Some order else None

-- the caller's open plain limit order of this name
abbrev pub own_limit : List Event → (caller : ℕ) → OrderName → Option Placed
own_limit events caller name = if_limit (if_own caller (open_order events name))

-- the caller has an open order or block of this name
abbrev pub has_own : List Event → (caller : ℕ) → OrderName → Bool
has_own events caller name =
    not (is_none (if_own caller (open_order events name)) && is_none (if_own_block caller (open_block events name)))

-- less than is left of an order is to be left; where there is no order nothing is said
abbrev pub is_below_left : List Event → (to : ℕ) → Option Placed → Bool
is_below_left events to None = true
is_below_left events to (Some order) = nat_lt to (left events order.name)

-- a reduction lowers what is left: it is not refused here where there is no order to reduce
abbrev pub reduces : List Event → (caller : ℕ) → Command → Bool
reduces events caller (command.Reduce name to) = is_below_left events to (own_limit events caller name)
reduces events caller _ = true

-- the first closed hour of those that a command concerns; gates and views are not asked
abbrev pub closed_hour : List Event → Command → Option ℕ
closed_hour events (command.Gate hour phase) = None
closed_hour events (command.View contract side zone) = None
closed_hour events given = find (λ hour. is_closed_phase (phase_of events hour)) (hours_concerned given)

-- a gate that is asked leads to a later phase
abbrev pub gate_refusal : List Event → Command → Option Refusal
gate_refusal events (command.Gate hour asked) =
    unless (is_later asked (phase_of events hour)) (refusal.GateBack (phase_of events hour))
gate_refusal events _ = None

-- there is an order or block of the caller's that a cancellation or a reduction can change
abbrev pub order_is_known : List Event → (caller : ℕ) → Command → Bool
order_is_known events caller (command.Cancel name) = has_own events caller name
order_is_known events caller (command.Reduce name to) = not (is_none (own_limit events caller name))
order_is_known events caller _ = true

-- the flow of the first quarter of a range in which more flows over an arc than is offered
abbrev pub below_flow : List Event → Arc → (lots : ℕ) → Quarter → Option Refusal
below_flow events arc lots quarter =
    unless (not (int_lt (pos lots) (flow events quarter arc))) (refusal.BelowFlow quarter (lots_of (flow events quarter arc)))

-- an offer is below the flow in no quarter
abbrev pub offer_refusal : Graph → List Event → Command → Option Refusal
offer_refusal graph events (command.Offer from to first last lots) =
    option_and_then (λ arc. first_answer (below_flow events arc lots) (range_quarters first last)) (arc_between graph from to)
offer_refusal graph events _ = None

-- the room of a quarter in which there is less than is asked for
abbrev pub no_room : List Event → Arc → (lots : ℕ) → Quarter → Option Refusal
no_room events arc lots quarter =
    unless (nat_le lots (quarter_room events arc quarter)) (refusal.NoRoom quarter (quarter_room events arc quarter))

-- a request finds room in each quarter
abbrev pub request_refusal : Graph → List Event → Command → Option Refusal
request_refusal graph events (command.Request from to first last lots) =
    option_and_then (λ arc. first_answer (no_room events arc lots) (range_quarters first last)) (arc_between graph from to)
request_refusal graph events _ = None

-- an order that enters is filled: nothing is left of it when its taking ends
abbrev pub is_filled : Graph → List Event → (caller : ℕ) → Order → Bool
is_filled graph events caller order = rest_of graph events caller order == 0

-- a fill-or-kill order is filled, or is refused with the zones in reach and their bound
abbrev pub unfilled_refusal : Graph → List Event → (caller : ℕ) → Command → Option Refusal
unfilled_refusal graph events caller (command.Enter order) = if is_fill_or_kill order.kind then certified tt else None
  where
    certified : Unit {0} → Option Refusal
    certified _ = let zones = unfilled_zones graph events caller order in
        unless (is_filled graph events caller order) (refusal.Unfilled zones (bound_of graph events caller order zones))
unfilled_refusal graph events caller _ = None

-- an order of a basket is filled, or the basket is refused with its hour, zones and bound
abbrev pub basket_order_refusal : Graph → List Event → (caller : ℕ) → Order → Option Refusal
basket_order_refusal graph events caller order =
    let zones = unfilled_zones graph events caller order in
    unless (is_filled graph events caller order)
    (refusal.BasketUnfilled order.contract.hour zones (bound_of graph events caller order zones))

-- the orders of a basket are all filled, each by itself
abbrev pub basket_refusal : Graph → List Event → (caller : ℕ) → Command → Option Refusal
basket_refusal graph events caller (command.EnterBasket orders) = first_answer (basket_order_refusal graph events caller) orders
basket_refusal graph events caller _ = None

-- the orders and blocks that may be open by one hour
abbrev pub desk_room : ℕ
desk_room = 4096

-- one more can rest beside the other open orders and blocks of its hour
abbrev pub has_desk_room : List Event → OrderName → Bool
has_desk_room events name =
    nat_lt (length (filter (λ other. not (same_name other name)) (open_names events name.hour))) desk_room

-- what an order of this kind leaves of itself rests
abbrev pub can_rest : Kind → Bool
can_rest kind.Limit = true
can_rest (kind.Iceberg peak delta) = true
can_rest _ = false

-- what would rest of an order, once its legs are made, has room on the desk
abbrev pub order_desk_refusal : Graph → List Event → (caller : ℕ) → Order → Option Refusal
order_desk_refusal graph events caller order = rests (rest_of graph events caller order)
  where
    rests : ℕ → Option Refusal
    rests zero = None
    rests (suc more) =
        unless (has_desk_room (after_taking graph events caller order) (name_of_next events order)) refusal.DeskFull

-- a block that finds no partner has room on the desk of its first hour
abbrev pub block_desk_refusal : Graph → List Event → (caller : ℕ) → BlockOrder → Option Refusal
block_desk_refusal graph events caller order = rests (partner_found graph events caller order)
  where
    rests : Option StandingBlock → Option Refusal
    rests None = unless (has_desk_room (with_block events caller order) (next_name events order.first)) refusal.DeskFull
    rests (Some maker) = None

abbrev pub desk_refusal : Graph → List Event → (caller : ℕ) → Command → Option Refusal
desk_refusal graph events caller (command.Enter order) =
    if can_rest order.kind then order_desk_refusal graph events caller order else None
desk_refusal graph events caller (command.EnterBlock order) = block_desk_refusal graph events caller order
desk_refusal graph events caller _ = None

-- all rules, in order
abbrev pub rules : Setup → List Event → (caller : ℕ) → Command → List (Unit {0} → Option Refusal)
rules setup events caller given =
    (λ _. naming_refusal setup caller given)
    ∷ (λ _. numbers_refusal given)
    ∷ (λ _. unless (reduces events caller given) refusal.QuantityOutOfRange)
    ∷ (λ _. option_map (λ hour. refusal.Closed hour) (closed_hour events given))
    ∷ (λ _. gate_refusal events given)
    ∷ (λ _. unless (order_is_known events caller given) refusal.UnknownOrder)
    ∷ (λ _. offer_refusal (graph_of setup) events given)
    ∷ (λ _. request_refusal (graph_of setup) events given)
    ∷ (λ _. unfilled_refusal (graph_of setup) events caller given)
    ∷ (λ _. basket_refusal (graph_of setup) events caller given)
    ∷ (λ _. desk_refusal (graph_of setup) events caller given)
    ∷ []

-- the refusal of a command after some events: the first rule that it breaks, where it breaks one
unfoldable pub refusal_of_command : Setup → List Event → (caller : ℕ) → Command → Option Refusal
refusal_of_command setup events caller given = first_broken (rules setup events caller given)
