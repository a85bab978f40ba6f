-- What a command names, and the rules that it can break by itself, whatever happened before. The
-- rules, their order and their limits are this market's own.
use Rattle.std.specs.Prelude.{ℕ, ◌+◌, ◌-◌, Bool, true, false, ◌&&◌, List, [], ◌∷◌, map, length, nat_le, nat_lt, Option, Some, None, is_some, is_none, slice_get, if◌then◌else◌}
use Rattle.std.specs.List.{list_all}
use Rattle.std.specs.Option.{option_map, option_map_or}
use Rattle.order_kinds.specs.declared.contract.Part.{Part}
use Rattle.order_kinds.specs.declared.contract.Part.TheVariants as part
use Rattle.order_kinds.specs.declared.price.Lots.{Lots}
use Rattle.order_kinds.specs.declared.price.Price.{Price}
use Rattle.order_kinds.specs.Contract.{is_known}
use Rattle.order_kinds.specs.Order.{has_allowed_peaks, is_fill_or_kill}
use Rattle.order_kinds.specs.Period.{hours_from, is_not_after, is_within}
use Rattle.order_kinds.specs.Price.{lots_in_range, price_in_range}
use Rattle.zone_graph.specs.Graph.{Graph, zone_count}
use Rattle.market_model.specs.declared.command.Command.{Command}
use Rattle.market_model.specs.declared.command.Command.TheVariants as command
use Rattle.market_model.specs.declared.refusal.Refusal.{Refusal}
use Rattle.market_model.specs.declared.refusal.Refusal.TheVariants as refusal
use Rattle.market_model.specs.declared.setup.Role.{Role}
use Rattle.market_model.specs.declared.setup.Role.TheVariants as role
use Rattle.market_model.specs.declared.setup.Setup.{Setup}
use Rattle.market_model.specs.Grid.{graph_of}
use Rattle.zone_graph.specs.Grid.{arc_between}
use Rattle.market_model.specs.Sweep.{first_answer}
use Rattle.quarter_capacity.specs.Capacity.{most_offered}

-- who may give a command: traders enter and change orders, operators decide on capacity and gates,
-- and either may ask for capacity or a view and have blocks matched
abbrev pub may_give : Role → Command → Bool
may_give role.Trader (command.Offer from to first last lots) = false
may_give role.Trader (command.Halt from to first last) = false
may_give role.Trader (command.Resume from to first last) = false
may_give role.Trader (command.Gate hour phase) = false
may_give role.Trader _ = true
may_give role.Operator (command.Enter order) = false
may_give role.Operator (command.EnterBlock order) = false
may_give role.Operator (command.EnterBasket orders) = false
may_give role.Operator (command.Cancel name) = false
may_give role.Operator (command.Reduce name to) = false
may_give role.Operator _ = true

-- the role of a caller: nobody else has one
abbrev pub role_of : Setup → (caller : ℕ) → Option Role
role_of setup caller = option_map (λ found. found.role) (slice_get setup.callers caller)

-- the caller may give the command
abbrev pub has_right : Setup → (caller : ℕ) → Command → Bool
has_right setup caller given = option_map_or (λ role. may_give role given) (role_of setup caller) false

-- the hours that a command names
abbrev pub hours_named : Command → List ℕ
hours_named (command.Enter order) = order.contract.hour ∷ []
hours_named (command.EnterBlock order) = order.first ∷ order.last ∷ []
hours_named (command.EnterBasket orders) = map (λ order. order.contract.hour) orders
hours_named (command.Cancel name) = name.hour ∷ []
hours_named (command.Reduce name to) = name.hour ∷ []
hours_named (command.Blocks first last) = first ∷ last ∷ []
hours_named (command.Offer from to first last lots) = first.hour ∷ last.hour ∷ []
hours_named (command.Request from to first last lots) = first.hour ∷ last.hour ∷ []
hours_named (command.Halt from to first last) = first ∷ last ∷ []
hours_named (command.Resume from to first last) = first ∷ last ∷ []
hours_named (command.Gate hour phase) = hour ∷ []
hours_named (command.View contract side zone) = contract.hour ∷ []

-- the parts of hours that a command names
abbrev pub parts_named : Command → List Part
parts_named (command.Enter order) = order.contract.part ∷ []
parts_named (command.EnterBasket orders) = map (λ order. order.contract.part) orders
parts_named (command.Offer from to first last lots) = part.Quarter first.number ∷ part.Quarter last.number ∷ []
parts_named (command.Request from to first last lots) = part.Quarter first.number ∷ part.Quarter last.number ∷ []
parts_named (command.View contract side zone) = contract.part ∷ []
parts_named _ = []

-- the zones that a command names
abbrev pub zones_named : Command → List ℕ
zones_named (command.Enter order) = order.zone ∷ []
zones_named (command.EnterBlock order) = order.zone ∷ []
zones_named (command.EnterBasket orders) = map (λ order. order.zone) orders
zones_named (command.Offer from to first last lots) = from ∷ to ∷ []
zones_named (command.Request from to first last lots) = from ∷ to ∷ []
zones_named (command.Halt from to first last) = from ∷ to ∷ []
zones_named (command.Resume from to first last) = from ∷ to ∷ []
zones_named (command.View contract side zone) = zone ∷ []
zones_named _ = []

-- the border that a command names is there
abbrev pub border_is_known : Graph → Command → Bool
border_is_known graph (command.Offer from to first last lots) = is_some (arc_between graph from to)
border_is_known graph (command.Request from to first last lots) = is_some (arc_between graph from to)
border_is_known graph (command.Halt from to first last) = is_some (arc_between graph from to)
border_is_known graph (command.Resume from to first last) = is_some (arc_between graph from to)
border_is_known graph _ = true

-- a block covers 2 to 24 hours
abbrev pub is_block_period : (first last : ℕ) → Bool
is_block_period first last = nat_lt first last && nat_le (last + 1 - first) 24

-- the period that a command names is one: a block's, or a range whose first does not come after its
-- last
abbrev pub period_is_good : Command → Bool
period_is_good (command.EnterBlock order) = is_block_period order.first order.last
period_is_good (command.Blocks first last) = is_block_period first last
period_is_good (command.Offer from to first last lots) = is_not_after first last
period_is_good (command.Request from to first last lots) = is_not_after first last
period_is_good (command.Halt from to first last) = nat_le first last
period_is_good (command.Resume from to first last) = nat_le first last
period_is_good _ = true

-- numbers that ascend strictly
abbrev pub ascends : List ℕ → Bool
ascends [] = true
ascends (a ∷ []) = true
ascends (a ∷ b ∷ ns) = nat_lt a b && ascends (b ∷ ns)

-- a basket is 2 to 8 fill-or-kill orders of ascending hours
abbrev pub basket_is_good : Command → Bool
basket_is_good (command.EnterBasket orders) =
    is_within 2 8 (length orders) && ascends (map (λ order. order.contract.hour) orders)
    && list_all (λ order. is_fill_or_kill order.kind) orders
basket_is_good _ = true

-- the prices that a command names
abbrev pub prices_named : Command → List Price
prices_named (command.Enter order) = order.price ∷ []
prices_named (command.EnterBlock order) = order.price ∷ []
prices_named (command.EnterBasket orders) = map (λ order. order.price) orders
prices_named _ = []

-- the quantities that a command names, in the range of an order's; of an offer see below
abbrev pub quantities_named : Command → List Lots
quantities_named (command.Enter order) = order.quantity ∷ []
quantities_named (command.EnterBlock order) = order.quantity ∷ []
quantities_named (command.EnterBasket orders) = map (λ order. order.quantity) orders
quantities_named (command.Reduce name to) = record { 0 = to } ∷ []
quantities_named (command.Request from to first last lots) = record { 0 = lots } ∷ []
quantities_named _ = []

-- an offer is at most 100000.0 MW
abbrev pub offer_in_range : Command → Bool
offer_in_range (command.Offer from to first last lots) = nat_le lots most_offered
offer_in_range _ = true

-- an order that a command enters by itself has allowed peaks
abbrev pub peaks_are_good : Command → Bool
peaks_are_good (command.Enter order) = has_allowed_peaks order
peaks_are_good _ = true

-- the refusal where a test does not hold
abbrev pub unless : Bool → Refusal → Option Refusal
unless true broken = None
unless false broken = Some broken

-- the first rule of several that is broken; only what is asked for is computed, so each rule is a
-- function
abbrev pub first_broken : List (Unit {0} → Option Refusal) → Option Refusal
first_broken rules = first_answer (λ rule. rule tt) rules

-- the rules on who asks and what is named: the role, the hours, the parts of hours, the zones, the
-- border, the period, the orders of a basket
abbrev pub naming_rules : Setup → (caller : ℕ) → Command → List (Unit {0} → Option Refusal)
naming_rules setup caller given =
    (λ _. unless (has_right setup caller given) refusal.WrongRole)
    ∷ (λ _. unless (list_all (is_within 1 setup.hours) (hours_named given)) refusal.UnknownHour)
    ∷ (λ _. unless (list_all is_known (parts_named given)) refusal.UnknownContract)
    ∷ (λ _. unless (list_all (λ zone. nat_lt zone (zone_count (graph_of setup))) (zones_named given)) refusal.UnknownZone)
    ∷ (λ _. unless (border_is_known (graph_of setup) given) refusal.UnknownBorder)
    ∷ (λ _. unless (period_is_good given) refusal.BadPeriod)
    ∷ (λ _. unless (basket_is_good given) refusal.BadBasket)
    ∷ []

-- the first of them that is broken
unfoldable pub naming_refusal : Setup → (caller : ℕ) → Command → Option Refusal
naming_refusal setup caller given = first_broken (naming_rules setup caller given)

-- the rules on the numbers of orders: prices, quantities, peaks
abbrev pub numbers_rules : Command → List (Unit {0} → Option Refusal)
numbers_rules given =
    (λ _. unless (list_all price_in_range (prices_named given)) refusal.PriceOutOfRange)
    ∷ (λ _. unless (list_all lots_in_range (quantities_named given) && offer_in_range given) refusal.QuantityOutOfRange)
    ∷ (λ _. unless (peaks_are_good given) refusal.BadPeak)
    ∷ []

-- the first of them that is broken
unfoldable pub numbers_refusal : Command → Option Refusal
numbers_refusal given = first_broken (numbers_rules given)

-- the first rule that a command breaks by itself
abbrev pub early_refusal : Setup → (caller : ℕ) → Command → Option Refusal
early_refusal setup caller given = first_broken (
    (λ _. naming_refusal setup caller given) ∷ (λ _. numbers_refusal given) ∷ [])

-- the hours that a command concerns: those that it names, and for periods and ranges all between
abbrev pub hours_concerned : Command → List ℕ
hours_concerned (command.EnterBlock order) = hours_from order.first order.last
hours_concerned (command.Blocks first last) = hours_from first last
hours_concerned (command.Offer from to first last lots) = hours_from first.hour last.hour
hours_concerned (command.Request from to first last lots) = hours_from first.hour last.hour
hours_concerned (command.Halt from to first last) = hours_from first last
hours_concerned (command.Resume from to first last) = hours_from first last
hours_concerned given = hours_named given

-- the hours that a command touches, ascending: none where a rule on who asks and what is named
-- refuses it
abbrev pub touched_hours : Setup → (caller : ℕ) → Command → List ℕ
touched_hours setup caller given =
    if is_none (naming_refusal setup caller given) then hours_concerned given else []
