-- Contracts that are quiet: no two of their resting orders trade. What leaves them so needs no sweep.
use Rattle.std.specs.Prelude.{◌≡◌, ◌≢◌, ℕ, ◌<◌, ◌≤◌, Bool, true, false, ◌==◌, ◌&&◌, List, [], ◌++◌, None}
use Rattle.order_kinds.specs.declared.contract.Contract.{Contract}
use Rattle.order_kinds.specs.declared.contract.Quarter.{Quarter}
use Rattle.order_kinds.specs.declared.order.BlockOrder.{BlockOrder}
use Rattle.order_kinds.specs.declared.order.Order.{Order}
use Rattle.order_kinds.specs.declared.order.OrderName.{OrderName}
use Rattle.order_kinds.specs.declared.phase.Phase.{Phase}
use Rattle.order_kinds.specs.Period.{block_has, block_quarters, contract_has, contract_quarters, is_within, range_has}
use Rattle.zone_graph.specs.declared.route.Arc.{Arc}
use Rattle.zone_graph.specs.Graph.{Graph, HasArc}
use Rattle.zone_graph.specs.Pour.{opposite_arc, same_arc, uses}
use Rattle.zone_graph.specs.Route.{IsIn}
use Rattle.market_model.specs.declared.event.Event.{Event}
use Rattle.market_model.specs.declared.event.Event.TheVariants as event
use Rattle.market_model.specs.declared.event.Leg.{Leg}
use Rattle.market_model.specs.declared.setup.Setup.{Setup}
use Rattle.market_model.specs.Board.{IsHourOf}
use Rattle.market_model.specs.Grid.{graph_of}
use Rattle.market_model.specs.History.{and_then, touches}
use Rattle.market_model.specs.Room.{quarter_room, room}
use Rattle.market_model.specs.Sweep.{leg_in}
use Rattle.market_model.specs.Taking.{IsTaking}
use Rattle.market_model.specs.WellFormed.{FitAfter, Fits, IsMarketSetup}
use Rattle.laws_of_boards.specs.Fronts.{OpensNoArc}

-- a contract is quiet: it has no leg in a sweep
abbrev pub IsQuiet : Setup → List Event → Contract → Type 0
IsQuiet setup events contract = leg_in (graph_of setup) events contract ≡ None

-- a contract that was quiet is so after one more event that fits those before
abbrev pub StaysQuiet : Setup → (before : List Event) → Event → Contract → Type 0
StaysQuiet setup before event contract = IsMarketSetup setup → FitAfter setup [] before → Fits setup before event
    → IsQuiet setup before contract → IsQuiet setup (and_then before event) contract

-- an event is aside of a contract: it enters no order of it and is no leg of it
abbrev pub IsAside : Contract → Event → Type 0
IsAside contract (event.Entered name caller order) = order.contract ≢ contract
IsAside contract (event.Leg traded leg) = traded ≢ contract
IsAside contract _ = Unit {0}

-- an event can raise the room of an arc in a quarter: a leg and a grant that of the opposite arc, an
-- offer that of its own arc, a resumption those of both arcs of its border
abbrev pub raises : Event → Quarter → Arc → Bool
raises (event.Leg contract leg) quarter arc = contract_has contract quarter && uses leg.route (opposite_arc arc)
raises (event.BlockLeg first last leg) quarter arc = block_has first last quarter && uses leg.route (opposite_arc arc)
raises (event.Granted granted first last lots) quarter arc = range_has first last quarter && same_arc granted (opposite_arc arc)
raises (event.Offered offered first last lots) quarter arc = range_has first last quarter && same_arc offered arc
raises (event.Resumed border first last) quarter arc = (border == arc.border) && is_within first last quarter.hour
raises _ quarter arc = false

-- an arc has room already in those quarters of a contract that pass a test
abbrev pub HasRoomWhere : List Event → Contract → Arc → (Quarter → Bool) → Type 0
HasRoomWhere events contract arc test = (quarter : Quarter) → IsIn quarter (contract_quarters contract) → test quarter ≡ true
    → 0 < quarter_room events arc quarter

-- ---- any event

-- no room rises but those that the event can raise
abbrev pub EventsRaiseTheirArcsAlone : Type 0
EventsRaiseTheirArcsAlone = (setup : Setup) (before : List Event) (event : Event) (quarter : Quarter) (arc : Arc) → Fits setup before event
    → raises event quarter arc ≡ false → quarter_room (and_then before event) arc quarter ≤ quarter_room before arc quarter

-- what is aside of a contract leaves it quiet where no arc got its first room over its quarters
abbrev pub UnopenedContractsStayQuiet : Type 0
UnopenedContractsStayQuiet = (setup : Setup) (before : List Event) (event : Event) (contract : Contract) → IsAside contract event
    → OpensNoArc (graph_of setup) contract before (and_then before event) → StaysQuiet setup before event contract

-- so it does where each arc had room already in those quarters in which the event can raise it
abbrev pub EventsStayQuietWhereThereWasRoom : Type 0
EventsStayQuietWhereThereWasRoom = (setup : Setup) (before : List Event) (event : Event) (contract : Contract) → IsAside contract event
    → ((arc : Arc) → HasArc (graph_of setup) arc → HasRoomWhere before contract arc (λ quarter. raises event quarter arc))
    → StaysQuiet setup before event contract

-- what does not touch an hour leaves each contract of it quiet
abbrev pub OtherHoursStayQuiet : Type 0
OtherHoursStayQuiet = (setup : Setup) (before : List Event) (event : Event) (contract : Contract) → touches contract.hour event ≡ false
    → StaysQuiet setup before event contract

-- ---- orders

-- a withdrawal and a reduction leave each contract quiet
abbrev pub WithdrawalsStayQuiet : Type 0
WithdrawalsStayQuiet = (setup : Setup) (before : List Event) (name : OrderName) (lots : ℕ) (contract : Contract)
    → StaysQuiet setup before (event.Withdrawn name lots) contract

abbrev pub ReductionsStayQuiet : Type 0
ReductionsStayQuiet = (setup : Setup) (before : List Event) (name : OrderName) (by : ℕ) (contract : Contract)
    → StaysQuiet setup before (event.Reduced name by) contract

-- an order that enters leaves each other contract quiet
abbrev pub EntriesStayQuiet : Type 0
EntriesStayQuiet = (setup : Setup) (before : List Event) (name : OrderName) (caller : ℕ) (order : Order) (contract : Contract)
    → order.contract ≢ contract → StaysQuiet setup before (event.Entered name caller order) contract

-- a leg leaves each other contract quiet where the opposite arc of each arc of its route had room over
-- the leg's own contract
abbrev pub LegsStayQuiet : Type 0
LegsStayQuiet = (setup : Setup) (before : List Event) (traded : Contract) (leg : Leg) (contract : Contract) → traded ≢ contract
    → ((arc : Arc) → IsIn arc leg.route → 0 < room before (contract_quarters traded) (opposite_arc arc))
    → StaysQuiet setup before (event.Leg traded leg) contract

-- and one that delivers in none of the leg's quarters whatever room there was
abbrev pub LegsStayQuietApart : Type 0
LegsStayQuietApart = (setup : Setup) (before : List Event) (traded : Contract) (leg : Leg) (contract : Contract) → traded ≢ contract
    → ((quarter : Quarter) → IsIn quarter (contract_quarters contract) → contract_has traded quarter ≡ false)
    → StaysQuiet setup before (event.Leg traded leg) contract

-- ---- blocks

-- a block that enters leaves each contract quiet
abbrev pub BlockEntriesStayQuiet : Type 0
BlockEntriesStayQuiet = (setup : Setup) (before : List Event) (name : OrderName) (caller : ℕ) (order : BlockOrder) (contract : Contract)
    → StaysQuiet setup before (event.EnteredBlock name caller order) contract

-- a leg of blocks leaves a contract quiet where the opposite arc of each arc of its route had room over
-- the period
abbrev pub BlockLegsStayQuiet : Type 0
BlockLegsStayQuiet = (setup : Setup) (before : List Event) (first last : ℕ) (leg : Leg) (contract : Contract)
    → ((arc : Arc) → IsIn arc leg.route → 0 < room before (block_quarters first last) (opposite_arc arc))
    → StaysQuiet setup before (event.BlockLeg first last leg) contract

-- ---- arcs, borders and hours

-- an offer leaves a contract quiet where its arc had room in those quarters of the contract that it is for
abbrev pub OffersStayQuiet : Type 0
OffersStayQuiet = (setup : Setup) (before : List Event) (arc : Arc) (first last : Quarter) (lots : ℕ) (contract : Contract)
    → HasRoomWhere before contract arc (range_has first last) → StaysQuiet setup before (event.Offered arc first last lots) contract

-- a grant where the opposite arc had
abbrev pub GrantsStayQuiet : Type 0
GrantsStayQuiet = (setup : Setup) (before : List Event) (arc : Arc) (first last : Quarter) (lots : ℕ) (contract : Contract)
    → HasRoomWhere before contract (opposite_arc arc) (range_has first last) → StaysQuiet setup before (event.Granted arc first last lots) contract

-- a resumption where both arcs of its border had, and in each contract of an hour that it is not for
abbrev pub ResumptionsStayQuiet : Type 0
ResumptionsStayQuiet = (setup : Setup) (before : List Event) (border first last : ℕ) (contract : Contract)
    → ((arc : Arc) → arc.border ≡ border → HasRoomWhere before contract arc (λ quarter. is_within first last quarter.hour))
    → StaysQuiet setup before (event.Resumed border first last) contract

-- a halt and a gate leave each contract quiet
abbrev pub HaltsStayQuiet : Type 0
HaltsStayQuiet = (setup : Setup) (before : List Event) (border first last : ℕ) (contract : Contract)
    → StaysQuiet setup before (event.Halted border first last) contract

abbrev pub GatesStayQuiet : Type 0
GatesStayQuiet = (setup : Setup) (before : List Event) (hour : ℕ) (phase : Phase) (contract : Contract)
    → StaysQuiet setup before (event.Gated hour phase) contract

-- ---- the contract of an order that comes in

-- a contract that was quiet is so after an order of it entered and took until it had no next leg
abbrev pub TakersLeaveTheirContractQuiet : Type 0
TakersLeaveTheirContractQuiet = (setup : Setup) (before : List Event) (name : OrderName) (caller : ℕ) (order : Order) (legs : List Event)
    → IsMarketSetup setup → FitAfter setup [] before → Fits setup before (event.Entered name caller order)
    → IsTaking (graph_of setup) (and_then before (event.Entered name caller order)) name legs
    → IsQuiet setup before order.contract → IsQuiet setup (and_then before (event.Entered name caller order) ++ legs) order.contract

-- and after what is left of the order is withdrawn
abbrev pub WithdrawnTakersLeaveTheirContractQuiet : Type 0
WithdrawnTakersLeaveTheirContractQuiet = (setup : Setup) (before : List Event) (name : OrderName) (caller : ℕ) (order : Order) (legs : List Event) (lots : ℕ)
    → IsMarketSetup setup → FitAfter setup [] before → Fits setup before (event.Entered name caller order)
    → IsTaking (graph_of setup) (and_then before (event.Entered name caller order)) name legs
    → Fits setup (and_then before (event.Entered name caller order) ++ legs) (event.Withdrawn name lots)
    → IsQuiet setup before order.contract
    → IsQuiet setup (and_then (and_then before (event.Entered name caller order) ++ legs) (event.Withdrawn name lots)) order.contract

-- and by the events of an hour alone
abbrev pub TakersOfAnHourLeaveTheirContractQuiet : Type 0
TakersOfAnHourLeaveTheirContractQuiet = (graph : Graph) (hour : ℕ) (before : List Event) (name : OrderName) (caller : ℕ) (order : Order) (legs : List Event)
    → IsHourOf graph hour (and_then before (event.Entered name caller order)) → order.contract.hour ≡ hour
    → IsTaking graph (and_then before (event.Entered name caller order)) name legs
    → leg_in graph before order.contract ≡ None → leg_in graph (and_then before (event.Entered name caller order) ++ legs) order.contract ≡ None
