-- What the events come to of each order and block of an hour, by its number.
use Rattle.std.specs.Prelude.{◌≡◌, ◌≢◌, ℕ, ◌+◌, ◌-◌, ◌<◌, ◌≤◌, ◌^◌, List, [], ◌∷◌, ◌++◌, count_by, filter, length, slice_index_or, take, if◌then◌else◌}
use Rattle.order_kinds.specs.declared.order.Kind.{Kind}
use Rattle.order_kinds.specs.declared.order.Kind.TheVariants as kind
use Rattle.order_kinds.specs.declared.order.OrderName.{OrderName}
use Rattle.order_kinds.specs.Same.{same_name}
use Rattle.zone_graph.specs.Route.{IsIn}
use Rattle.market_model.specs.declared.event.Event.{Event}
use Rattle.market_model.specs.declared.event.Event.TheVariants as event
use Rattle.market_model.specs.Blocks.{StandingBlock}
use Rattle.market_model.specs.History.{enters_in, of_hour}
use Rattle.market_model.specs.Orders.{Placed, PlacedBlock, Standing, block_moment, blocks_placed, ends_peak, filled, left, moment, names, placed, price_now, shown_lots}
use Rattle.event_history.specs.ByHour.{listed}
use Rattle.plain_orders.specs.declared.tally.Change.{Change}
use Rattle.plain_orders.specs.declared.tally.OrderSums.{OrderSums}
use Rattle.plain_orders.specs.declared.tally.Change.TheVariants as change
use Rattle.plain_orders.specs.declared.tally.Tally.{Tally}

-- how many orders and blocks entered that are named by an hour
abbrev pub entered_in : List Event → (hour : ℕ) → ℕ
entered_in events hour = count_by (enters_in hour) events

-- the name of the order or block of this number in an hour
abbrev pub name_in : (hour number : ℕ) → OrderName
name_in hour number = record { hour = hour; number = number }

-- an iceberg shows something at a time
abbrev pub HasPeak : Kind → Type 0
HasPeak (kind.Iceberg peak delta) = 1 ≤ peak.0
HasPeak _ = Unit {0}

-- so many lots can be filled: they are left
pub record CanFill (lots : ℕ) (tally : Tally) : Type 0 where
  pub has : lots ≤ tally.left
  pub fits : tally.filled + lots < 2 ^ 32

-- so many lots of an order can be filled
pub record CanTrade (lots : ℕ) (tally : Tally) : Type 0 where
  pub has : lots ≤ tally.left
  pub fits : tally.filled + lots < 2 ^ 32
  pub peak : HasPeak tally.kind

-- an order or block can change so
abbrev pub CanChange : Change → Tally → Type 0
CanChange (change.Trades lots moment) tally = CanTrade lots tally
CanChange (change.Deals lots) tally = CanFill lots tally
CanChange (change.Falls lots) tally = lots ≤ tally.left

-- what an order comes to after a leg of so many lots
abbrev pub traded : (lots moment : ℕ) → Tally → Tally
traded lots moment tally = record {
  filled = tally.filled + lots;
  left = tally.left - lots;
  moment = if ends_peak tally.kind (tally.filled + lots) then moment else tally.moment;
  kind = tally.kind;
  place = tally.place;
}

-- what an order or block comes to after one more change
abbrev pub changed : Change → Tally → Tally
changed (change.Trades lots moment) tally = traded lots moment tally
changed (change.Deals lots) tally = record { filled = tally.filled + lots; left = tally.left - lots; moment = tally.moment; kind = tally.kind; place = tally.place }
changed (change.Falls lots) tally = record { filled = tally.filled; left = tally.left - lots; moment = tally.moment; kind = tally.kind; place = tally.place }

-- what a new order or block comes to
abbrev pub entering : (left moment : ℕ) → Kind → (place : ℕ) → Tally
entering left moment kind place = record { filled = 0; left = left; moment = moment; kind = kind; place = place }

-- what nothing has entered comes to
abbrev pub nothing : Tally
nothing = entering 0 0 kind.Limit 0

-- with a place for what an event enters by the hour
abbrev pub with_place : (hour : ℕ) → Event → List Tally → List Tally
with_place hour event tallies = if enters_in hour event then tallies ++ nothing ∷ [] else tallies

-- what the order or block of a name comes to after an event, which is the one of this moment and stands at this place
abbrev pub after_event : OrderName → (moment place : ℕ) → Event → Tally → Tally
after_event name moment place (event.Entered given caller order) tally =
    if same_name given name then entering order.quantity.0 moment order.kind place else tally
after_event name moment place (event.EnteredBlock given caller order) tally =
    if same_name given name then entering order.quantity.0 moment kind.Limit place else tally
after_event name moment place (event.Leg contract leg) tally =
    if names leg name then traded leg.lots moment tally else tally
after_event name moment place (event.BlockLeg first last leg) tally =
    if names leg name then changed (change.Deals leg.lots) tally else tally
after_event name moment place (event.Withdrawn given lots) tally =
    if same_name given name then changed (change.Falls lots) tally else tally
after_event name moment place (event.Reduced given by) tally =
    if same_name given name then changed (change.Falls by) tally else tally
after_event name moment place _ tally = tally

-- the order or block of a name, where it is of the hour, has a place and can change so
abbrev pub CanApply : (hour : ℕ) → OrderName → Change → List Tally → Type 0
CanApply hour name change tallies = name.hour ≡ hour
    → (name.number < length tallies) × ((d : Tally) → CanChange change (slice_index_or tallies name.number d))

-- an event can be taken in
abbrev pub CanTakeIn : (hour : ℕ) → Event → List Tally → Type 0
CanTakeIn hour (event.Entered given caller order) tallies = given.hour ≡ hour → given.number + 1 ≡ length tallies
CanTakeIn hour (event.EnteredBlock given caller order) tallies = given.hour ≡ hour → given.number + 1 ≡ length tallies
CanTakeIn hour (event.Leg contract leg) tallies = (leg.taker ≢ leg.maker)
    × ((moment : ℕ) → CanApply hour leg.taker (change.Trades leg.lots moment) tallies)
    × ((moment : ℕ) → CanApply hour leg.maker (change.Trades leg.lots moment) tallies)
CanTakeIn hour (event.BlockLeg first last leg) tallies = (leg.taker ≢ leg.maker)
    × CanApply hour leg.taker (change.Deals leg.lots) tallies × CanApply hour leg.maker (change.Deals leg.lots) tallies
CanTakeIn hour (event.Withdrawn given lots) tallies = CanApply hour given (change.Falls lots) tallies
CanTakeIn hour (event.Reduced given by) tallies = CanApply hour given (change.Falls by) tallies
CanTakeIn hour _ tallies = Unit {0}

-- a tally says what the events come to of the order or block of a name
pub record Tells (events : List Event) (name : OrderName) (tally : Tally) : Type 0 where
  pub filled : tally.filled ≡ filled events name
  pub left : tally.left ≡ left events name
  pub order_moment : (order : Placed) → IsIn order (placed events) → order.name ≡ name → tally.moment ≡ moment events order
  pub order_kind : (order : Placed) → IsIn order (placed events) → order.name ≡ name → tally.kind ≡ order.order.kind
  pub block_moment : (block : PlacedBlock) → IsIn block (blocks_placed events) → block.name ≡ name → tally.moment ≡ block_moment events block

-- each tally says what the events come to of the order or block of its number
abbrev pub AreTallies : List Event → (hour : ℕ) → List Tally → Type 0
AreTallies events hour tallies = (number : ℕ) (d : Tally) → number < length tallies
    → Tells events (name_in hour number) (slice_index_or tallies number d)

-- what is left of the order or block of a number by the tallies: nothing where none has it
abbrev pub left_at : List Tally → (number : ℕ) → ℕ
left_at tallies number = (slice_index_or tallies number nothing).left

-- the events of a list that enter an order or block by an hour
abbrev pub entries : (hour : ℕ) → List Event → List Event
entries hour events = filter (enters_in hour) events

-- the event of this place is the one of this number among those that enter, counted from 0
pub record IsPlaceOf (list entering : List Event) (number place : ℕ) : Type 0 where
  pub within : place < length list
  pub is : (e : Event) → slice_index_or list place e ≡ slice_index_or entering number e

-- each tally but the first tells the place of the event that entered its order or block
abbrev pub ArePlaces : (list : List Event) (hour : ℕ) → List Tally → Type 0
ArePlaces list hour tallies = (number : ℕ) (d : Tally) → number < length (entries hour list)
    → IsPlaceOf list (entries hour list) number (slice_index_or tallies (number + 1) d).place

-- the tallies of an hour after some events, how many of the events touch it, and how many are in its list
pub record AreSumsOf (events : List Event) (hour : ℕ) (tallies : List Tally) (moment place : ℕ) : Type 0 where
  pub size : length tallies ≡ entered_in events hour + 1
  pub tell : AreTallies events hour tallies
  pub places : ArePlaces (listed hour events) hour tallies
  pub moment_is : moment ≡ length (of_hour hour events)
  pub place_is : place ≡ length (listed hour events)

-- these are the sums of an hour over the first of some events
pub record AreSums (events : List Event) (hour : ℕ) (sums : OrderSums) : Type 0 where
  pub most : sums.count ≤ length events
  pub of_first : AreSumsOf (take sums.count events) hour sums.tallies.items sums.moment sums.place

-- the sums are those over all of some events
abbrev pub AreCurrent : List Event → OrderSums → Type 0
AreCurrent events sums = sums.count ≡ length events

-- an order, and a block, as it stands by its tally
abbrev pub standing_by : Tally → Placed → Standing
standing_by tally order = record {
  name = order.name;
  caller = order.caller;
  order = order.order;
  filled = tally.filled;
  left = tally.left;
  shown = shown_lots order.order.kind tally.filled tally.left;
  price = price_now order.order tally.filled;
  moment = tally.moment;
}

abbrev pub standing_block_by : Tally → PlacedBlock → StandingBlock
standing_block_by tally block = record { name = block.name; order = block.order; left = tally.left; moment = tally.moment }
