-- The sweep of an hour: resting orders that can trade do, until none can. The order of parts is this
-- market's own.
use Rattle.std.specs.Prelude.{ℕ, ◌==◌, List, [], ◌∷◌, ◌++◌, filter, sum_by, Option, Some, None, if◌then◌else◌}
use Rattle.std.specs.Ordering.{is_lt}
use Rattle.order_kinds.specs.declared.contract.Contract.{Contract}
use Rattle.order_kinds.specs.declared.contract.Part.{Part}
use Rattle.order_kinds.specs.declared.contract.Part.TheVariants as part
use Rattle.order_kinds.specs.declared.side.Side.TheVariants.{Buy}
use Rattle.zone_graph.specs.Graph.{Graph}
use Rattle.zone_graph.specs.Steps.{IsRun, steps}
use Rattle.market_model.specs.declared.event.Event.{Event}
use Rattle.market_model.specs.History.{and_then}
use Rattle.market_model.specs.Lines.{line, partner, time_cmp}
use Rattle.market_model.specs.Orders.{Standing, left, placed}
use Rattle.market_model.specs.Taking.{trade, ◌>>=◌}

-- an option, or else another one; only what is asked for is computed, so the other one is a function
abbrev pub or_else : {X : Type 0} → Option X → (Unit {0} → Option X) → Option X
or_else None other = other tt
or_else (Some x) other = Some x

-- the first answer that there is
abbrev pub first_answer : {X Y : Type 0} → (X → Option Y) → List X → Option Y
first_answer ask [] = None
first_answer ask (x ∷ xs) = or_else (ask x) (λ _. first_answer ask xs)

-- the parts of an hour in the order in which a sweep tries them: the hour, its halves, its quarters
abbrev pub all_parts : List Part
all_parts =
    part.Hour ∷ part.Half 1 ∷ part.Half 2 ∷ part.Quarter 1 ∷ part.Quarter 2 ∷ part.Quarter 3 ∷ part.Quarter 4 ∷ []

-- the same without halves
abbrev pub parts_without_halves : List Part
parts_without_halves = part.Hour ∷ part.Quarter 1 ∷ part.Quarter 2 ∷ part.Quarter 3 ∷ part.Quarter 4 ∷ []

-- the leg of two resting orders: the one that was there earlier is the maker
abbrev pub resting_trade : Graph → List Event → (buy sell : Standing) → Option Event
resting_trade graph events buy sell =
    if is_lt (time_cmp buy sell) then trade graph events sell buy else trade graph events buy sell

-- the leg of a buy with its partner, where it has one
abbrev pub leg_of_buy : Graph → List Event → (buy : Standing) → Option Event
leg_of_buy graph events buy = partner graph events buy >>= resting_trade graph events buy

-- the leg of the first buy of a contract's line that has a partner
abbrev pub leg_in : Graph → List Event → Contract → Option Event
leg_in graph events contract = first_answer (leg_of_buy graph events) (line events contract Buy)

-- the next leg of an hour's sweep: in the first part that has one
unfoldable pub sweep_leg : List Part → Graph → (hour : ℕ) → List Event → Option Event
sweep_leg parts graph hour events =
    first_answer (λ part. leg_in graph events (record { hour = hour; part = part })) parts

-- what is left of all orders of an hour
abbrev pub left_in_hour : List Event → (hour : ℕ) → ℕ
left_in_hour events hour =
    sum_by (λ order. left events order.name) (filter (λ order. order.name.hour == hour) (placed events))

-- the legs of an hour's sweep: each lowers what is left in the hour, so there are no more than that
unfoldable pub sweep : List Part → Graph → (hour : ℕ) → List Event → List Event
sweep parts graph hour events = steps (left_in_hour events hour) (sweep_leg parts graph hour) and_then events

-- these are the legs of the sweep: each is the next one, and after the last there is none
abbrev pub IsSweep : List Part → Graph → (hour : ℕ) → List Event → List Event → Type 0
IsSweep parts graph hour events legs = IsRun (sweep_leg parts graph hour) and_then events legs

-- the sweeps of several hours, one after the other
abbrev pub sweeps : List Part → Graph → (hours : List ℕ) → List Event → List Event
sweeps parts graph [] events = []
sweeps parts graph (hour ∷ hours) events =
    let legs = sweep parts graph hour events in legs ++ sweeps parts graph hours (events ++ legs)
