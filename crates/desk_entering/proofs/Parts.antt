-- The events of an order that enters, in parts.
use Rattle.std.proofs.Common.{◌≡◌, ◌∙◌, ℕ, List, [], ◌∷◌, ◌++◌, append_assoc, ap}
use Rattle.order_kinds.specs.declared.order.Order.{Order}
use Rattle.zone_graph.specs.Graph.{Graph}
use Rattle.market_model.specs.declared.event.Event.{Event}
use Rattle.market_model.specs.declared.event.Event.TheVariants as event
use Rattle.market_model.specs.Entering.{legs_taken, name_of_next, rest_of, rest_withdrawn}
use Rattle.desk_entering.specs.Entries.{ended_events}

-- those until its taking has ended
abbrev pub own_events : Graph → List Event → (caller : ℕ) → Order → List Event
own_events graph events caller order =
    ((event.Entered (name_of_next events order) caller order ∷ []) ++ legs_taken graph events caller order)
    ++ rest_withdrawn order.kind (name_of_next events order) (rest_of graph events caller order)

pub ended-is : (graph : Graph) (events : List Event) (caller : ℕ) (order : Order) → ended_events graph events caller order ≡ events ++ own_events graph events caller order
ended-is graph events caller order =
    let entry : List Event = event.Entered (name_of_next events order) caller order ∷ [] in
    let legs : List Event = legs_taken graph events caller order in
    let rest : List Event = rest_withdrawn order.kind (name_of_next events order) (rest_of graph events caller order) in
    ap (λ es. es ++ rest) (append_assoc events entry legs) ∙ append_assoc events (entry ++ legs) rest
