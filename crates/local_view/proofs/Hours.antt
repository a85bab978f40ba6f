-- The lines and views of an hour, from its events alone.
use Rattle.std.proofs.Common.{◌≡◌, ◌∙◌, ◌+◌, ◌<◌, inl, ℕ, Bool, true, false, List, [], ◌∷◌, map, refl, sym, ap, subst, arith}
use Rattle.std.proofs.lemmas.List.{get_or-map}
use Rattle.std.proofs.lemmas.List.FromFn.{get_or-range_with_len, length-range_with_len}
use Rattle.std.specs.List.{range_with_len}
use Rattle.order_kinds.specs.declared.contract.Contract.{Contract}
use Rattle.order_kinds.specs.declared.side.Side.{Side}
use Rattle.order_kinds.specs.Contract.{contract_at}
use Rattle.order_kinds.specs.Period.{contract_quarters}
use Rattle.zone_graph.specs.declared.route.Arc.{Arc}
use Rattle.zone_graph.specs.Graph.{Graph, HasArc, HasZone, IsGraph, border_count}
use Rattle.zone_graph.specs.Rooms.{part_of, room_of}
use Rattle.zone_graph.specs.Route.{IsIn}
use Rattle.market_model.specs.declared.event.Event.{Event}
use Rattle.market_model.specs.Board.{IsHourOf}
use Rattle.market_model.specs.Grid.{graph_of}
use Rattle.market_model.specs.Lines.{line}
use Rattle.market_model.specs.Orders.{Standing}
use Rattle.market_model.specs.Room.{room}
use Rattle.market_model.specs.View.{view}
use Rattle.market_model.specs.WellFormed.{IsLegalOver}
use Rattle.laws_of_market.proofs.Placed.{all_are_sound}
use Rattle.laws_of_market.proofs.Trades.{from_line}
use Rattle.laws_of_market.proofs.LocalAnswers.{view-agree}
use Rattle.laws_of_market.proofs.LocalLines.{contract-hours, line-agree}
use Rattle.laws_of_market.proofs.LocalStates.{Agree, room-agree}
use Rattle.laws_of_market.proofs.OfHours.{one-agrees}
use Rattle.laws_of_rows.specs.Depth.{maker_of}
use Rattle.laws_of_rows.specs.Filled.{rows_with}
use Rattle.laws_of_rows.proofs.Views.{view-is}
use Rattle.laws_of_views.proofs.LineMakers.{makers-cross, makers-once}
use Rattle.laws_of_views.proofs.FirstMakers.{AllCross, AreOnce}
use Rattle.local_view.specs.Poured.{rows_taken}
use Rattle.local_view.proofs.Walking.{walked, walked-trades}

-- a room of each arc, as a row of rooms
pub rooms_like : (borders : ℕ) → (Arc → ℕ) → List (ℕ × ℕ)
rooms_like borders own = map (λ border. (own (record { border = border; forward = true }), own (record { border = border; forward = false }))) (range_with_len 0 borders)

pub room-like : (borders : ℕ) (own : Arc → ℕ) (arc : Arc) → arc.border < borders → room_of (rooms_like borders own) arc ≡ own arc
unfolding rooms_like
room-like borders own arc there =
    let pair : ℕ → ℕ × ℕ = λ border. (own (record { border = border; forward = true }), own (record { border = border; forward = false })) in
    ap (part_of arc.forward)
    (get_or-map pair (range_with_len 0 borders) arc.border 0 (0, 0) (let size = length-range_with_len 0 borders in omega (arith, there, size))
    ∙ ap pair (get_or-range_with_len 0 borders arc.border 0 there ∙ (let plain : 0 + arc.border ≡ arc.border = omega arith in plain)))
    ∙ by arc.forward refl
  where
    by : (b : Bool) → arc.forward ≡ b → part_of arc.forward (own (record { border = arc.border; forward = true }), own (record { border = arc.border; forward = false })) ≡ own arc
    by true e = ap (λ d. part_of d (own (record { border = arc.border; forward = true }), own (record { border = arc.border; forward = false }))) e ∙ ap (λ d. own (record { border = arc.border; forward = d })) (sym e)
    by false e = ap (λ d. part_of d (own (record { border = arc.border; forward = true }), own (record { border = arc.border; forward = false }))) e ∙ ap (λ d. own (record { border = arc.border; forward = d })) (sym e)

module _ (graph : Graph) (hour : ℕ) (events : List Event) (of : IsHourOf graph hour events) where
  pub agree : Agree (hour ∷ []) events of.history
  agree = subst (λ es. Agree (hour ∷ []) es of.history) of.in_hour (one-agrees of.setup of.history of.fit hour)

  legal : IsLegalOver graph of.history
  legal = record { setup = of.setup; over = sym of.over_grid; fit = of.fit }

  pub hour-graph : IsGraph graph
  hour-graph = subst IsGraph of.over_grid of.is_setup

  module _ (part : ℕ) (side : Side) where
    abbrev contract : Contract
    contract = contract_at hour part

    pub line-of : line events (contract_at hour part) side ≡ line of.history (contract_at hour part) side
    line-of = line-agree (hour ∷ []) events of.history agree contract side (inl refl)

    pub rooms-of : room events (contract_quarters (contract_at hour part)) ≡ room of.history (contract_quarters (contract_at hour part))
    rooms-of = room-agree (hour ∷ []) events of.history agree (contract_quarters contract) (contract-hours (hour ∷ []) contract (inl refl))

    pub view-of : (zone : ℕ) → view graph events (contract_at hour part) side zone ≡ view graph of.history (contract_at hour part) side zone
    view-of zone = view-agree (hour ∷ []) events of.history agree graph contract side (inl refl) zone

    -- each name stands once in a line, and its prices cross those of a taker at any price
    pub line-once : AreOnce (map maker_of (line events (contract_at hour part) side))
    line-once = subst (λ orders. AreOnce (map maker_of orders)) (sym line-of) (makers-once of.setup of.history of.fit contract side)

    pub line-cross : AllCross side (map maker_of (line events (contract_at hour part) side))
    line-cross = subst (λ orders. AllCross side (map maker_of orders)) (sym line-of) (makers-cross of.setup of.history of.fit contract side)

    -- its orders bear the hour
    pub line-hour : (order : Standing) → IsIn order (line events (contract_at hour part) side) → order.name.hour ≡ hour
    line-hour order i =
        let found = from_line of.history contract side order (subst (IsIn order) line-of i) in
        ap (λ (x : Standing). x.name.hour) found.is
        ∙ ((all_are_sound of.setup of.history of.fit).orders found.order found.is_open.is_placed).named
        ∙ ap (λ (c : Contract). c.hour) found.of_contract

    -- and are in zones that there are
    pub line-zones : (order : Standing) → IsIn order (line events (contract_at hour part) side) → HasZone graph order.order.zone
    line-zones order i =
        let found = from_line of.history contract side order (subst (IsIn order) line-of i) in
        subst (λ g. HasZone g order.order.zone) of.over_grid
        (subst (λ (x : Standing). HasZone (graph_of of.setup) x.order.zone) (sym found.is) ((all_are_sound of.setup of.history of.fit).orders found.order found.is_open.is_placed).in_zone)

    module _ (zone : ℕ) (rooms : List (ℕ × ℕ))
        (are : (arc : Arc) → HasArc graph arc → room_of rooms arc ≡ room events (contract_quarters (contract_at hour part)) arc) where
      are-there : (arc : Arc) → HasArc graph arc → room_of rooms arc ≡ room of.history (contract_quarters contract) arc
      are-there arc known = are arc known ∙ ap (λ f. f arc) rooms-of

      -- the view is what a walk along the line shows
      pub view-walked : walked graph side zone (room_of rooms) 4294967295 (map maker_of (line events (contract_at hour part) side)) ≡ view graph events (contract_at hour part) side zone
      view-walked =
          let trades = walked-trades graph hour-graph side zone (map maker_of (line of.history contract side)) (room_of rooms) 4294967295
          (makers-once of.setup of.history of.fit contract side) (makers-cross of.setup of.history of.fit contract side) in
          ap (λ orders. walked graph side zone (room_of rooms) 4294967295 (map maker_of orders)) line-of
          ∙ sym trades.rows
          ∙ view-is graph hour-graph of.history legal contract side zone rooms are-there (rows_with trades.fills) (record { fills = trades.fills; run = trades.run; are = refl })
          ∙ sym (view-of zone)

    -- a line without orders shows nothing
    pub view-empty : (zone : ℕ) → line events (contract_at hour part) side ≡ [] → view graph events (contract_at hour part) side zone ≡ []
    unfolding rows_taken
    view-empty zone none =
        let rooms = rooms_like (border_count graph) (room events (contract_quarters (contract_at hour part))) in
        sym (view-walked zone rooms (λ arc known. room-like (border_count graph) (room events (contract_quarters (contract_at hour part))) arc known))
        ∙ ap (λ orders. walked graph side zone (room_of rooms) 4294967295 (map maker_of orders)) none
