-- The law of the whole line: where all that its orders show can come to a zone together, the view of the
-- zone takes all of each.
use Rattle.std.proofs.Common.{◌≡◌, ◌∙◌, inl, inr, ℕ, ◌+◌, ◌-◌, ◌<◌, ◌≤◌, true, List, [], ◌∷◌, filter, fold, get_or, map, min, sum_by, None, refl, sym, ap, subst, arith}
use Rattle.std.proofs.lemmas.List.Sums.{sum_by-cons}
use Rattle.std.proofs.lemmas.Simd.{map-map}
use Rattle.order_kinds.specs.declared.price.Price.{Price}
use Rattle.order_kinds.specs.declared.side.Side.{Side}
use Rattle.order_kinds.specs.declared.side.Side.TheVariants.{Buy, Sell}
use Rattle.order_kinds.specs.Contract.{contract_at}
use Rattle.order_kinds.specs.Period.{contract_quarters}
use Rattle.order_kinds.specs.Side.{opposite}
use Rattle.zone_graph.specs.declared.route.Arc.{Arc}
use Rattle.zone_graph.specs.Graph.{Graph, HasArc, HasZone, IsGraph, border_count, zone_count}
use Rattle.zone_graph.specs.Grid.{IsGrid}
use Rattle.zone_graph.specs.Pour.{lots_if, opposite_arc}
use Rattle.zone_graph.specs.Rooms.{room_of}
use Rattle.zone_graph.specs.Route.{IsIn, has}
use Rattle.zone_graph.proofs.Membership.{from_map}
use Rattle.cut_proof.proofs.ArcSums.{sum_passing}
use Rattle.market_model.specs.declared.reply.ViewRow.{ViewRow}
use Rattle.market_model.specs.Board.{BoardState, resting_line}
use Rattle.market_model.specs.Certificate.{zones_in_reach}
use Rattle.market_model.specs.Lines.{line}
use Rattle.market_model.specs.Orders.{Standing}
use Rattle.market_model.specs.Room.{room}
use Rattle.laws_of_market.proofs.LineSums.{sum-map}
use Rattle.route_choice.specs.Poured.{lots_of, rooms_after}
use Rattle.route_choice.proofs.Pours.{pour-within}
use Rattle.laws_of_maximum.specs.FlowPlan.{FlowPlan, IsBalanced, IsFlowPlan, value_of}
use Rattle.laws_of_maximum.proofs.Duality.{no_plan_more, sum_same_in}
use Rattle.laws_of_rows.specs.declared.trades.Maker.{Maker}
use Rattle.laws_of_rows.specs.Depth.{Depth, after_fill, maker_of}
use Rattle.laws_of_rows.proofs.RowLemmas.{rows-are}
use Rattle.laws_of_views.proofs.FirstMakers.{AllCross, AreOnce, all-bound, lots_filled, own_reached, shown_in as makers_shown}
use Rattle.laws_of_views.proofs.RowSums.{rows-lots}
use Rattle.local_view.specs.declared.whole.LineOrder.{LineOrder}
use Rattle.local_view.specs.declared.whole.WholeLine.{WholeLine}
use Rattle.local_view.specs.Boards.{AreRoomsOf, view_of}
use Rattle.local_view.specs.Poured.{legs_with, row_if, rows_taken, sent_from, sent_to}
use Rattle.local_view.specs.Ways.{ComeTogether, PassesOn}
use Rattle.local_view.specs.Whole.{IsRead, WholeLinesAreViews, all_shown, in_line, rows_shown, shown_in}
use Rattle.local_view.proofs.Certificates.{lots_in, nobody, row-lots}
use Rattle.local_view.proofs.Hours.{hour-graph, line-cross, line-once, line-zones, room-like, rooms_like, view-walked}
use Rattle.local_view.proofs.Lines.{rests-all}
use Rattle.local_view.proofs.Walking.{as_order, walked, walked-trades}

-- ---- rows

-- what makers have left
abbrev all_left : List Maker → ℕ
all_left makers = sum_by (λ (maker : Maker). maker.left) makers

-- the rows in which each has all that it has left
abbrev rows_left : List Maker → List ViewRow
rows_left [] = []
rows_left (maker ∷ makers) = row_if maker.price maker.left (rows_left makers)

left-shown : (orders : List Standing) → rows_left (map maker_of orders) ≡ rows_shown orders
left-shown [] = refl
left-shown (order ∷ orders) = ap (row_if order.price order.shown) (left-shown orders)

-- of rows that have all together, the first has all of its own
first-all : (price : Price) (lots own : ℕ) (rows : List ViewRow) (others all : ℕ) → lots ≤ own → lots_in rows ≤ others → all ≡ own + others → all ≤ lots_in (row_if price lots rows)
    → (lots ≡ own) × (others ≤ lots_in rows)
first-all price lots own rows others all most later sum least =
    let parts = row-lots price lots rows in (omega (arith, most, later, sum, least, parts), omega (arith, most, later, sum, least, parts))

module _ (graph : Graph) (is : IsGraph graph) (side : Side) (zone : ℕ) where
  own-most : (maker : Maker) (room : Arc → ℕ) (left : ℕ) → lots_of (legs_with graph room side zone maker.zone (min left maker.left)) ≤ maker.left
  own-most maker room left =
      let most = pour-within graph room (sent_from side zone maker.zone) (sent_to side zone maker.zone) (min left maker.left) is in omega (arith, most)

  -- a walk takes no more than is there
  walked-most : (makers : List Maker) (room : Arc → ℕ) (left : ℕ) → lots_in (walked graph side zone room left makers) ≤ all_left makers
  unfolding rows_taken
  walked-most [] room left = omega arith
  walked-most (maker ∷ makers) room left =
      omega (
        arith,
        row-lots maker.price (lots_of (legs_with graph room side zone maker.zone (min left maker.left)))
            (walked graph side zone (rooms_after room (legs_with graph room side zone maker.zone (min left maker.left))) (left - lots_of (legs_with graph room side zone maker.zone (min left maker.left))) makers),
        own-most maker room left,
        walked-most makers (rooms_after room (legs_with graph room side zone maker.zone (min left maker.left))) (left - lots_of (legs_with graph room side zone maker.zone (min left maker.left))),
        sum_by-cons (λ (m : Maker). m.left) maker makers,
      )

  -- and where it takes as much, it takes all of each
  walked-whole : (makers : List Maker) (room : Arc → ℕ) (left : ℕ) → all_left makers ≤ lots_in (walked graph side zone room left makers) → walked graph side zone room left makers ≡ rows_left makers
  unfolding rows_taken
  walked-whole [] room left all = refl
  walked-whole (maker ∷ makers) room left all =
      let after : Arc → ℕ = rooms_after room (legs_with graph room side zone maker.zone (min left maker.left)) in
      let less : ℕ = left - lots_of (legs_with graph room side zone maker.zone (min left maker.left)) in
      let parts = first-all maker.price (lots_of (legs_with graph room side zone maker.zone (min left maker.left))) maker.left (walked graph side zone after less makers) (all_left makers) (all_left (maker ∷ makers))
      (own-most maker room left) (walked-most makers after less) (sum_by-cons (λ (m : Maker). m.left) maker makers) all in
      ap (λ n. row_if maker.price n (walked graph side zone after less makers)) parts.0 ∙ ap (row_if maker.price maker.left) (walked-whole makers after less parts.1)

  -- ---- a plan in which all give all

  makers-shown : (zones : List ℕ) (orders : List Standing) → makers_shown zones (map maker_of orders) ≡ all_shown (filter (λ (o : Standing). has o.order.zone zones) orders)
  makers-shown zones orders = omega (arith, sum-map (λ (m : Maker). lots_if (has m.zone zones) m.left) maker_of orders, sum_passing (λ (o : Standing). has o.order.zone zones) (λ (o : Standing). o.shown) orders)

  module _ (known : HasZone graph zone) (room : Arc → ℕ) (orders : List Standing) (once : AreOnce (map maker_of orders)) (cross : AllCross side (map maker_of orders))
      (in_zones : (order : Standing) → IsIn order orders → HasZone graph order.order.zone) (few : all_shown orders ≤ 4294967295)
      (plan : FlowPlan) (planned : IsFlowPlan graph room (opposite side) zone orders (λ order. order.shown) plan) (all : (order : Standing) → IsIn order orders → plan.gives order ≡ order.shown) where
    pub all-taken : walked graph side zone room 4294967295 (map maker_of orders) ≡ rows_shown orders
    all-taken =
        let trades = walked-trades graph is side zone (map maker_of orders) room 4294967295 once cross in
        let last : Arc → ℕ = (fold after_fill (let start : Depth = record { makers = map maker_of orders; room = room; left = 4294967295 } in start) trades.fills).room in
        let lots : lots_in (walked graph side zone room 4294967295 (map maker_of orders)) ≡ lots_filled trades.fills =
        ap lots_in (sym trades.rows ∙ rows-are nobody trades.fills) ∙ rows-lots nobody trades.fills in
        let value : value_of orders plan ≡ all_shown orders = sum_same_in plan.gives (λ (order : Standing). order.shown) orders all in
        let total : all_left (map maker_of orders) ≡ all_shown orders = sum-map (λ (maker : Maker). maker.left) maker_of orders in
        let most : all_shown orders ≤ lots_filled trades.fills = elim (all-bound graph is side zone known room (map maker_of orders) 4294967295 trades.fills once cross trades.run) [
          | inl asked ↦ omega (arith, asked, few)
          | inr bounded ↦
              omega (
                arith,
                bounded,
                value,
                no_plan_more graph room (opposite side) zone orders (λ (order : Standing). order.shown) plan (zones_in_reach graph last (opposite side) zone) is in_zones planned (own_reached graph is side zone known last),
                makers-shown (zones_in_reach graph last (opposite side) zone) orders,
              )
        ] in
        walked-whole (map maker_of orders) room 4294967295 (omega (arith, total, most, lots)) ∙ left-shown orders

-- ---- views

pub whole_views : WholeLinesAreViews
whole_views graph hour events part side zone plan of known planned all few =
    let own : Arc → ℕ = room events (contract_quarters (contract_at hour part)) in
    let rooms : List (ℕ × ℕ) = rooms_like (border_count graph) own in
    let like : (arc : Arc) → HasArc graph arc → room_of rooms arc ≡ own arc = λ arc there. room-like (border_count graph) own arc there in
    sym (view-walked graph hour events of part side zone rooms like)
    ∙ all-taken graph (hour-graph graph hour events of) side zone known (room_of rooms) (line events (contract_at hour part) side)
    (line-once graph hour events of part side) (line-cross graph hour events of part side) (line-zones graph hour events of part side) few plan (record {
      gives_most = planned.gives_most;
      within = λ arc there. subst (λ n. plan.flow arc ≤ n + plan.flow (opposite_arc arc)) (sym (like arc there)) (planned.within arc there);
      balanced = planned.balanced;
    }) all

-- ---- boards

module _ (board : BoardState) (none : board.hand ≡ None) (part : ℕ) (side : Side) (whole : WholeLine) (read : IsRead board part side whole) where
  abbrev orders : List Standing
  orders = line board.events (contract_at board.hour part) side

  rests : resting_line board part side ≡ line board.events (contract_at board.hour part) side
  rests = rests-all board part side none

  -- the orders that were read are in zones that there are
  pub zones-read : (order : LineOrder) → IsIn order whole.orders.items → HasZone board.grid order.zone
  zones-read order i =
      let from = from_map in_line order (resting_line board part side) (subst (IsIn order) read.orders i) in
      subst (λ (o : LineOrder). HasZone board.grid o.zone) (sym from.2)
      (line-zones board.grid board.hour board.events read.is_board.stands part side from.0 (subst (IsIn from.0) rests from.1))

  pub zones-resting : (order : Standing) → IsIn order (resting_line board part side) → HasZone board.grid order.order.zone
  zones-resting order i = line-zones board.grid board.hour board.events read.is_board.stands part side order (subst (IsIn order) rests i)

  -- which have small numbers
  pub small-resting : (graph : Graph) → graph ≡ board.grid → zone_count graph ≤ 64 → (order : Standing) → IsIn order (resting_line board part side) → order.order.zone < 64
  small-resting graph same few order i = let there = subst (λ (g : Graph). HasZone g order.order.zone) (sym same) (zones-resting order i) in omega (arith, there, few)

  -- what is taken of them is the view
  pub taken-view : (zone : ℕ) (rooms : List (ℕ × ℕ)) → AreRoomsOf board part rooms
      → rows_taken board.grid side zone (room_of rooms) 4294967295 whole.orders.items ≡ view_of board part side zone
  taken-view zone rooms of =
      ap (rows_taken board.grid side zone (room_of rooms) 4294967295) (read.orders ∙ ap (map in_line) rests ∙ sym (map-map as_order maker_of orders))
      ∙ view-walked board.grid board.hour board.events read.is_board.stands part side zone rooms of.are

  -- the view is the line itself, where all of it comes together
  module _ (zone : ℕ) (known : HasZone board.grid zone) (few_zones : IsGrid board.grid) (rooms : List (ℕ × ℕ)) (of : AreRoomsOf board part rooms) (fits : whole.fits ≡ true)
      (comes : ComeTogether board.grid (room_of rooms) side zone whole.shown) where
    abbrev plan : FlowPlan
    plan = record { gives = λ order. order.shown; flow = comes.flow }

    passes : (s : Side) (other : ℕ) → PassesOn board.grid s comes.flow other (get_or whole.shown other 0) → get_or whole.shown other 0 ≡ shown_in orders other → IsBalanced board.grid (opposite s) orders plan other
    passes Buy other on shows = omega (arith, on, shows)
    passes Sell other on shows = omega (arith, on, shows)

    pub whole_view : whole.rows.items ≡ view_of board part side zone
    whole_view =
        read.rows
        ∙ ap rows_shown rests
        ∙ sym (all-taken board.grid few_zones.is_graph side zone known (room_of rooms) orders
        (line-once board.grid board.hour board.events read.is_board.stands part side) (line-cross board.grid board.hour board.events read.is_board.stands part side)
        (line-zones board.grid board.hour board.events read.is_board.stands part side) (subst (λ os. all_shown os ≤ 4294967295) rests (read.few fits)) plan (record {
          gives_most = λ order i. omega arith;
          within = λ arc there. let flows = comes.within arc there in omega (arith, flows);
          balanced = λ other there apart.
              passes side other (comes.balanced other there apart)
              (read.zones fits other (let few = few_zones.few_zones in omega (arith, there, few)) ∙ ap (λ os. shown_in os other) rests);
        }) (λ order i. refl))
        ∙ view-walked board.grid board.hour board.events read.is_board.stands part side zone rooms of.are
