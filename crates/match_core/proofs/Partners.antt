-- The partner of an order in hand, and its next leg, by a walk of the opposite line.
use Rattle.std.proofs.Common.{◌≡◌, ◌∙◌, inl, inr, ℕ, ◌<◌, Bool, true, false, List, [], ◌∷◌, ◌++◌, find, length, min, nat_lt, Option, Some, None, option_map, refl, sym, ap, subst, if◌then◌else◌, arith}
use Rattle.std.proofs.lemmas.Bool.{ltb-true, true≢false}
use Rattle.std.specs.Option.{option_and_then}
use Rattle.order_kinds.specs.declared.contract.Contract.{Contract}
use Rattle.order_kinds.specs.declared.order.OrderName.{OrderName}
use Rattle.order_kinds.specs.declared.side.Side.{Side}
use Rattle.order_kinds.specs.declared.side.Side.TheVariants.{Buy, Sell}
use Rattle.order_kinds.specs.Contract.{contract_at}
use Rattle.order_kinds.specs.Period.{contract_quarters}
use Rattle.order_kinds.specs.Side.{opposite}
use Rattle.zone_graph.specs.declared.route.Arc.{Arc}
use Rattle.zone_graph.specs.Graph.{Graph, HasArc}
use Rattle.zone_graph.specs.Rooms.{room_of}
use Rattle.zone_graph.specs.Route.{IsIn, best_route, carried}
use Rattle.zone_graph.proofs.BestRoute.{best_route-rooms}
use Rattle.zone_graph.proofs.Finding.{from_find}
use Rattle.zone_graph.proofs.Membership.{IsIn-right}
use Rattle.cut_proof.proofs.Carrying.{carried-rooms}
use Rattle.route_choice.specs.Freshness.{searched_route}
use Rattle.route_choice.specs.Tree.{Tree}
use Rattle.route_choice.proofs.Fresh.{searched_arcs, searched_from, searched_towards}
use Rattle.market_model.specs.declared.event.Event.{Event}
use Rattle.market_model.specs.declared.event.Event.TheVariants as event
use Rattle.market_model.specs.Board.{BoardState, resting_line}
use Rattle.market_model.specs.Lines.{buyer_zone, can_trade, line, partner, rooms_for, seller_zone}
use Rattle.market_model.specs.Orders.{Placed, Standing, filled, left, open_order, standing}
use Rattle.market_model.specs.Room.{room}
use Rattle.market_model.specs.Taking.{leg_over, next_leg, standing_order, trade}
use Rattle.laws_of_market.proofs.Legs.{open_order-is}
use Rattle.laws_of_market.proofs.Repeats.{bind-some, map-some}
use Rattle.laws_of_books.proofs.LineOrders.{same_names}
use Rattle.laws_of_boards.proofs.Shared.{board-graph}
use Rattle.match_core.specs.declared.walk.Partner.{Partner}
use Rattle.match_core.specs.declared.walk.Walk.{Walk}
use Rattle.match_core.specs.Takers.{shown_by}
use Rattle.match_core.specs.Walks.{IsPartnerOf, Stands, TakesOn, is_towards, leg_of, trades}
use Rattle.match_core.proofs.Fills.{shown-is}
use Rattle.match_core.proofs.Orders.{its-hour, line-hour, line-rests, one-name, open-found}

-- what is found behind those that do not pass
find-through : {X : Type 0} (p : X → Bool) (front back : List X) (x : X) → ((y : X) → IsIn y front → p y ≡ false) → p x ≡ true → find p (front ++ (x ∷ back)) ≡ Some x
find-through p [] back x none own = ap (λ b. if b then Some x else find p back) own
find-through p (y ∷ front) back x none own =
    ap (λ b. if b then Some y else find p (front ++ (x ∷ back))) (none y (inl refl)) ∙ find-through p front back x (λ z i. none z (inr i)) own

-- what a search answers for an order is the best route of a trade with it
pub route-of : (graph : Graph) (room : Arc → ℕ) (order : Placed) (search : Tree) (own other : Standing) → own.order ≡ order.order
    → search.zone ≡ order.order.zone → search.towards ≡ is_towards order.order.side
    → searched_route graph room search other.order.zone ≡ best_route graph room (seller_zone own other) (buyer_zone own other)
route-of graph room order search own other same at towards = go own.order.side refl
  where
    zone : search.zone ≡ own.order.zone
    zone = at ∙ ap (λ o. o.zone) (sym same)

    go : (side : Side) → own.order.side ≡ side
        → searched_route graph room search other.order.zone ≡ best_route graph room (seller_zone own other) (buyer_zone own other)
    go Buy is =
        rw is (searched_towards graph room search own.order.zone other.order.zone zone (towards ∙ ap (λ o. is_towards o.side) (sym same) ∙ ap is_towards is))
    go Sell is =
        rw is (searched_from graph room search own.order.zone other.order.zone zone (towards ∙ ap (λ o. is_towards o.side) (sym same) ∙ ap is_towards is))

module _ (board : BoardState) (part : ℕ) (order : Placed) (takes : TakesOn board part order) where
  abbrev own : Standing
  own = standing board.events order

  abbrev opposite_line : List Standing
  opposite_line = resting_line board part (opposite order.order.side)

  own-line : line board.events order.order.contract (opposite order.order.side) ≡ opposite_line
  own-line = ap (λ c. line board.events c (opposite order.order.side)) takes.of_part ∙ sym (line-rests board part order takes)

  -- where there is a next leg, something is left of the order, and it can trade with one of the line
  pub record HasPartner : Type 0 where
    pub some : 0 < left board.events order.name
    pub other : Standing
    pub in_line : IsIn other (resting_line board part (opposite order.order.side))
    pub trade : trades board order other ≡ true

  pub has-partner : (e : Event) → next_leg board.grid order.name board.events ≡ Some e → HasPartner
  unfolding next_leg partner
  has-partner e is =
      let its = bind-some _ (standing_order board.events order.name) e is in
      let found = map-some (standing board.events) (open_order board.events order.name) its.0 its.1 in
      let its_order = open_order-is board.events order.name found.0 found.1 in
      let same : found.0 ≡ order = one-name board part order takes found.0 its_order.is_open.is_placed its_order.is_named in
      let at_own : its.0 ≡ own = sym found.2 ∙ ap (standing board.events) same in
      let other = bind-some _ (partner board.grid board.events its.0) e its.2 in
      let from = from_find (can_trade board.grid (rooms_for board.events own) own) other.0 (line board.events order.order.contract (opposite order.order.side))
      (subst (λ s. partner board.grid board.events s ≡ Some other.0) at_own other.1) in
      record {
        some = ltb-true 0 (left board.events order.name) (subst (λ (p : Placed). nat_lt 0 (left board.events p.name) ≡ true) same its_order.is_open.is_left);
        other = other.0;
        in_line = subst (IsIn other.0) own-line from.0;
        trade = from.1;
      }

  -- so there is none where nothing is left of it
  pub none-left : left board.events order.name ≡ 0 → next_leg board.grid order.name board.events ≡ None
  none-left nothing = go (next_leg board.grid order.name board.events) refl
    where
      go : (o : Option Event) → next_leg board.grid order.name board.events ≡ o → next_leg board.grid order.name board.events ≡ None
      go None e = e
      go (Some leg) e = let has = has-partner leg e in absurd (omega (arith, has.some, nothing))

  -- or it can trade with none of the line
  pub none-trades : ((other : Standing) → IsIn other (resting_line board part (opposite order.order.side)) → trades board order other ≡ false)
      → next_leg board.grid order.name board.events ≡ None
  none-trades none = go (next_leg board.grid order.name board.events) refl
    where
      go : (o : Option Event) → next_leg board.grid order.name board.events ≡ o → next_leg board.grid order.name board.events ≡ None
      go None e = e
      go (Some leg) e = let has = has-partner leg e in absurd (true≢false (sym has.trade ∙ none has.other has.in_line))

  -- the first of the line that it can trade with is the partner, over the best route
  pub leg-with : (front behind : List Standing) (maker : Standing) (route : List Arc)
      → resting_line board part (opposite order.order.side) ≡ front ++ (maker ∷ behind)
      → ((other : Standing) → IsIn other front → trades board order other ≡ false) → trades board order maker ≡ true
      → 0 < left board.events order.name
      → best_route board.grid (rooms_for board.events own) (seller_zone own maker) (buyer_zone own maker) ≡ Some route
      → next_leg board.grid order.name board.events ≡ Some (leg_over (rooms_for board.events own) own maker route)
  unfolding next_leg partner trade
  leg-with front behind maker route stands none trading some best =
      let found : partner board.grid board.events own ≡ Some maker =
      ap (find (can_trade board.grid (rooms_for board.events own) own)) (own-line ∙ stands)
      ∙ find-through (can_trade board.grid (rooms_for board.events own) own) front behind maker none trading in
      ap (λ o. option_and_then (λ s. option_and_then (trade board.grid board.events s) (partner board.grid board.events s)) (option_map (standing board.events) o))
      (open-found board part order takes some)
      ∙ ap (option_and_then (trade board.grid board.events own)) found
      ∙ ap (option_map (leg_over (rooms_for board.events own) own maker)) best

-- ---- a walk that has come to its partner

-- the rooms of a walk are those of its order
pub room-same : (board : BoardState) (walk : Walk) (stands : Stands board walk) (arc : Arc) → HasArc board.grid arc
    → room_of walk.rooms arc ≡ rooms_for board.events (standing board.events stands.order) arc
room-same board walk stands arc known =
    stands.rooms.same arc known ∙ ap (λ (c : Contract). room board.events (contract_quarters c) arc) (sym stands.takes.of_part)

module _ (board : BoardState) (walk : Walk) (found : Partner) (is : IsPartnerOf board walk found) where
  abbrev order : Placed
  order = is.stands.order

  abbrev own_now : Standing
  own_now = standing board.events is.stands.order

  abbrev rooms : Arc → ℕ
  rooms = rooms_for board.events (standing board.events is.stands.order)

  same-rooms : (arc : Arc) → HasArc board.grid arc → room_of walk.rooms arc ≡ rooms arc
  same-rooms = room-same board walk is.stands

  arcs-known : (arc : Arc) → IsIn arc found.route → HasArc board.grid arc
  arcs-known = searched_arcs board.grid (room_of walk.rooms) walk.search is.maker.order.zone found.route (board-graph board is.stands.takes.is_board) is.route

  pub arcs-within : (arc : Arc) → IsIn arc found.route → arc.border < length walk.rooms
  arcs-within arc i = let known = arcs-known arc i in omega (arith, known, is.stands.rooms.size)

  pub best : best_route board.grid rooms (seller_zone own_now is.maker) (buyer_zone own_now is.maker) ≡ Some found.route
  best =
      sym (best_route-rooms board.grid (room_of walk.rooms) rooms (seller_zone own_now is.maker) (buyer_zone own_now is.maker)
      (board-graph board is.stands.takes.is_board) same-rooms)
      ∙ sym (route-of board.grid (room_of walk.rooms) order walk.search own_now is.maker refl is.stands.search.zone is.stands.search.towards)
      ∙ is.route

  pub some-left : 0 < left board.events is.stands.order.name
  some-left = let some = is.some in let same = ap (λ t. t.left) is.stands.is in omega (arith, some, same)

  made : next_leg board.grid is.stands.order.name board.events ≡ Some (leg_over rooms own_now is.maker found.route)
  made =
      leg-with board walk.part order is.stands.takes is.stands.line.front is.behind is.maker found.route
      (is.stands.line.line ∙ ap (λ b. is.stands.line.front ++ b) is.back) is.stands.line.none is.trade some-left best

  -- the maker is named by the hour
  pub maker-hour : is.maker.name.hour ≡ board.hour
  maker-hour =
      line-hour board walk.part order is.stands.takes (opposite is.stands.order.order.side) is.maker
      (subst (IsIn is.maker) (line-rests board walk.part order is.stands.takes) (subst (IsIn is.maker) (sym (is.stands.line.line ∙ ap (λ b. is.stands.line.front ++ b) is.back))
      (IsIn-right is.maker is.stands.line.front (is.maker ∷ is.behind) (inl refl))))

  -- the leg of the walk is the market's
  pub leg-is : event.Leg order.order.contract (record {
    taker = order.name;
    maker = is.maker.name;
    lots = carried rooms (min own_now.shown is.maker.shown) found.route;
    price = is.maker.price;
    route = found.route;
  })
      ≡ event.Leg (contract_at board.hour walk.part) (leg_of walk found)
  leg-is = λ i. event.Leg (is.stands.takes.of_part i) (record {
    taker = taker_is i;
    maker = maker_is i;
    lots = lots_is i;
    price = price_is i;
    route = found.route;
  })
    where
      taker_is : is.stands.order.name ≡ walk.taker.name
      taker_is = ap (λ t. t.name) (sym is.stands.is)

      maker_is : is.maker.name ≡ record { hour = walk.taker.name.hour; number = found.order.number }
      maker_is = same_names is.maker.name (record { hour = walk.taker.name.hour; number = found.order.number })
          (maker-hour ∙ sym (its-hour board walk.part order is.stands.takes) ∙ ap (λ (n : OrderName). n.hour) taker_is)
          (ap (λ s. s.number) (sym is.shows))

      shown_is : own_now.shown ≡ shown_by walk.taker.ice walk.taker.left
      shown_is =
          sym (shown-is is.stands.order (filled board.events is.stands.order.name) (left board.events is.stands.order.name))
          ∙ ap (λ t. shown_by t.ice t.left) (sym is.stands.is)

      price_is : is.maker.price ≡ found.order.price
      price_is = ap (λ s. s.price) (sym is.shows)

      lots_is : carried rooms (min own_now.shown is.maker.shown) found.route
          ≡ carried (room_of walk.rooms) (min (shown_by walk.taker.ice walk.taker.left) found.order.lots) found.route
      lots_is =
          sym (carried-rooms board.grid (room_of walk.rooms) rooms (min own_now.shown is.maker.shown) found.route same-rooms arcs-known)
          ∙ ap (λ n. carried (room_of walk.rooms) (min n is.maker.shown) found.route) shown_is
          ∙ ap (λ n. carried (room_of walk.rooms) (min (shown_by walk.taker.ice walk.taker.left) n) found.route) (ap (λ s. s.lots) (sym is.shows))

  pub next-is : next_leg board.grid walk.taker.name board.events ≡ Some (event.Leg (contract_at board.hour walk.part) (leg_of walk found))
  next-is =
      ap (λ n. next_leg board.grid n board.events) (ap (λ t. t.name) is.stands.is) ∙ made ∙ ap Some leg-is
