-- A walk begins, and goes on after a leg with the partner to which it has come.
use Rattle.std.proofs.Common.{◌≡◌, ◌∙◌, ℕ, ◌+◌, ◌-◌, ◌<◌, ◌≤◌, List, [], ◌∷◌, ◌++◌, length, length-append, min, Some, None, refl, sym, ap, subst, arith}
use Rattle.order_kinds.specs.declared.order.OrderName.{OrderName}
use Rattle.order_kinds.specs.Contract.{contract_at}
use Rattle.order_kinds.specs.Period.{contract_quarters}
use Rattle.order_kinds.specs.Side.{opposite}
use Rattle.zone_graph.specs.declared.route.Arc.{Arc}
use Rattle.zone_graph.specs.declared.route.RouteLeg.{RouteLeg}
use Rattle.zone_graph.specs.Graph.{Graph, HasArc, HasZone, border_count}
use Rattle.zone_graph.specs.Pour.{lots_if, opposite_arc, uses}
use Rattle.zone_graph.specs.Rooms.{room_of}
use Rattle.zone_graph.specs.Route.{IsIn, IsRoute, carried}
use Rattle.zone_graph.proofs.Carrying.{best_route-route, carried-room}
use Rattle.cut_proof.specs.Carrying.{CanCarry}
use Rattle.cut_proof.proofs.Carrying.{fit-kept, route_can_carry}
use Rattle.route_choice.specs.Freshness.{IsFresh}
use Rattle.route_choice.specs.Tree.{Tree}
use Rattle.quarter_capacity.specs.Capacity.{most_remaining}
use Rattle.market_model.specs.declared.event.Event.TheVariants as event
use Rattle.market_model.specs.Board.{BoardState, CanBeMade, IsBoard, after_leg, resting_line}
use Rattle.market_model.specs.History.{and_then}
use Rattle.market_model.specs.Lines.{buyer_zone, seller_zone}
use Rattle.market_model.specs.Orders.{Standing, filled, left, moment, standing}
use Rattle.market_model.specs.Room.{room}
use Rattle.market_model.specs.Taking.{next_leg}
use Rattle.laws_of_books.proofs.LineOrders.{same_names}
use Rattle.laws_of_boards.specs.Takers.{StandsInFront}
use Rattle.laws_of_boards.proofs.Behind.{stay}
use Rattle.laws_of_boards.proofs.Passing.{pass}
use Rattle.laws_of_boards.proofs.Shared.{board-graph}
use Rattle.match_core.specs.declared.taker.Taker.{Taker}
use Rattle.match_core.specs.declared.walk.Partner.{Partner}
use Rattle.match_core.specs.declared.walk.Walk.{Walk}
use Rattle.match_core.specs.Takers.{CanFill, HasLots, HasPeak, after_fill, shown_of, taker_of}
use Rattle.match_core.specs.Takings.{HasEntered}
use Rattle.match_core.specs.Walks.{AreRoomsOf, CanGoOn, EndAt, HasGoneOn, IsNextMade, IsPartnerOf, Stands, StandsIn, TakesOn, is_towards, leg_of}
use Rattle.match_core.proofs.Fills.{can-fill, has_lots}
use Rattle.match_core.proofs.Legs.{can-make, left-then, leg-some, leg-within, rooms-then, taker-then, takes-after}
use Rattle.match_core.proofs.Orders.{contract-hour, entered-moment, has-peaks, in-zone, its-hour, record-is-sound, takes-start}
use Rattle.match_core.proofs.Partners.{arcs-within, maker-hour, next-is, route-of, some-left}

-- ---- the start

module _ (board : BoardState) (graph : Graph) (part : ℕ) (taker : Taker) (over : graph ≡ board.grid) (in_part : part < board.parts)
    (in_hand : board.hand ≡ Some taker.name.number) (entered : HasEntered board part taker) (is_board : IsBoard board) where
  takes : TakesOn board part entered.order
  takes = takes-start board part taker in_part in_hand entered is_board

  pub start-zone : HasZone graph taker.zone
  start-zone =
      subst (λ (g : Graph). HasZone g taker.zone) (sym over)
      (subst (λ (t : Taker). HasZone board.grid t.zone) (sym entered.is) (in-zone board part entered.order takes))

  module _ (rooms : List (ℕ × ℕ)) (search : Tree) (size : length rooms ≡ border_count graph)
      (same : (arc : Arc) → HasArc board.grid arc → room_of rooms arc ≡ room board.events (contract_quarters (contract_at board.hour part)) arc)
      (most : (arc : Arc) → HasArc board.grid arc → room_of rooms arc ≤ most_remaining)
      (fresh : IsFresh graph (room_of rooms) search) (zone : search.zone ≡ taker.zone) (towards : search.towards ≡ is_towards taker.side) where
    pub start : Stands board (record { part = part; taker = taker; passed = None; place = taker.moment; rooms = rooms; search = search })
    start = record {
      order = entered.order;
      takes = takes;
      is = entered.is;
      place = ap (λ (t : Taker). t.moment) entered.is
          ∙ entered-moment board is_board entered.before entered.order entered.entry (its-hour board part entered.order takes);
      rooms = record {
        size = size ∙ ap border_count over;
        same = same;
        fit = λ arc known. let one = most arc known in let other = most (opposite_arc arc) known in omega (arith, one, other);
      };
      search = record {
        fresh = subst (λ g. IsFresh g (room_of rooms) search) over fresh;
        zone = zone ∙ ap (λ (t : Taker). t.zone) entered.is;
        towards = towards ∙ ap (λ (t : Taker). is_towards t.side) entered.is;
      };
      line = record { front = []; back = resting_line board part (opposite entered.order.order.side); line = refl; ends = refl; none = λ other i. absurd i };
    }

-- ---- a leg

module _ (board : BoardState) (walk : Walk) (found : Partner) (is : IsPartnerOf board walk found) where
  name-is : walk.taker.name ≡ is.stands.order.name
  name-is = ap (λ (t : Taker). t.name) is.stands.is

  next : next_leg board.grid is.stands.order.name board.events ≡ Some (event.Leg (contract_at board.hour walk.part) (leg_of walk found))
  next = ap (λ n. next_leg board.grid n board.events) (sym name-is) ∙ next-is board walk found is

  left-is : walk.taker.left ≡ left board.events is.stands.order.name
  left-is = ap (λ (t : Taker). t.left) is.stands.is

  pub has-peak : HasPeak walk.taker
  has-peak =
      subst (λ (t : Taker). HasLots t.ice) (sym is.stands.is)
      (has_lots is.stands.order (filled board.events is.stands.order.name) (has-peaks board walk.part is.stands.order is.stands.takes))

  pub can-be-made : CanBeMade board walk.part (leg_of walk found)
  can-be-made = can-make board walk.part is.stands.order is.stands.takes (leg_of walk found) next

  within : (leg_of walk found).lots ≤ left board.events is.stands.order.name
  within = leg-within board walk.part is.stands.order is.stands.takes (leg_of walk found) next

  pub can-be-filled : CanFill walk.taker (leg_of walk found).lots
  can-be-filled =
      subst (λ (t : Taker). CanFill t (leg_of walk found).lots) (sym is.stands.is)
      (can-fill is.stands.order (filled board.events is.stands.order.name) (left board.events is.stands.order.name) (moment board.events is.stands.order)
      (leg_of walk found).lots (record-is-sound board walk.part is.stands.order is.stands.takes (some-left board walk found is)) within)

  abbrev own : Standing
  own = standing board.events is.stands.order

  abbrev from : ℕ
  from = seller_zone (standing board.events is.stands.order) is.maker

  abbrev to : ℕ
  to = buyer_zone (standing board.events is.stands.order) is.maker

  is-route : IsRoute board.grid (room_of walk.rooms) from to found.route
  is-route =
      best_route-route board.grid (room_of walk.rooms) from to found.route (board-graph board is.stands.takes.is_board)
      (sym (route-of board.grid (room_of walk.rooms) is.stands.order walk.search own is.maker refl is.stands.search.zone is.stands.search.towards) ∙ is.route)

  has : (arc : Arc) → IsIn arc found.route → (leg_of walk found).lots ≤ room_of walk.rooms arc
  has arc i = carried-room (room_of walk.rooms) _ found.route arc i

  can-be-carried : CanCarry (length walk.rooms) (room_of walk.rooms) (leg_of walk found).lots found.route
  can-be-carried =
      subst (λ n. CanCarry n (room_of walk.rooms) (leg_of walk found).lots found.route) (sym is.stands.rooms.size)
      (route_can_carry board.grid (room_of walk.rooms) from to (record { route = found.route; lots = (leg_of walk found).lots }) is.stands.rooms.fit
      (record { is_route = is-route; has_room = has }))

  pub can-go-on : (graph : Graph) → graph ≡ board.grid → CanGoOn graph walk (leg_of walk found)
  can-go-on graph over = subst (λ g. CanGoOn g walk (leg_of walk found)) (sym over) (record {
    is_graph = board-graph board is.stands.takes.is_board;
    in_zone = subst (λ (t : Taker). HasZone board.grid t.zone) (sym is.stands.is) (in-zone board walk.part is.stands.order is.stands.takes);
    size = is.stands.rooms.size;
    carry = can-be-carried;
    arcs = arcs-within board walk found is;
    fill = can-be-filled;
    fresh = is.stands.search.fresh;
    zone = is.stands.search.zone ∙ ap (λ (t : Taker). t.zone) (sym is.stands.is);
    towards = is.stands.search.towards ∙ ap (λ (t : Taker). is_towards t.side) (sym is.stands.is);
    other = is.maker.order.zone;
    route = is.route;
  })

  pub made-next : IsNextMade board (after_leg board walk.part (leg_of walk found)) walk.part walk.taker.name
  made-next = record { leg = leg_of walk found; next = next-is board walk found is; is = refl }

  -- ---- the walk after it

  module _ (graph : Graph) (over : graph ≡ board.grid) (place : ℕ) (place_is : place ≡ walk.place + 1) (after : Walk)
      (gone : HasGoneOn graph walk (leg_of walk found) place after) where
    place-then : place ≡ length board.events + 1
    place-then = place_is ∙ ap (λ n. n + 1) is.stands.place

    taker-is : after.taker ≡ taker_of (and_then board.events (event.Leg (contract_at board.hour walk.part) (leg_of walk found))) is.stands.order
    taker-is =
        gone.taker
        ∙ ap (λ t. after_fill t (leg_of walk found).lots place) is.stands.is
        ∙ ap (after_fill (taker_of board.events is.stands.order) (leg_of walk found).lots) place-then
        ∙ sym (taker-then board walk.part is.stands.order is.stands.takes (leg_of walk found) next)

    pub less-left : after.taker.left < walk.taker.left
    less-left =
        let same = ap (λ (t : Taker). t.left) taker-is in
        let lower = left-then board walk.part is.stands.order is.stands.takes (leg_of walk found) next in
        let some = leg-some board walk.part is.stands.order is.stands.takes (leg_of walk found) next in
        let most = within in
        let own_left = left-is in
        omega (arith, same, lower, some, most, own_left)

    pub name-kept : after.taker.name ≡ walk.taker.name
    name-kept = ap (λ (t : Taker). t.name) taker-is ∙ sym name-is

    abbrev carried_leg : RouteLeg
    carried_leg = record { route = found.route; lots = carried (room_of walk.rooms) (min (shown_of walk.taker) found.order.lots) found.route }

    rooms-are : AreRoomsOf (after_leg board walk.part (leg_of walk found)) walk.part after.rooms
    rooms-are = record {
      size = gone.size ∙ is.stands.rooms.size;
      same = λ arc known.
          gone.rooms arc
          ∙ ap (λ n. (n + lots_if (uses found.route (opposite_arc arc)) (leg_of walk found).lots) - lots_if (uses found.route arc) (leg_of walk found).lots) (is.stands.rooms.same arc known)
          ∙ sym (rooms-then board walk.part is.stands.order is.stands.takes (leg_of walk found) next arc);
      fit = λ arc known.
          let one = gone.rooms arc in
          let other = gone.rooms (opposite_arc arc) in
          let kept = fit-kept board.grid (room_of walk.rooms) carried_leg is.stands.rooms.fit has arc known in
          omega (arith, one, other, kept);
    }

    -- what stands in front of the maker stays, and stays out
    behind : StandsInFront is.stands.line.front (is.maker ∷ is.behind)
        (resting_line (after_leg board walk.part (leg_of walk found)) walk.part (opposite is.stands.order.order.side))
    behind =
        stay board walk.part is.stands.order (leg_of walk found) is.stands.line.front is.behind is.maker is.stands.takes.is_board is.stands.takes.there is.stands.takes.of_part
        next maker-is (is.stands.line.line ∙ ap (λ b. is.stands.line.front ++ b) is.back)
      where
        maker-is : (leg_of walk found).maker ≡ is.maker.name
        maker-is = same_names (leg_of walk found).maker is.maker.name
            (ap (λ (n : OrderName). n.hour) name-is ∙ its-hour board walk.part is.stands.order is.stands.takes ∙ sym (maker-hour board walk found is))
            (ap (λ s. s.number) is.shows)

    line-then : StandsIn (after_leg board walk.part (leg_of walk found)) walk.part is.stands.order after.passed
    line-then = record {
      front = is.stands.line.front;
      back = behind.rest;
      line = behind.is;
      ends = subst (λ passed. EndAt passed is.stands.line.front) (sym gone.passed) is.stands.line.ends;
      none = λ other i.
          pass board is.stands.order (event.Leg (contract_at board.hour walk.part) (leg_of walk found)) other is.stands.takes.is_board is.stands.takes.there
          (contract-hour board walk.part is.stands.order is.stands.takes) next (is.stands.line.none other i);
    }

    stands-whole : Stands (after_leg board walk.part (leg_of walk found)) (record after { part = walk.part })
    stands-whole = record {
      order = is.stands.order;
      takes = takes-after board walk.part is.stands.order is.stands.takes (leg_of walk found) next;
      is = taker-is;
      place = gone.at_place ∙ place-then ∙ sym (length-append board.events (event.Leg (contract_at board.hour walk.part) (leg_of walk found) ∷ []));
      rooms = rooms-are;
      search = record {
        fresh = subst (λ g. IsFresh g (room_of after.rooms) after.search) over gone.fresh;
        zone = gone.zone ∙ ap (λ (t : Taker). t.zone) is.stands.is;
        towards = gone.towards ∙ ap (λ (t : Taker). is_towards t.side) is.stands.is;
      };
      line = line-then;
    }

    pub stands-then : Stands (after_leg board walk.part (leg_of walk found)) after
    stands-then =
        subst (λ part. Stands (after_leg board walk.part (leg_of walk found)) (record after { part = part })) (sym gone.part) stands-whole
