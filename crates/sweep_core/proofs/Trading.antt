-- The leg of a buy, as a search over a row of rooms finds it among some sells, and as the board has it.
use Rattle.std.proofs.Common.{◌≡◌, ◌∙◌, ◌&&◌, ℕ, Bool, true, false, List, [], ◌∷◌, min, Option, Some, None, if◌then◌else◌, refl, sym, ap, subst}
use Rattle.std.proofs.lemmas.Bool.{and_parts, true≢false}
use Rattle.std.specs.List.{find}
use Rattle.std.specs.Option.{is_some, option_and_then, option_map}
use Rattle.std.specs.Ordering.{is_lt}
use Rattle.order_kinds.specs.declared.side.Side.TheVariants.{Buy, Sell}
use Rattle.order_kinds.specs.Side.{crosses, price_cmp}
use Rattle.zone_graph.specs.declared.route.Arc.{Arc}
use Rattle.zone_graph.specs.Graph.{Graph, HasArc, HasZone, IsGraph}
use Rattle.zone_graph.specs.Reach.{reaches}
use Rattle.zone_graph.specs.Rooms.{room_of}
use Rattle.zone_graph.specs.Route.{IsIn, IsWay, best_route}
use Rattle.zone_graph.proofs.BestRoute.{best_route-is, best_route-rooms}
use Rattle.zone_graph.proofs.Finding.{from_find}
use Rattle.zone_graph.proofs.GridLemmas.{start_within}
use Rattle.cut_proof.proofs.Ways.{way_has_arc}
use Rattle.cut_proof.proofs.Carrying.{carried-rooms}
use Rattle.route_choice.specs.Freshness.{IsFresh, searched_route}
use Rattle.route_choice.specs.Tree.{Tree}
use Rattle.route_choice.proofs.Fresh.{known_is_reached, searched_arcs, searched_towards}
use Rattle.market_model.specs.declared.board.Shown.{Shown}
use Rattle.market_model.specs.declared.event.Leg.{Leg}
use Rattle.market_model.specs.Board.{BoardState, IsBoard}
use Rattle.laws_of_market.proofs.Restrict.{find-same}
use Rattle.laws_of_boards.proofs.Shared.{board-graph}
use Rattle.sweep_core.specs.Meeting.{AreFronts, AreRoomsOf, can_meet, is_earlier, is_marked, is_met, leg_between, leg_of_buy, leg_of_shown, leg_with, part_room, resting_leg, shown_line}

-- the leg of a buy and a sell over a route of the graph is the same where its rooms are
resting-rooms : (graph : Graph) (hour : ℕ) (room other : Arc → ℕ) (buy sell : Shown) (route : List Arc)
    → ((arc : Arc) → HasArc graph arc → room arc ≡ other arc) → ((arc : Arc) → IsIn arc route → HasArc graph arc)
    → resting_leg hour room buy sell route ≡ resting_leg hour other buy sell route
resting-rooms graph hour room other buy sell route same known = go (is_earlier buy sell)
  where
    between : (taker maker : Shown) → leg_between hour room taker maker route ≡ leg_between hour other taker maker route
    between taker maker =
        ap (λ (lots : ℕ). record {
          taker = record { hour = hour; number = taker.number };
          maker = record { hour = hour; number = maker.number };
          lots = lots;
          price = maker.price;
          route = route;
        }) (carried-rooms graph room other (min taker.lots maker.lots) route same known)

    go : (b : Bool) → (if b then leg_between hour room sell buy route else leg_between hour room buy sell route)
        ≡ (if b then leg_between hour other sell buy route else leg_between hour other buy sell route)
    go true = between sell buy
    go false = between buy sell

-- a route that leads to a zone of the graph leads from one
way-start : (graph : Graph) (room : Arc → ℕ) (from to : ℕ) (arcs : List Arc) → IsGraph graph → HasZone graph to → IsWay graph room from arcs to → HasZone graph from
way-start graph room from to [] is_graph there way = subst (HasZone graph) (sym way) there
way-start graph room from to (arc ∷ arcs) is_graph there way = subst (HasZone graph) way.1 (start_within graph arc is_graph way.0)

-- ---- as a search finds it

module _ (graph : Graph) (row : List (ℕ × ℕ)) (is_graph : IsGraph graph) (search : Tree) (buy : Shown)
    (fresh : IsFresh graph (room_of row) search) (zone : search.zone ≡ buy.zone) (towards : search.towards ≡ true) where
  route-of : (other : ℕ) → searched_route graph (room_of row) search other ≡ best_route graph (room_of row) other buy.zone
  route-of other = searched_towards graph (room_of row) search buy.zone other zone towards

  met-meets : (sell : Shown) → is_met search buy sell ≡ can_meet graph (room_of row) buy sell
  met-meets sell =
      ap (λ b. crosses Buy buy.price sell.price && b)
      (known_is_reached graph (room_of row) search sell.zone fresh ∙ ap is_some (route-of sell.zone))

  met-found : (sells : List Shown) → find (is_met search buy) sells ≡ find (can_meet graph (room_of row) buy) sells
  met-found sells = find-same (is_met search buy) (can_meet graph (room_of row) buy) sells (λ sell i. met-meets sell)

  module _ (hour : ℕ) (sells : List Shown) where
    abbrev with_found : Option Shown → Option Leg
    with_found o = option_and_then (leg_with graph hour (room_of row) buy) o

    -- it trades with none
    pub leg-none : find (is_met search buy) sells ≡ None → leg_of_buy graph hour (room_of row) sells buy ≡ None
    leg-none none = ap with_found (sym (met-found sells) ∙ none)

    module _ (sell : Shown) (found : find (is_met search buy) sells ≡ Some sell) where
      leg-with : leg_of_buy graph hour (room_of row) sells buy ≡ leg_with graph hour (room_of row) buy sell
      leg-with = ap with_found (sym (met-found sells) ∙ found)

      -- or with one whose zone is the graph's
      pub sell-zone : HasZone graph buy.zone → HasZone graph sell.zone
      sell-zone there = go (best_route graph (room_of row) sell.zone buy.zone) refl
        where
          meets : can_meet graph (room_of row) buy sell ≡ true
          meets = sym (met-meets sell) ∙ (from_find (is_met search buy) sell sells found).1

          go : (o : Option (List Arc)) → best_route graph (room_of row) sell.zone buy.zone ≡ o → HasZone graph sell.zone
          go None e = absurd (true≢false (sym (and_parts (crosses Buy buy.price sell.price) (reaches graph (room_of row) sell.zone buy.zone) meets).1 ∙ ap is_some e))
          go (Some route) e =
              way-start graph (room_of row) sell.zone buy.zone route is_graph there (best_route-is graph (room_of row) sell.zone buy.zone route is_graph e).route.way

      pub leg-no_route : searched_route graph (room_of row) search sell.zone ≡ None → leg_of_buy graph hour (room_of row) sells buy ≡ None
      leg-no_route none = leg-with ∙ ap (option_map (resting_leg hour (room_of row) buy sell)) (sym (route-of sell.zone) ∙ none)

      -- over this route
      pub leg-arcs : (route : List Arc) → searched_route graph (room_of row) search sell.zone ≡ Some route → (arc : Arc) → IsIn arc route → HasArc graph arc
      leg-arcs route best arc i = searched_arcs graph (room_of row) search sell.zone route is_graph best arc i

      pub leg-found : (route : List Arc) → searched_route graph (room_of row) search sell.zone ≡ Some route
          → leg_of_buy graph hour (room_of row) sells buy ≡ Some (resting_leg hour (room_of row) buy sell route)
      leg-found route best = leg-with ∙ ap (option_map (resting_leg hour (room_of row) buy sell)) (sym (route-of sell.zone) ∙ best)

-- ---- as the board has it

module _ (board : BoardState) (part : ℕ) (row : List (ℕ × ℕ)) (are : AreRoomsOf board part row) (is_board : IsBoard board) (buy : Shown) where
  is_board_graph : IsGraph board.grid
  is_board_graph = board-graph board is_board

  route-same : (from : ℕ) → best_route board.grid (room_of row) from buy.zone ≡ best_route board.grid (part_room board part) from buy.zone
  route-same from = best_route-rooms board.grid (room_of row) (part_room board part) from buy.zone is_board_graph are.rooms

  leg-same : (sell : Shown) → leg_with board.grid board.hour (room_of row) buy sell ≡ leg_with board.grid board.hour (part_room board part) buy sell
  leg-same sell =
      go (best_route board.grid (room_of row) sell.zone buy.zone) refl
      ∙ ap (option_map (resting_leg board.hour (part_room board part) buy sell)) (route-same sell.zone)
    where
      go : (o : Option (List Arc)) → best_route board.grid (room_of row) sell.zone buy.zone ≡ o
          → option_map (resting_leg board.hour (room_of row) buy sell) o ≡ option_map (resting_leg board.hour (part_room board part) buy sell) o
      go None e = refl
      go (Some route) e =
          ap Some (resting-rooms board.grid board.hour (room_of row) (part_room board part) buy sell route are.rooms
          (λ arc i. way_has_arc board.grid (room_of row) sell.zone buy.zone route arc
          (best_route-is board.grid (room_of row) sell.zone buy.zone route is_board_graph e).route.way i))

  legs-same : (o : Option Shown) → option_and_then (leg_with board.grid board.hour (room_of row) buy) o ≡ option_and_then (leg_with board.grid board.hour (part_room board part) buy) o
  legs-same None = refl
  legs-same (Some sell) = leg-same sell

  abbrev line : List Shown
  line = shown_line board part Sell

  -- the leg of a buy that pays no more than the best, among fronts of the sells and over the row of rooms, is that of the board
  pub fronts-leg : (best : Shown) (fronts : List Shown) → AreFronts line best fronts → is_lt (price_cmp Buy buy.price best.price) ≡ false
      → leg_of_buy board.grid board.hour (room_of row) fronts buy ≡ leg_of_shown board part buy
  fronts-leg best fronts decide worse =
      ap (option_and_then (leg_with board.grid board.hour (room_of row) buy))
      (decide (λ from. reaches board.grid (room_of row) from buy.zone) buy worse
      ∙ find-same (can_meet board.grid (room_of row) buy) (can_meet board.grid (part_room board part) buy) line
      (λ sell i. ap (λ b. crosses Buy buy.price sell.price && b) (ap is_some (route-same sell.zone))))
      ∙ legs-same (find (can_meet board.grid (part_room board part) buy) line)

  -- so is what is asked of it, if its zone was not tried
  pub fronts-asked : (graph : Graph) (hour : ℕ) (best : Shown) (fronts : List Shown) (tried : List Bool) (found : Option Leg)
      → graph ≡ board.grid → hour ≡ board.hour → AreFronts line best fronts → is_lt (price_cmp Buy buy.price best.price) ≡ false
      → found ≡ (if is_marked tried buy.zone then None else leg_of_buy graph hour (room_of row) fronts buy)
      → found ≡ (if is_marked tried buy.zone then None else leg_of_shown board part buy)
  fronts-asked graph hour best fronts tried found over_grid in_hour decide worse told =
      told ∙ ap (λ (o : Option Leg). if is_marked tried buy.zone then None else o)
      (ap (λ g. leg_of_buy g hour (room_of row) fronts buy) over_grid ∙ ap (λ h. leg_of_buy board.grid h (room_of row) fronts buy) in_hour
      ∙ fronts-leg best fronts decide worse)
