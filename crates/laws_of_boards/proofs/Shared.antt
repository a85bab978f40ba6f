-- What the events of a board say is what the history says whose hour they are: the two agree on it.
use Rattle.std.proofs.Common.{◌≡◌, ◌∙◌, inl, ℕ, ◌≤◌, Bool, List, [], ◌∷◌, nat_eq, eq-eqb, refl, sym, ap, subst}
use Rattle.order_kinds.specs.declared.contract.Contract.{Contract}
use Rattle.order_kinds.specs.declared.order.OrderName.{OrderName}
use Rattle.order_kinds.specs.Period.{contract_quarters}
use Rattle.zone_graph.specs.declared.route.Arc.{Arc}
use Rattle.zone_graph.specs.Graph.{Graph, IsGraph}
use Rattle.zone_graph.specs.Route.{IsIn, IsRoute}
use Rattle.zone_graph.proofs.Membership.{IsIn-filter, from_filter}
use Rattle.market_model.specs.declared.event.Event.{Event}
use Rattle.market_model.specs.declared.event.Leg.{Leg}
use Rattle.market_model.specs.declared.setup.Setup.{Setup}
use Rattle.market_model.specs.Board.{BoardState, IsBoard, IsHourOf}
use Rattle.market_model.specs.Grid.{graph_of}
use Rattle.market_model.specs.Lines.{buyer_zone, seller_zone}
use Rattle.market_model.specs.Orders.{Placed, Standing, placed, standing}
use Rattle.market_model.specs.Room.{room}
use Rattle.market_model.specs.WellFormed.{IsOpenOrder, LegFits}
use Rattle.laws_of_market.proofs.LocalLines.{contract-hours, placed-named, standing-agree}
use Rattle.laws_of_market.proofs.LocalStates.{Agree, is_open-agree, placed-agree, room-agree}
use Rattle.laws_of_market.proofs.OfHours.{one-agrees}

-- histories that agree the one way agree the other way
pub agree-turned : (hours : List ℕ) (a b : List Event) → Agree hours a b → Agree hours b a
agree-turned hours a b agree = record { named_a = agree.named_b; named_b = agree.named_a; same = λ hour i. sym (agree.same hour i) }

module _ (hour : ℕ) (a b : List Event) (agree : Agree (hour ∷ []) a b) where
  -- the hour of an order is that of its contract
  order-hour : (contract : Contract) (order : Placed) → contract.hour ≡ hour → order.order.contract ≡ contract → IsIn order (placed a) → order.name.hour ≡ hour
  order-hour contract order in_hour of_contract there = placed-named a agree.named_a order there ∙ ap (λ (c : Contract). c.hour) of_contract ∙ in_hour

  -- an order of the hour that entered in the one entered in the other
  pub placed-shared : (order : Placed) → order.name.hour ≡ hour → IsIn order (placed a) → IsIn order (placed b)
  placed-shared order same there =
      let in_hour : Placed → Bool = λ o. nat_eq o.name.hour hour in
      let of_a = IsIn-filter in_hour order (placed a) there (eq-eqb order.name.hour hour same) in
      (from_filter in_hour order (placed b) (subst (IsIn order) (placed-agree (hour ∷ []) a b agree hour (inl refl)) of_a)).0

  -- one that is open in the one is open in the other
  open-shared : (order : Placed) (name : OrderName) → order.name.hour ≡ hour → IsOpenOrder a order name → IsOpenOrder b order name
  open-shared order name same opened =
      let its_hour : name.hour ≡ hour = ap (λ (n : OrderName). n.hour) (sym opened.is_named) ∙ same in
      record {
        is_placed = placed-shared order same opened.is_placed;
        is_named = opened.is_named;
        is_left = sym (is_open-agree (hour ∷ []) a b agree name (inl its_hour)) ∙ opened.is_left;
      }

  -- a leg of the hour that fits the one fits the other, over any setup of the same graph
  pub leg-shared : (setup other : Setup) (contract : Contract) (leg : Leg) → graph_of setup ≡ graph_of other → contract.hour ≡ hour → LegFits setup a contract leg
      → LegFits other b contract leg
  leg-shared setup other contract leg same_graph in_hour fits =
      let taker_hour = order-hour contract fits.taker in_hour fits.taker_contract fits.taker_open.is_placed in
      let maker_hour = order-hour contract fits.maker in_hour fits.maker_contract fits.maker_open.is_placed in
      let taker_is = standing-agree (hour ∷ []) a b agree fits.taker (inl taker_hour) in
      let maker_is = standing-agree (hour ∷ []) a b agree fits.maker (inl maker_hour) in
      let rooms = room-agree (hour ∷ []) a b agree (contract_quarters contract) (contract-hours (hour ∷ []) contract (inl in_hour)) in
      let from : ℕ = seller_zone (standing b fits.taker) (standing b fits.maker) in
      let to : ℕ = buyer_zone (standing b fits.taker) (standing b fits.maker) in
      record {
        taker = fits.taker;
        maker = fits.maker;
        taker_open = open-shared fits.taker leg.taker taker_hour fits.taker_open;
        maker_open = open-shared fits.maker leg.maker maker_hour fits.maker_open;
        taker_contract = fits.taker_contract;
        maker_contract = fits.maker_contract;
        opposed = fits.opposed;
        price = fits.price ∙ ap (λ (s : Standing). s.price) maker_is;
        some = fits.some;
        taker_shows = subst (λ (s : Standing). leg.lots ≤ s.shown) taker_is fits.taker_shows;
        maker_shows = subst (λ (s : Standing). leg.lots ≤ s.shown) maker_is fits.maker_shows;
        carried = record {
          is_route = subst (λ g. IsRoute g (room b (contract_quarters contract)) from to leg.route) same_graph
              (subst (λ (r : Arc → ℕ). IsRoute (graph_of setup) r from to leg.route) rooms fits.carried.is_route);
          has_room = λ arc i. subst (λ (r : Arc → ℕ). leg.lots ≤ r arc) rooms (fits.carried.has_room arc i);
        };
      }

-- the events of a board agree with the history whose hour they are
pub hour-agrees : (graph : Graph) (hour : ℕ) (events : List Event) (stands : IsHourOf graph hour events) → Agree (hour ∷ []) events stands.history
hour-agrees graph hour events stands =
    subst (λ es. Agree (hour ∷ []) es stands.history) stands.in_hour (one-agrees stands.setup stands.history stands.fit hour)

pub board-agrees : (board : BoardState) (is_board : IsBoard board) → Agree (board.hour ∷ []) board.events is_board.stands.history
board-agrees board is_board = hour-agrees board.grid board.hour board.events is_board.stands

-- its grid is a graph
pub board-graph : (board : BoardState) → IsBoard board → IsGraph board.grid
board-graph board is_board = subst IsGraph is_board.stands.over_grid is_board.stands.is_setup
