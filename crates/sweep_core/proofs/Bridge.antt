-- The leg of a part of an hour is that of its lines as the board shows them.
use Rattle.std.proofs.Common.{◌≡◌, ◌∙◌, ◌<◌, ℕ, Bool, true, false, List, [], ◌∷◌, length, map, min, Option, Some, None, if◌then◌else◌, refl, sym, ap, subst}
use Rattle.std.specs.List.{find}
use Rattle.std.specs.Option.{IfSome, option_and_then, option_map}
use Rattle.std.specs.Ordering.{is_lt}
use Rattle.order_kinds.specs.declared.contract.Contract.{Contract}
use Rattle.order_kinds.specs.declared.order.OrderName.{OrderName}
use Rattle.order_kinds.specs.declared.side.Side.{Side}
use Rattle.order_kinds.specs.declared.side.Side.TheVariants.{Buy, Sell}
use Rattle.order_kinds.specs.Contract.{contract_at}
use Rattle.order_kinds.specs.Period.{contract_quarters}
use Rattle.order_kinds.specs.Side.{crosses, opposite}
use Rattle.zone_graph.specs.declared.route.Arc.{Arc}
use Rattle.zone_graph.specs.Graph.{HasArc, border_count}
use Rattle.zone_graph.specs.Rooms.{room_of}
use Rattle.zone_graph.specs.Route.{IsIn, best_route, carried}
use Rattle.zone_graph.proofs.Finding.{find-map, from_find}
use Rattle.market_model.specs.declared.board.Shown.{Shown}
use Rattle.market_model.specs.declared.event.Event.{Event}
use Rattle.market_model.specs.declared.event.Event.TheVariants as event
use Rattle.market_model.specs.declared.event.Leg.{Leg}
use Rattle.market_model.specs.Board.{BoardState, IsBoard, first_shown, resting_line, shown_of}
use Rattle.market_model.specs.Lines.{buyer_zone, can_trade, line, partner, rooms_for, time_cmp}
use Rattle.market_model.specs.Orders.{Standing}
use Rattle.market_model.specs.Room.{room}
use Rattle.market_model.specs.Sweep.{first_answer, leg_of_buy as market_leg, or_else, resting_trade}
use Rattle.market_model.specs.Taking.{leg_over, trade}
use Rattle.laws_of_market.proofs.Lines.{buyer-to-buy, buyer-to-sell, seller-to-buy, seller-to-sell}
use Rattle.laws_of_market.proofs.Trades.{from_line}
use Rattle.laws_of_market.proofs.LocalLines.{first_answer-same}
use Rattle.laws_of_market.proofs.Restrict.{find-same}
use Rattle.laws_of_boards.specs.Fronts.{firsts_cross}
use Rattle.laws_of_boards.proofs.Worse.{uncrossed}
use Rattle.sweep_core.specs.Meeting.{AreRoomsOf, can_meet, leg_between, leg_of_buy, leg_of_lines, leg_with, part_room, resting_leg, shown_leg, shown_line}
use Rattle.sweep_core.specs.declared.parts.PartLeg.{PartLeg}
use Rattle.sweep_core.specs.Sweeping.{IsFoundIn, event_in, leg_event, may_open, part_leg}
use Rattle.sweep_core.proofs.Lines.{in_hour, whole-line}
use Rattle.sweep_core.proofs.Opening.{arcs-known, may-open-same}
use Rattle.sweep_core.proofs.Progress.{can-be-made}

-- the first answer of a list that is told of each item by another one
answers-map : {X Z Y W : Type 0} (g : X → Z) (f : Y → W) (ask : Z → Option Y) (xs : List X)
    → first_answer (λ x. option_map f (ask (g x))) xs ≡ option_map f (first_answer ask (map g xs))
answers-map g f ask [] = refl
answers-map {X} {Z} {Y} {W} g f ask (x ∷ xs) = go (ask (g x)) (answers-map g f ask xs)
  where
    go : (o : Option Y) → first_answer (λ x. option_map f (ask (g x))) xs ≡ option_map f (first_answer ask (map g xs))
        → or_else (option_map f o) (λ _. first_answer (λ x. option_map f (ask (g x))) xs) ≡ option_map f (or_else o (λ _. first_answer ask (map g xs)))
    go None rest = rest
    go (Some y) rest = refl

map-same : {X Y : Type 0} (f g : X → Y) (o : Option X) → ((x : X) → f x ≡ g x) → option_map f o ≡ option_map g o
map-same f g None same = refl
map-same f g (Some x) same = ap Some (same x)

map-map : {X Y Z : Type 0} (g : Y → Z) (f : X → Y) (o : Option X) → option_map g (option_map f o) ≡ option_map (λ x. g (f x)) o
map-map g f None = refl
map-map g f (Some x) = refl

module _ (board : BoardState) (part : ℕ) (is_board : IsBoard board) where
  abbrev contract : Contract
  contract = contract_at board.hour part

  abbrev buys : List Standing
  buys = line board.events contract Buy

  abbrev sells : List Standing
  sells = line board.events contract Sell

  -- what stands in a line of the part
  record IsHere (side : Side) (own : Standing) : Type 0 where
    on_side : own.order.side ≡ side
    of_contract : own.order.contract ≡ contract
    named : own.name ≡ record { hour = board.hour; number = own.name.number }

  is-here : (side : Side) (own : Standing) → IsIn own (line board.events contract side) → IsHere side own
  is-here side own i =
      let stands = from_line board.events contract side own i in
      record {
        on_side = ap (λ (s : Standing). s.order.side) stands.is ∙ stands.on_side;
        of_contract = ap (λ (s : Standing). s.order.contract) stands.is ∙ stands.of_contract;
        named = ap (λ (h : ℕ). record { hour = h; number = own.name.number }) (in_hour board part side is_board own i);
      }

  -- the leg of a taker with a maker of the part over a route
  leg-same : (taker maker : Standing) (route : List Arc) → taker.order.contract ≡ contract
      → taker.name ≡ record { hour = board.hour; number = taker.name.number } → maker.name ≡ record { hour = board.hour; number = maker.name.number }
      → leg_over (rooms_for board.events taker) taker maker route
      ≡ event_in board part (leg_between board.hour (part_room board part) (shown_of taker) (shown_of maker) route)
  leg-same taker maker route of_contract taker_named maker_named =
      ap (λ (c : Contract). leg_as c taker.name maker.name) of_contract
      ∙ ap (λ (n : OrderName). leg_as contract n maker.name) taker_named
      ∙ ap (λ (n : OrderName). leg_as contract (record { hour = board.hour; number = taker.name.number }) n) maker_named
    where
      leg_as : Contract → (taker_name maker_name : OrderName) → Event
      leg_as c taker_name maker_name = event.Leg c (record {
        taker = taker_name;
        maker = maker_name;
        lots = carried (room board.events (contract_quarters c)) (min taker.shown maker.shown) route;
        price = maker.price;
        route = route;
      })

  module _ (buy sell : Standing) (of_buy : IsHere Buy buy) (of_sell : IsHere Sell sell) where
    -- who of them can trade
    trades-meet : can_trade board.grid (rooms_for board.events buy) buy sell ≡ can_meet board.grid (part_room board part) (shown_of buy) (shown_of sell)
    trades-meet = rw (of_buy.on_side, of_buy.of_contract) refl

    -- the trade of the two, whoever takes
    trade-buy : trade board.grid board.events buy sell
        ≡ option_map (λ route. event_in board part (leg_between board.hour (part_room board part) (shown_of buy) (shown_of sell) route))
        (best_route board.grid (part_room board part) sell.order.zone buy.order.zone)
    unfolding trade
    trade-buy =
        let rooms = rooms_for board.events buy in
        ap (λ z. option_map (leg_over rooms buy sell) (best_route board.grid rooms z (buyer_zone buy sell))) (seller-to-buy buy sell of_buy.on_side)
        ∙ ap (λ z. option_map (leg_over rooms buy sell) (best_route board.grid rooms sell.order.zone z)) (buyer-to-buy buy sell of_buy.on_side)
        ∙ ap (λ (c : Contract). option_map (leg_over rooms buy sell) (best_route board.grid (room board.events (contract_quarters c)) sell.order.zone buy.order.zone)) of_buy.of_contract
        ∙ map-same (leg_over rooms buy sell) (λ route. event_in board part (leg_between board.hour (part_room board part) (shown_of buy) (shown_of sell) route))
        (best_route board.grid (part_room board part) sell.order.zone buy.order.zone)
        (λ route. leg-same buy sell route of_buy.of_contract of_buy.named of_sell.named)

    trade-sell : trade board.grid board.events sell buy
        ≡ option_map (λ route. event_in board part (leg_between board.hour (part_room board part) (shown_of sell) (shown_of buy) route))
        (best_route board.grid (part_room board part) sell.order.zone buy.order.zone)
    unfolding trade
    trade-sell =
        let rooms = rooms_for board.events sell in
        ap (λ z. option_map (leg_over rooms sell buy) (best_route board.grid rooms z (buyer_zone sell buy))) (seller-to-sell sell buy of_sell.on_side)
        ∙ ap (λ z. option_map (leg_over rooms sell buy) (best_route board.grid rooms sell.order.zone z)) (buyer-to-sell sell buy of_sell.on_side)
        ∙ ap (λ (c : Contract). option_map (leg_over rooms sell buy) (best_route board.grid (room board.events (contract_quarters c)) sell.order.zone buy.order.zone)) of_sell.of_contract
        ∙ map-same (leg_over rooms sell buy) (λ route. event_in board part (leg_between board.hour (part_room board part) (shown_of sell) (shown_of buy) route))
        (best_route board.grid (part_room board part) sell.order.zone buy.order.zone)
        (λ route. leg-same sell buy route of_sell.of_contract of_sell.named of_buy.named)

    resting-same : resting_trade board.grid board.events buy sell
        ≡ option_map (event_in board part) (leg_with board.grid board.hour (part_room board part) (shown_of buy) (shown_of sell))
    resting-same =
        go (is_lt (time_cmp buy sell))
        ∙ sym (map-map (event_in board part) (resting_leg board.hour (part_room board part) (shown_of buy) (shown_of sell))
        (best_route board.grid (part_room board part) sell.order.zone buy.order.zone))
      where
        go : (b : Bool) → (if b then trade board.grid board.events sell buy else trade board.grid board.events buy sell)
            ≡ option_map (λ route. event_in board part (if b then leg_between board.hour (part_room board part) (shown_of sell) (shown_of buy) route
            else leg_between board.hour (part_room board part) (shown_of buy) (shown_of sell) route))
            (best_route board.grid (part_room board part) sell.order.zone buy.order.zone)
        go true = trade-sell
        go false = trade-buy

  module _ (buy : Standing) (i : IsIn buy buys) where
    of_buy : IsHere Buy buy
    of_buy = is-here Buy buy i

    partner-same : partner board.grid board.events buy ≡ find (can_trade board.grid (rooms_for board.events buy) buy) sells
    unfolding partner
    partner-same =
        ap (λ (c : Contract). find (can_trade board.grid (rooms_for board.events buy) buy) (line board.events c (opposite buy.order.side))) of_buy.of_contract
        ∙ ap (λ s. find (can_trade board.grid (rooms_for board.events buy) buy) (line board.events contract (opposite s))) of_buy.on_side

    met-same : find (can_meet board.grid (part_room board part) (shown_of buy)) (map shown_of sells)
        ≡ option_map shown_of (find (can_trade board.grid (rooms_for board.events buy) buy) sells)
    met-same =
        find-map (can_meet board.grid (part_room board part) (shown_of buy)) shown_of sells
        ∙ ap (option_map shown_of) (sym (find-same (can_trade board.grid (rooms_for board.events buy) buy)
        (λ sell. can_meet board.grid (part_room board part) (shown_of buy) (shown_of sell)) sells
        (λ sell j. trades-meet buy sell of_buy (is-here Sell sell j))))

    abbrev with_shown : Option Shown → Option Event
    with_shown o = option_map (event_in board part) (option_and_then (leg_with board.grid board.hour (part_room board part) (shown_of buy)) o)

    buy-same : market_leg board.grid board.events buy ≡ option_map (event_in board part) (leg_of_buy board.grid board.hour (part_room board part) (map shown_of sells) (shown_of buy))
    buy-same =
        ap (λ o. option_and_then (resting_trade board.grid board.events buy) o) partner-same
        ∙ go (find (can_trade board.grid (rooms_for board.events buy) buy) sells) refl
        ∙ ap with_shown (sym met-same)
      where
        go : (o : Option Standing) → find (can_trade board.grid (rooms_for board.events buy) buy) sells ≡ o
            → option_and_then (resting_trade board.grid board.events buy) o ≡ with_shown (option_map shown_of o)
        go None e = refl
        go (Some sell) e =
            resting-same buy sell of_buy (is-here Sell sell (from_find (can_trade board.grid (rooms_for board.events buy) buy) sell sells e).0)

  -- the leg of the part
  pub shown-same : board.hand ≡ None → part_leg board part ≡ option_map (event_in board part) (shown_leg board part)
  shown-same no_hand =
      first_answer-same (market_leg board.grid board.events)
      (λ buy. option_map (event_in board part) (leg_of_buy board.grid board.hour (part_room board part) (map shown_of sells) (shown_of buy))) buys
      (λ buy i. buy-same buy i)
      ∙ answers-map shown_of (event_in board part) (leg_of_buy board.grid board.hour (part_room board part) (map shown_of sells)) buys
      ∙ ap (λ (b : List Standing). option_map (event_in board part) (leg_of_lines board.grid board.hour (part_room board part) (map shown_of sells) (map shown_of b)))
      (sym (whole-line board part Buy no_hand))
      ∙ ap (λ (s : List Standing). option_map (event_in board part) (leg_of_lines board.grid board.hour (part_room board part) (map shown_of s) (shown_line board part Buy)))
      (sym (whole-line board part Sell no_hand))

  -- where a leg is found it is the part's, and its arcs are the grid's
  pub found-is : (leg : Leg) → board.hand ≡ None → Some leg ≡ shown_leg board part → part_leg board part ≡ Some (event_in board part leg)
  found-is leg no_hand e = shown-same no_hand ∙ ap (option_map (event_in board part)) (sym e)

  pub found-arcs : (leg : Leg) → board.hand ≡ None → Some leg ≡ shown_leg board part → (arc : Arc) → IsIn arc leg.route → HasArc board.grid arc
  found-arcs leg no_hand e = arcs-known board part leg (can-be-made board part leg is_board (found-is leg no_hand e))

  -- so it is with what is told of it
  abbrev told : List (ℕ × ℕ) → Leg → PartLeg
  told row leg = record { part = part; leg = leg; opens = may_open (room_of row) leg.route }

  pub told-is : (found : Option Leg) (row : List (ℕ × ℕ)) → board.hand ≡ None → found ≡ shown_leg board part → AreRoomsOf board part row
      → IfSome (option_map (told row) found) (λ next. IsFoundIn board next)
  told-is None row no_hand e are = tt
  told-is (Some leg) row no_hand e are = record {
    stands = is_board;
    is = found-is leg no_hand e;
    opens = may-open-same board (room_of row) (part_room board part) leg.route are.rooms (found-arcs leg no_hand e);
  }

  pub told-part : (found : Option Leg) (row : List (ℕ × ℕ)) → IfSome (option_map (told row) found) (λ next. next.part ≡ part)
  told-part None row = tt
  told-part (Some leg) row = refl

  pub told-leg : (found : Option Leg) (row : List (ℕ × ℕ)) → board.hand ≡ None → found ≡ shown_leg board part
      → part_leg board part ≡ option_map (leg_event board) (option_map (told row) found)
  told-leg found row no_hand e = shown-same no_hand ∙ ap (option_map (event_in board part)) (sym e) ∙ sym (map-map (leg_event board) (told row) found)

  pub told-arcs : (found : Option Leg) (row : List (ℕ × ℕ)) → board.hand ≡ None → found ≡ shown_leg board part → AreRoomsOf board part row
      → IfSome found (λ leg. (arc : Arc) → IsIn arc leg.route → arc.border < length row)
  told-arcs None row no_hand e are = tt
  told-arcs (Some leg) row no_hand e are = λ arc i. subst (λ n. arc.border < n) (sym are.size) (found-arcs leg no_hand e arc i)

-- ---- where nothing crosses

no-buy : (b s : List Standing) → first_shown b ≡ None → firsts_cross b s ≡ false
no-buy [] [] e = refl
no-buy [] (x ∷ s) e = refl
no-buy (x ∷ b) s e = absurd (cc)

no-sell : (b s : List Standing) → first_shown s ≡ None → firsts_cross b s ≡ false
no-sell [] [] e = refl
no-sell (x ∷ b) [] e = refl
no-sell b (x ∷ s) e = absurd (cc)

no-cross : (b s : List Standing) (buy sell : Shown) → first_shown b ≡ Some buy → first_shown s ≡ Some sell → crosses Buy buy.price sell.price ≡ false → firsts_cross b s ≡ false
no-cross [] s buy sell e f none = absurd (cc)
no-cross (x ∷ b) [] buy sell e f none = absurd (cc)
no-cross (x ∷ b) (y ∷ s) buy sell e f none =
    let one : shown_of x ≡ buy = cc in
    let other : shown_of y ≡ sell = cc in
    ap (λ (o : Shown). crosses Buy o.price y.price) one ∙ ap (λ (o : Shown). crosses Buy buy.price o.price) other ∙ none

module _ (board : BoardState) (part : ℕ) (no_hand : board.hand ≡ None) where
  quiet : firsts_cross (resting_line board part Buy) (resting_line board part Sell) ≡ false → part_leg board part ≡ None
  quiet none =
      uncrossed board.grid board.events (contract_at board.hour part)
      (ap (λ b. firsts_cross b (line board.events (contract_at board.hour part) Sell)) (sym (whole-line board part Buy no_hand))
      ∙ ap (λ s. firsts_cross (resting_line board part Buy) s) (sym (whole-line board part Sell no_hand)) ∙ none)

  pub quiet-no_buy : first_shown (resting_line board part Buy) ≡ None → part_leg board part ≡ None
  quiet-no_buy none = quiet (no-buy (resting_line board part Buy) (resting_line board part Sell) none)

  pub quiet-no_sell : first_shown (resting_line board part Sell) ≡ None → part_leg board part ≡ None
  quiet-no_sell none = quiet (no-sell (resting_line board part Buy) (resting_line board part Sell) none)

  pub quiet-no_cross : (buy sell : Shown) → first_shown (resting_line board part Buy) ≡ Some buy → first_shown (resting_line board part Sell) ≡ Some sell
      → crosses Buy buy.price sell.price ≡ false → part_leg board part ≡ None
  quiet-no_cross buy sell e f none = quiet (no-cross (resting_line board part Buy) (resting_line board part Sell) buy sell e f none)

-- a row that the board has written has the rooms of the part
pub rooms-are : (board : BoardState) (part : ℕ) (row : List (ℕ × ℕ)) → length row ≡ border_count board.grid
    → ((arc : Arc) → arc.border < border_count board.grid → room_of row arc ≡ room board.events (contract_quarters (contract_at board.hour part)) arc)
    → AreRoomsOf board part row
rooms-are board part row size rooms = record { size = size; rooms = rooms }
