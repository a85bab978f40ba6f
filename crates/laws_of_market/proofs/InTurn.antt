-- The next legs of takings and of sweeps are in their turn.
use Rattle.std.proofs.Common.{◌≡◌, ◌∙◌, ℕ, Bool, true, false, List, Some, None, refl, sym, ap, subst, if◌then◌else◌}
use Rattle.std.proofs.lemmas.Bool.{and_parts}
use Rattle.std.specs.Ordering.{is_lt}
use Rattle.order_kinds.specs.declared.contract.Contract.{Contract}
use Rattle.order_kinds.specs.declared.contract.Part.{Part}
use Rattle.order_kinds.specs.declared.order.OrderName.{OrderName}
use Rattle.order_kinds.specs.declared.side.Side.{Side}
use Rattle.order_kinds.specs.declared.side.Side.TheVariants.{Buy, Sell}
use Rattle.order_kinds.specs.Side.{crosses, opposite}
use Rattle.zone_graph.specs.Graph.{Graph}
use Rattle.zone_graph.specs.Reach.{reaches}
use Rattle.zone_graph.specs.Route.{IsIn}
use Rattle.zone_graph.proofs.Finding.{find-none}
use Rattle.market_model.specs.declared.event.Event.{Event}
use Rattle.market_model.specs.declared.event.Event.TheVariants as event
use Rattle.market_model.specs.Lines.{buyer_zone, can_trade, line, partner, priority_cmp, rooms_for, seller_zone, time_cmp}
use Rattle.market_model.specs.Orders.{Placed, Standing, open_order, standing}
use Rattle.market_model.specs.Sweep.{leg_in, leg_of_buy, resting_trade, sweep_leg}
use Rattle.market_model.specs.Taking.{next_leg, standing_order, trade}
use Rattle.laws_of_market.proofs.Ascending.{IsFirstAsked, asked-first, found-first}
use Rattle.laws_of_market.proofs.Falls.{trade-leg}
use Rattle.laws_of_market.proofs.Legs.{open_order-is}
use Rattle.laws_of_market.proofs.Lines.{IsIn-line, line-ascends, no_partner, priority_weak, time_weak}
use Rattle.laws_of_market.proofs.Members.{from_first_answer}
use Rattle.laws_of_market.proofs.Repeats.{bind-some, map-some}
use Rattle.laws_of_market.proofs.Trades.{IsInLine, IsOpen, IsPartner, from_line, partner-is}
use Rattle.laws_of_market.specs.QueueOrder.{GoesBefore, IsInTurn, IsOfFirstBuy, buy_of, goes_before}

-- an event is, where it is a leg, in its turn
abbrev pub IsTurn : Graph → List Event → Event → Type 0
IsTurn graph events (event.Leg contract leg) = IsInTurn graph events contract leg
IsTurn graph events _ = Unit {0}

-- and of the first buy that can trade
abbrev pub IsFirstTurn : Graph → List Event → Event → Type 0
IsFirstTurn graph events (event.Leg contract leg) = IsOfFirstBuy graph events contract leg
IsFirstTurn graph events _ = Unit {0}

-- who can trade, can, whoever is the taker
can_trade-turned : (graph : Graph) (events : List Event) (buy sell : Standing) → buy.order.side ≡ Buy → sell.order.side ≡ Sell
    → sell.order.contract ≡ buy.order.contract → can_trade graph (rooms_for events sell) sell buy ≡ can_trade graph (rooms_for events buy) buy sell
can_trade-turned graph events buy sell on_buy on_sell same = rw (on_buy, on_sell, same) refl

-- the buy of two orders
buy_of-buy : (taker maker : Placed) → taker.order.side ≡ Buy → buy_of taker maker ≡ taker
buy_of-buy taker maker is = rw is refl

buy_of-sell : (taker maker : Placed) → taker.order.side ≡ Sell → buy_of taker maker ≡ maker
buy_of-sell taker maker is = rw is refl

module _ (graph : Graph) (events : List Event) where
  -- an open order of a line before one of its orders
  in_line : (other : Placed) (contract : Contract) (side : Side) → IsOpen events other → other.order.contract ≡ contract → other.order.side ≡ side
      → IsIn (standing events other) (line events contract side)
  in_line other contract side opened same on_side =
      subst (λ s. IsIn (standing events other) (line events contract s)) on_side
      (subst (λ c. IsIn (standing events other) (line events c other.order.side)) same (IsIn-line events other opened))

  opened : (other maker : Placed) → GoesBefore events other maker → IsOpen events other
  opened other maker is = record { is_placed = is.is_placed; is_left = is.is_left }

  -- none before the partner can trade
  before_partner : (own maker : Placed) → partner graph events (standing events own) ≡ Some (standing events maker) → maker.order.contract ≡ own.order.contract
      → maker.order.side ≡ opposite own.order.side → (other : Placed) → GoesBefore events other maker
      → can_trade graph (rooms_for events (standing events own)) (standing events own) (standing events other) ≡ false
  unfolding partner
  before_partner own maker is same on_side other first =
      let contract : Contract = own.order.contract in
      let side : Side = opposite own.order.side in
      found-first (priority_cmp side) (priority_weak side) (can_trade graph (rooms_for events (standing events own)) (standing events own)) (line events contract side)
      (standing events maker) (line-ascends events contract side) is (standing events other)
      (in_line other contract side (opened other maker first) (first.one_contract ∙ same) (first.one_side ∙ on_side))
      (subst (λ s. goes_before s (standing events other) (standing events maker) ≡ true) on_side first.first)

  -- none before a buy that trades, where those before it have no partner
  before_buy : (buy sell : Placed) → buy.order.side ≡ Buy → sell.order.side ≡ Sell → IsOpen events sell → sell.order.contract ≡ buy.order.contract
      → ((other : Placed) → GoesBefore events other buy → partner graph events (standing events other) ≡ None) → (other : Placed) → GoesBefore events other buy
      → can_trade graph (rooms_for events (standing events sell)) (standing events sell) (standing events other) ≡ false
  unfolding partner
  before_buy buy sell on_buy on_sell sell_open same none other first =
      let other_buy : other.order.side ≡ Buy = first.one_side ∙ on_buy in
      let one_contract : sell.order.contract ≡ other.order.contract = same ∙ sym first.one_contract in
      can_trade-turned graph events (standing events other) (standing events sell) other_buy on_sell one_contract
      ∙ find-none (can_trade graph (rooms_for events (standing events other)) (standing events other)) (line events other.order.contract (opposite other.order.side))
      (none other first) (standing events sell) (in_line sell other.order.contract (opposite other.order.side) sell_open one_contract (on_sell ∙ sym (ap opposite other_buy)))

  -- a trade of two open orders is a leg in its turn, where none before the maker can trade
  module _ (taker maker : Placed) (taker_open : IsOpen events taker) (maker_open : IsOpen events maker) (same : maker.order.contract ≡ taker.order.contract)
      (opposed : maker.order.side ≡ opposite taker.order.side) (can : can_trade graph (rooms_for events (standing events taker)) (standing events taker) (standing events maker) ≡ true)
      (none : (other : Placed) → GoesBefore events other maker → can_trade graph (rooms_for events (standing events taker)) (standing events taker) (standing events other) ≡ false) where
    abbrev own : Standing
    own = standing events taker

    abbrev its : Standing
    its = standing events maker

    turn-of_trade : (e : Event) → trade graph events own its ≡ Some e → IsTurn graph events e
    turn-of_trade e is =
        let leg = trade-leg graph events own its e is in
        subst (IsTurn graph events) leg.is (record {
          taker = taker;
          maker = maker;
          taker_open = record { is_placed = taker_open.is_placed; is_named = refl; is_left = taker_open.is_left };
          maker_open = record { is_placed = maker_open.is_placed; is_named = refl; is_left = maker_open.is_left };
          taker_contract = refl;
          maker_contract = same;
          opposed = opposed;
          price = refl;
          no_worse = (and_parts (crosses taker.order.side own.price its.price) (reaches graph (rooms_for events own) (seller_zone own its) (buyer_zone own its)) can).0;
          none_passed = none;
        })

    first_turn-of_trade : ((other : Placed) → GoesBefore events other (buy_of taker maker) → partner graph events (standing events other) ≡ None)
        → is_lt (time_cmp own its) ≡ false → (e : Event) → trade graph events own its ≡ Some e → IsFirstTurn graph events e
    first_turn-of_trade none_before earlier e is =
        let leg = trade-leg graph events own its e is in
        subst (IsFirstTurn graph events) leg.is (record {
          in_turn = record {
            taker = taker;
            maker = maker;
            taker_open = record { is_placed = taker_open.is_placed; is_named = refl; is_left = taker_open.is_left };
            maker_open = record { is_placed = maker_open.is_placed; is_named = refl; is_left = maker_open.is_left };
            taker_contract = refl;
            maker_contract = same;
            opposed = opposed;
            price = refl;
            no_worse = (and_parts (crosses taker.order.side own.price its.price) (reaches graph (rooms_for events own) (seller_zone own its) (buyer_zone own its)) can).0;
            none_passed = none;
          };
          none_before = none_before;
          earlier = earlier;
        })

  -- ---- takings

  pub next_leg-turn : (name : OrderName) (e : Event) → next_leg graph name events ≡ Some e → IsTurn graph events e
  unfolding next_leg
  next_leg-turn name e is =
      let own = bind-some _ (standing_order events name) e is in
      let found = map-some (standing events) (open_order events name) own.0 own.1 in
      let order = open_order-is events name found.0 found.1 in
      let other = bind-some _ (partner graph events own.0) e own.2 in
      let at_own : partner graph events (standing events found.0) ≡ Some other.0 = subst (λ s. partner graph events s ≡ Some other.0) (sym found.2) other.1 in
      let is_partner = partner-is graph events (standing events found.0) other.0 at_own in
      let line = is_partner.in_line in
      let maker : Placed = line.order in
      let traded : trade graph events (standing events found.0) other.0 ≡ Some e = subst (λ s. trade graph events s other.0 ≡ Some e) (sym found.2) other.2 in
      turn-of_trade found.0 maker order.is_open line.is_open line.of_contract line.on_side
      (subst (λ s. can_trade graph (rooms_for events (standing events found.0)) (standing events found.0) s ≡ true) line.is is_partner.can_trade)
      (before_partner found.0 maker (subst (λ s. partner graph events (standing events found.0) ≡ Some s) line.is at_own) line.of_contract line.on_side) e
      (subst (λ s. trade graph events (standing events found.0) s ≡ Some e) line.is traded)

  -- ---- sweeps

  -- the leg of a buy with its partner, where no buy before it has a partner
  resting-turn : (buy : Placed) (found : Standing) (e : Event) → buy.order.side ≡ Buy → IsOpen events buy → partner graph events (standing events buy) ≡ Some found
      → resting_trade graph events (standing events buy) found ≡ Some e
      → ((other : Placed) → GoesBefore events other buy → partner graph events (standing events other) ≡ None) → IsFirstTurn graph events e
  resting-turn buy found e on_buy buy_open is traded none =
      by (is_lt (time_cmp (standing events buy) (standing events sell))) refl
      (subst (λ s. resting_trade graph events (standing events buy) s ≡ Some e) line.is traded)
    where
      is_partner : IsPartner graph events (standing events buy) found
      is_partner = partner-is graph events (standing events buy) found is

      line : IsInLine events buy.order.contract (opposite buy.order.side) found
      line = is_partner.in_line

      sell : Placed
      sell = line.order

      on_sell : sell.order.side ≡ Sell
      on_sell = line.on_side ∙ ap opposite on_buy

      can : can_trade graph (rooms_for events (standing events buy)) (standing events buy) (standing events sell) ≡ true
      can = subst (λ s. can_trade graph (rooms_for events (standing events buy)) (standing events buy) s ≡ true) line.is is_partner.can_trade

      by : (b : Bool) → is_lt (time_cmp (standing events buy) (standing events sell)) ≡ b
          → (if b then trade graph events (standing events sell) (standing events buy) else trade graph events (standing events buy) (standing events sell)) ≡ Some e
          → IsFirstTurn graph events e
      by true before k =
          first_turn-of_trade sell buy line.is_open buy_open (sym line.of_contract) (on_buy ∙ sym (ap opposite on_sell))
          (can_trade-turned graph events (standing events buy) (standing events sell) on_buy on_sell line.of_contract ∙ can)
          (before_buy buy sell on_buy on_sell line.is_open line.of_contract none)
          (λ other first. none other (subst (GoesBefore events other) (buy_of-sell sell buy on_sell) first))
          (time_weak.one_way (standing events buy) (standing events sell) before) e k
      by false before k =
          first_turn-of_trade buy sell buy_open line.is_open line.of_contract line.on_side can
          (before_partner buy sell (subst (λ s. partner graph events (standing events buy) ≡ Some s) line.is is) line.of_contract line.on_side)
          (λ other first. none other (subst (GoesBefore events other) (buy_of-buy buy sell on_buy) first)) before e k

  pub sweep_leg-turn : (parts : List Part) (hour : ℕ) (e : Event) → sweep_leg parts graph hour events ≡ Some e → IsFirstTurn graph events e
  unfolding sweep_leg
  sweep_leg-turn parts hour e is =
      let part = from_first_answer (λ part. leg_in graph events (record { hour = hour; part = part })) e parts is in
      let contract : Contract = record { hour = hour; part = part.0 } in
      of_buy contract (asked-first (priority_cmp Buy) (priority_weak Buy) (leg_of_buy graph events) (line events contract Buy) e (line-ascends events contract Buy) part.2)
    where
      of_buy : (contract : Contract) → IsFirstAsked (priority_cmp Buy) (priority_weak Buy) (leg_of_buy graph events) (line events contract Buy) e → IsFirstTurn graph events e
      of_buy contract asked =
          let in_line_buy = from_line events contract Buy asked.item asked.is_in in
          let buy : Placed = in_line_buy.order in
          let at_buy : leg_of_buy graph events (standing events buy) ≡ Some e = subst (λ s. leg_of_buy graph events s ≡ Some e) in_line_buy.is asked.answers in
          let other = bind-some (resting_trade graph events (standing events buy)) (partner graph events (standing events buy)) e at_buy in
          resting-turn buy other.0 e in_line_buy.on_side in_line_buy.is_open other.1 other.2
          (λ before first. no_partner graph events before (first.one_side ∙ in_line_buy.on_side)
          (asked.none_before (standing events before)
          (in_line before contract Buy (opened before buy first) (first.one_contract ∙ in_line_buy.of_contract) (first.one_side ∙ in_line_buy.on_side))
          (subst (λ s. goes_before Buy (standing events before) s ≡ true) (sym in_line_buy.is)
          (subst (λ side. goes_before side (standing events before) (standing events buy) ≡ true) in_line_buy.on_side first.first))))
