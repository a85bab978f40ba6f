-- While an order takes, no two others of its contract come to trade: a leg opens ways only by way of its
-- own ends, and whoever would trade along these could have traded with its maker, or was passed over.
use Rattle.std.proofs.Common.{◌≡◌, ◌≢◌, ◌∙◌, ◌⊎◌, ◌&&◌, inl, inr, ℕ, Bool, true, false, List, [], find, Option, Some, None, refl, sym, ap, subst, arith}
use Rattle.std.proofs.Math.Path.{fun_ext}
use Rattle.std.proofs.lemmas.Bool.{and_from, and_parts, true≢false}
use Rattle.std.proofs.lemmas.List.Sorted.{ranks_by}
use Rattle.std.specs.Option.{option_and_then, option_map}
use Rattle.std.specs.Ordering.{is_lt, ordering_then}
use Rattle.std.specs.declared.cmp.Ordering.{Ordering}
use Rattle.std.specs.declared.cmp.Ordering.TheVariants.{Less, Equal, Greater}
use Rattle.order_kinds.specs.declared.contract.Contract.{Contract}
use Rattle.order_kinds.specs.declared.order.Order.{Order}
use Rattle.order_kinds.specs.declared.order.OrderName.{OrderName}
use Rattle.order_kinds.specs.declared.price.Price.{Price}
use Rattle.order_kinds.specs.declared.side.Side.{Side}
use Rattle.order_kinds.specs.declared.side.Side.TheVariants.{Buy, Sell}
use Rattle.order_kinds.specs.declared.phase.Phase.TheVariants as phase
use Rattle.order_kinds.specs.Period.{contract_quarters}
use Rattle.order_kinds.specs.Same.{same_name}
use Rattle.order_kinds.specs.Side.{crosses, opposite, prefers, price_cmp}
use Rattle.order_kinds.proofs.PriceOrder.{price_cmp_total}
use Rattle.zone_graph.specs.declared.route.Arc.{Arc}
use Rattle.zone_graph.specs.declared.route.RouteLeg.{RouteLeg}
use Rattle.zone_graph.specs.Graph.{Graph}
use Rattle.zone_graph.specs.Pour.{lots_if, room_after}
use Rattle.zone_graph.specs.Reach.{reaches}
use Rattle.zone_graph.specs.Route.{IsIn, IsWay, best_route}
use Rattle.zone_graph.proofs.Carrying.{best_route-route}
use Rattle.zone_graph.proofs.Finding.{find-IsIn, find-none, from_find}
use Rattle.cut_proof.proofs.ReachLaws.{reaches-way, way-reaches}
use Rattle.market_model.specs.declared.event.Event.{Event}
use Rattle.market_model.specs.declared.event.Event.TheVariants as event
use Rattle.market_model.specs.declared.event.Leg.{Leg}
use Rattle.market_model.specs.declared.setup.Setup.{Setup}
use Rattle.market_model.specs.Grid.{graph_of}
use Rattle.market_model.specs.History.{and_then}
use Rattle.market_model.specs.Lines.{buyer_zone, can_trade, line, partner, priority_cmp, rooms_for, seller_zone, time_cmp}
use Rattle.market_model.specs.Orders.{Placed, Standing, is_open, open_order, placed, placed_by, standing}
use Rattle.market_model.specs.Room.{halt_by, phase_by, room}
use Rattle.market_model.specs.Sweep.{leg_in, leg_of_buy}
use Rattle.market_model.specs.Taking.{leg_over, next_leg, standing_order, trade}
use Rattle.market_model.specs.WellFormed.{FitAfter, Fits, IsMarketSetup, LegFits}
use Rattle.laws_of_market.proofs.Ascending.{found-first}
use Rattle.laws_of_market.proofs.Capacities.{allocated-more, last_said-more, offered-more, room-same}
use Rattle.laws_of_market.proofs.Legs.{next_leg-fits, open_order-is}
use Rattle.laws_of_market.proofs.Lines.{line-ascends, no_trade, priority_weak}
use Rattle.laws_of_market.proofs.Members.{first_answer-none}
use Rattle.laws_of_market.proofs.Names.{NamesOnce, names-once}
use Rattle.laws_of_market.proofs.Placed.{from_picked-more, picked-same}
use Rattle.laws_of_market.proofs.Repeats.{bind-some, map-some}
use Rattle.laws_of_market.proofs.Rooms.{room-leg}
use Rattle.laws_of_market.proofs.Tests.{same_name-eq, same_name-refl}
use Rattle.laws_of_market.proofs.Trades.{IsInLine, from_line, partner-is}
use Rattle.laws_of_market.proofs.Unique.{one_order}
use Rattle.laws_of_market.proofs.Uses.{within_offers}
use Rattle.laws_of_market.proofs.Wholes.{other_name}
use Rattle.laws_of_boards.proofs.Worse.{asked-none, crosses-worse, is_buy, no_leg, trades-none, with_none}
use Rattle.laws_of_boards.proofs.Rests.{Stood, stood}
use Rattle.laws_of_boards.proofs.Ways.{Leads, leads-after}

-- ---- prices and tests

not-false : (b : Bool) → (b ≡ false → ⊥) → b ≡ true
not-false true h = refl
not-false false h = absurd (h refl)

and-when : (a b : Bool) → (a ≡ true → b ≡ false) → (a && b) ≡ false
and-when true b h = h refl
and-when false b h = refl

second-false : (a b : Bool) → a ≡ true → (a && b) ≡ false → b ≡ false
second-false true b h none = none
second-false false b h none = absurd (true≢false (sym h))

-- prices that cross now crossed when neither was worse
crossed : (buy sell old_buy old_sell : Price) → prefers Buy buy old_buy ≡ false → prefers Sell sell old_sell ≡ false → crosses Buy buy sell ≡ true
    → crosses Buy old_buy old_sell ≡ true
crossed buy sell old_buy old_sell no_dearer no_cheaper now =
    not-false (crosses Buy old_buy old_sell) (λ none.
    true≢false (sym now ∙ crosses-worse Sell sell old_buy buy no_dearer (crosses-worse Buy old_buy old_sell sell no_cheaper none)))

-- of two prices one at the most is better
one-better : (side : Side) (a b : Price) → prefers side a b ≡ true → prefers side b a ≡ false
one-better side a b better = (ranks_by (price_cmp_total side) (λ (p : Price). p)).one_way a b better

-- a better price goes first
price-before : (side : Side) (a b : Standing) → prefers side a.price b.price ≡ true → is_lt (priority_cmp side a b) ≡ true
price-before side a b better = go (price_cmp side a.price b.price) (time_cmp a b) better
  where
    go : (r t : Ordering) → is_lt r ≡ true → is_lt (ordering_then r t) ≡ true
    go Less t e = e
    go Equal t e = absurd (true≢false (sym e))
    go Greater t e = absurd (true≢false (sym e))

two_sides : (side : Side) → side ≡ opposite side → ⊥
two_sides Buy same = cc
two_sides Sell same = cc

-- ---- who trades

-- no two orders of a contract besides one of a name can trade
abbrev pub OthersAreQuiet : Graph → Contract → OrderName → List Event → Type 0
OthersAreQuiet graph contract name events = (buy sell : Standing) → IsIn buy (line events contract Buy) → IsIn sell (line events contract Sell)
    → buy.name ≢ name → sell.name ≢ name → crosses Buy buy.price sell.price ≡ true
    → reaches graph (room events (contract_quarters contract)) sell.order.zone buy.order.zone ≡ false

-- the zones of the seller and of the buyer, by the side of the first of two orders
abbrev zone_of_seller : Side → (own other : Standing) → ℕ
zone_of_seller Buy own other = other.order.zone
zone_of_seller Sell own other = own.order.zone

abbrev zone_of_buyer : Side → (own other : Standing) → ℕ
zone_of_buyer Buy own other = own.order.zone
zone_of_buyer Sell own other = other.order.zone

seller-at : (side : Side) (own other : Standing) → own.order.side ≡ side → seller_zone own other ≡ zone_of_seller side own other
seller-at Buy own other is = rw is refl
seller-at Sell own other is = rw is refl

buyer-at : (side : Side) (own other : Standing) → own.order.side ≡ side → buyer_zone own other ≡ zone_of_buyer side own other
buyer-at Buy own other is = rw is refl
buyer-at Sell own other is = rw is refl

can-at : (graph : Graph) (rooms : Arc → ℕ) (side : Side) (own other : Standing) → own.order.side ≡ side
    → can_trade graph rooms own other ≡ (crosses side own.price other.price && reaches graph rooms (zone_of_seller side own other) (zone_of_buyer side own other))
can-at graph rooms Buy own other is = rw is refl
can-at graph rooms Sell own other is = rw is refl

-- what a buy of a contract can trade with
buy-can : (graph : Graph) (events : List Event) (contract : Contract) (buy sell : Standing) → IsIn buy (line events contract Buy)
    → can_trade graph (rooms_for events buy) buy sell
    ≡ (crosses Buy buy.price sell.price && reaches graph (room events (contract_quarters contract)) sell.order.zone buy.order.zone)
buy-can graph events contract buy sell i = let is = is_buy graph events contract buy i in rw (is.0, is.1) refl

-- ---- the entry

module _ (setup : Setup) (is_setup : IsMarketSetup setup) (before : List Event) (fit : FitAfter setup [] before) (name : OrderName) (caller : ℕ) (order : Order) where
  abbrev entry : Event
  entry = event.Entered name caller order

  room-entered : room (and_then before entry) (contract_quarters order.contract) ≡ room before (contract_quarters order.contract)
  room-entered = room-same (and_then before entry) before (record {
    allocated_same = λ quarter arc. let more = allocated-more before entry quarter arc in omega (arith, more);
    offered_same = λ quarter arc. offered-more before entry quarter arc;
    phase_same = λ hour. last_said-more (phase_by hour) phase.Open before entry;
    halted_same = λ border hour. last_said-more (halt_by border hour) false before entry;
  }) (contract_quarters order.contract)

  -- who stands in a line besides the order that entered stood there before
  was : (side : Side) (now : Standing) → IsInLine (and_then before entry) order.contract side now → now.name ≢ name → Stood before order.contract side now
  was side now in_line other = elim (from_picked-more placed_by in_line.order before entry in_line.is_open.is_placed) [
    | inl old ↦ stood setup before fit entry order.contract side now in_line old
        (ap (λ b. lots_if b order.quantity.0) (other_name name in_line.order.name (λ same. other (ap (λ (s : Standing). s.name) in_line.is ∙ sym same))))
    | inr new ↦ absurd (other (ap (λ (s : Standing). s.name) in_line.is ∙ sym (given new)))
  ]
    where
      given : placed_by entry ≡ Some in_line.order → name ≡ in_line.order.name
      given new = let same : record { name = name; caller = caller; order = order } ≡ in_line.order = cc in ap (λ (p : Placed). p.name) same

  -- so the others are quiet where the contract was
  pub quiet-entered : leg_in (graph_of setup) before order.contract ≡ None → OthersAreQuiet (graph_of setup) order.contract name (and_then before entry)
  quiet-entered quiet buy sell i j other other_too cross =
      let graph = graph_of setup in
      let contract : Contract = order.contract in
      let buy_was = was Buy buy (from_line (and_then before entry) contract Buy buy i) other in
      let sell_was = was Sell sell (from_line (and_then before entry) contract Sell sell j) other_too in
      let old_buy = buy_was.old in
      let old_sell = sell_was.old in
      let then_crossed = crossed buy.price sell.price old_buy.price old_sell.price buy_was.no_better sell_was.no_better cross in
      let none = trades-none graph before contract old_buy buy_was.is_in
      (first_answer-none (leg_of_buy graph before) (line before contract Buy) quiet old_buy buy_was.is_in) old_sell sell_was.is_in in
      let apart : reaches graph (room before (contract_quarters contract)) old_sell.order.zone old_buy.order.zone ≡ false =
      second-false (crosses Buy old_buy.price old_sell.price) (reaches graph (room before (contract_quarters contract)) old_sell.order.zone old_buy.order.zone)
      then_crossed (sym (buy-can graph before contract old_buy old_sell buy_was.is_in) ∙ none) in
      ap (λ z. reaches graph (room (and_then before entry) (contract_quarters contract)) z buy.order.zone) sell_was.zone
      ∙ ap (λ z. reaches graph (room (and_then before entry) (contract_quarters contract)) old_sell.order.zone z) buy_was.zone
      ∙ ap (λ (r : Arc → ℕ). reaches graph r old_sell.order.zone old_buy.order.zone) room-entered
      ∙ apart

-- ---- a leg

-- what the next leg of a taker comes from
record NextLeg (graph : Graph) (events : List Event) (taker : Placed) (e : Event) : Type 0 where
  other : Standing
  found : partner graph events (standing events taker) ≡ Some other
  route : List Arc
  best : best_route graph (rooms_for events (standing events taker)) (seller_zone (standing events taker) other) (buyer_zone (standing events taker) other) ≡ Some route
  is : leg_over (rooms_for events (standing events taker)) (standing events taker) other route ≡ e

-- the route of a trade
trade-route : (graph : Graph) (events : List Event) (own other : Standing) (e : Event) → trade graph events own other ≡ Some e
    → (route : List Arc) × (best_route graph (rooms_for events own) (seller_zone own other) (buyer_zone own other) ≡ Some route)
    × (leg_over (rooms_for events own) own other route ≡ e)
unfolding trade
trade-route graph events own other e is =
    map-some (leg_over (rooms_for events own) own other) (best_route graph (rooms_for events own) (seller_zone own other) (buyer_zone own other)) e is

next-leg : (graph : Graph) (events : List Event) → NamesOnce events → (taker : Placed) → IsIn taker (placed events) → (e : Event)
    → next_leg graph taker.name events ≡ Some e → NextLeg graph events taker e
unfolding next_leg
next-leg graph events names taker there e is =
    let own = bind-some _ (standing_order events taker.name) e is in
    let listed = map-some (standing events) (open_order events taker.name) own.0 own.1 in
    let order = open_order-is events taker.name listed.0 listed.1 in
    let same : listed.0 ≡ taker = one_order events names listed.0 taker order.is_open.is_placed there order.is_named in
    let own_is : own.0 ≡ standing events taker = sym listed.2 ∙ ap (standing events) same in
    let partner_of = bind-some _ (partner graph events own.0) e own.2 in
    let made = trade-route graph events own.0 partner_of.0 e partner_of.2 in
    record {
      other = partner_of.0;
      found = subst (λ s. partner graph events s ≡ Some partner_of.0) own_is partner_of.1;
      route = made.0;
      best = subst (λ s. best_route graph (rooms_for events s) (seller_zone s partner_of.0) (buyer_zone s partner_of.0) ≡ Some made.0) own_is made.1;
      is = subst (λ s. leg_over (rooms_for events s) s partner_of.0 made.0 ≡ e) own_is made.2;
    }

module _ (setup : Setup) (is_setup : IsMarketSetup setup) (events : List Event) (fit : FitAfter setup [] events) (taker : Placed) (there : IsIn taker (placed events))
    (side : Side) (on_side : taker.order.side ≡ side) (e : Event) (next : NextLeg (graph_of setup) events taker e) where
  abbrev graph : Graph
  graph = graph_of setup

  abbrev contract : Contract
  contract = taker.order.contract

  abbrev own : Standing
  own = standing events taker

  abbrev rooms : Arc → ℕ
  rooms = room events (contract_quarters taker.order.contract)

  -- the partner is found in the opposite line
  found-there : find (can_trade graph rooms own) (line events contract (opposite side)) ≡ Some next.other
  unfolding partner
  found-there = subst (λ s. find (can_trade graph rooms own) (line events contract (opposite s)) ≡ Some next.other) on_side next.found

  other_in : IsIn next.other (line events contract (opposite side))
  other_in = (from_find (can_trade graph rooms own) next.other (line events contract (opposite side)) found-there).0

  other_crosses : crosses side own.price next.other.price ≡ true
  other_crosses =
      (and_parts (crosses side own.price next.other.price) (reaches graph rooms (zone_of_seller side own next.other) (zone_of_buyer side own next.other))
      (sym (can-at graph rooms side own next.other on_side)
      ∙ (from_find (can_trade graph rooms own) next.other (line events contract (opposite side)) found-there).1)).0

  -- it is not the taker
  not_taker : next.other.name ≢ taker.name
  not_taker same =
      let in_line = from_line events contract (opposite side) next.other other_in in
      let one : in_line.order ≡ taker =
      one_order events (names-once setup events fit) in_line.order taker in_line.is_open.is_placed there (sym (ap (λ (s : Standing). s.name) in_line.is) ∙ same) in
      two_sides side (sym on_side ∙ ap (λ (p : Placed). p.order.side) (sym one) ∙ in_line.on_side)

  -- whom the taker could reach as well has no better price
  not-better : (theirs : Standing) → IsIn theirs (line events contract (opposite side))
      → reaches graph rooms (zone_of_seller side own theirs) (zone_of_buyer side own theirs) ≡ true → prefers (opposite side) theirs.price next.other.price ≡ false
  not-better theirs i reach = go (prefers (opposite side) theirs.price next.other.price) refl
    where
      go : (b : Bool) → prefers (opposite side) theirs.price next.other.price ≡ b → b ≡ false
      go false is = refl
      go true better =
          let worse = one-better (opposite side) theirs.price next.other.price better in
          let cross = not-false (crosses side own.price theirs.price) (λ none.
          true≢false (sym other_crosses ∙ crosses-worse side own.price theirs.price next.other.price worse none)) in
          let none = found-first (priority_cmp (opposite side)) (priority_weak (opposite side)) (can_trade graph rooms own) (line events contract (opposite side)) next.other
          (line-ascends events contract (opposite side)) found-there theirs i (price-before (opposite side) theirs next.other better) in
          absurd (true≢false
          (sym (and_from (crosses side own.price theirs.price) (reaches graph rooms (zone_of_seller side own theirs) (zone_of_buyer side own theirs)) cross reach)
          ∙ sym (can-at graph rooms side own theirs on_side) ∙ none))

  -- so whoever crosses such a one crosses the partner
  crosses-other : (mine theirs : Standing) → IsIn theirs (line events contract (opposite side)) → crosses side mine.price theirs.price ≡ true
      → reaches graph rooms (zone_of_seller side own theirs) (zone_of_buyer side own theirs) ≡ true → crosses side mine.price next.other.price ≡ true
  crosses-other mine theirs i cross reach =
      not-false (crosses side mine.price next.other.price) (λ none.
      true≢false (sym cross ∙ crosses-worse side mine.price next.other.price theirs.price (not-better theirs i reach) none))

  -- the way of the leg
  own-way : IsWay graph rooms (zone_of_seller side own next.other) next.route (zone_of_buyer side own next.other)
  own-way =
      subst (λ z. IsWay graph rooms (zone_of_seller side own next.other) next.route z) (buyer-at side own next.other on_side)
      (subst (λ z. IsWay graph rooms z next.route (buyer_zone own next.other)) (seller-at side own next.other on_side)
      (best_route-route graph rooms (seller_zone own next.other) (buyer_zone own next.other) next.route is_setup next.best).way)

-- where the others were quiet, no two of them that a leg's way leads to each other by its ends trade
quiet-ends : (setup : Setup) (is_setup : IsMarketSetup setup) (events : List Event) (fit : FitAfter setup [] events) (taker : Placed) (there : IsIn taker (placed events))
    (side : Side) (on_side : taker.order.side ≡ side) (e : Event) (next : NextLeg (graph_of setup) events taker e)
    → OthersAreQuiet (graph_of setup) taker.order.contract taker.name events
    → (buy sell : Standing) → IsIn buy (line events taker.order.contract Buy) → IsIn sell (line events taker.order.contract Sell)
    → buy.name ≢ taker.name → sell.name ≢ taker.name → crosses Buy buy.price sell.price ≡ true
    → reaches (graph_of setup) (room events (contract_quarters taker.order.contract)) sell.order.zone (zone_of_buyer side (standing events taker) next.other) ≡ true
    → reaches (graph_of setup) (room events (contract_quarters taker.order.contract)) (zone_of_seller side (standing events taker) next.other) buy.order.zone ≡ true → ⊥
quiet-ends setup is_setup events fit taker there Buy on_side e next others buy sell i j apart apart_too cross to_end from_start =
    true≢false (sym from_start ∙ others buy next.other i (other_in setup is_setup events fit taker there Buy on_side e next) apart
    (not_taker setup is_setup events fit taker there Buy on_side e next)
    (crosses-other setup is_setup events fit taker there Buy on_side e next buy sell j cross to_end))
quiet-ends setup is_setup events fit taker there Sell on_side e next others buy sell i j apart apart_too cross to_end from_start =
    true≢false (sym to_end ∙ others next.other sell (other_in setup is_setup events fit taker there Sell on_side e next) j
    (not_taker setup is_setup events fit taker there Sell on_side e next) apart_too
    (crosses-other setup is_setup events fit taker there Sell on_side e next sell buy i cross from_start))

module _ (setup : Setup) (is_setup : IsMarketSetup setup) (events : List Event) (fit : FitAfter setup [] events) (taker : Placed) (there : IsIn taker (placed events)) where
  -- after a leg of the taker the others are quiet
  quiet-made : (e : Event) (next : NextLeg (graph_of setup) events taker e) (contract : Contract) (leg : Leg) → contract ≡ taker.order.contract → leg.route ≡ next.route
      → LegFits setup events contract leg
      → OthersAreQuiet (graph_of setup) taker.order.contract taker.name events
      → OthersAreQuiet (graph_of setup) taker.order.contract taker.name (and_then events (event.Leg contract leg))
  quiet-made e next contract leg same_contract same_route fits others buy sell i j apart apart_too cross = go (reaches graph rooms_now sell.order.zone buy.order.zone) refl
    where
      graph : Graph
      graph = graph_of setup

      made : Event
      made = event.Leg contract leg

      rooms : Arc → ℕ
      rooms = room events (contract_quarters taker.order.contract)

      rooms_now : Arc → ℕ
      rooms_now = room (and_then events made) (contract_quarters taker.order.contract)

      carried_leg : RouteLeg
      carried_leg = record { route = leg.route; lots = leg.lots }

      now-is : rooms_now ≡ room_after rooms carried_leg
      now-is =
          subst (λ c. room (and_then events made) (contract_quarters c) ≡ room_after (room events (contract_quarters c)) carried_leg) same_contract
          (fun_ext (room-leg events contract leg (within_offers setup events fit) fits.some fits.carried.has_room))

      was_in : (s : Side) (now : Standing) → IsIn now (line (and_then events made) taker.order.contract s) → Stood events taker.order.contract s now
      was_in s now k =
          let in_line = from_line (and_then events made) taker.order.contract s now k in
          stood setup events fit made taker.order.contract s now in_line (subst (IsIn in_line.order) (picked-same placed_by events made refl) in_line.is_open.is_placed) refl

      buy_was : Stood events taker.order.contract Buy buy
      buy_was = was_in Buy buy i

      sell_was : Stood events taker.order.contract Sell sell
      sell_was = was_in Sell sell j

      then_crossed : crosses Buy buy_was.old.price sell_was.old.price ≡ true
      then_crossed = crossed buy.price sell.price buy_was.old.price sell_was.old.price buy_was.no_better sell_was.no_better cross

      reach : (from to : ℕ) → Leads graph rooms from to → reaches graph rooms from to ≡ true
      reach from to way = reaches-way graph rooms from to way.0 is_setup way.1

      by : Leads graph rooms sell.order.zone buy.order.zone
          ⊎ (Leads graph rooms sell.order.zone (zone_of_buyer taker.order.side (standing events taker) next.other)
          × Leads graph rooms (zone_of_seller taker.order.side (standing events taker) next.other) buy.order.zone) → ⊥
      by (inl old) =
          true≢false (sym (reach sell_was.old.order.zone buy_was.old.order.zone
          (subst (λ z. Leads graph rooms z buy_was.old.order.zone) sell_was.zone (subst (λ z. Leads graph rooms sell.order.zone z) buy_was.zone old)))
          ∙ others buy_was.old sell_was.old buy_was.is_in sell_was.is_in (λ same. apart (sym buy_was.named ∙ same)) (λ same. apart_too (sym sell_was.named ∙ same)) then_crossed)
      by (inr both) =
          quiet-ends setup is_setup events fit taker there taker.order.side refl e next others buy_was.old sell_was.old buy_was.is_in sell_was.is_in
          (λ same. apart (sym buy_was.named ∙ same)) (λ same. apart_too (sym sell_was.named ∙ same)) then_crossed
          (reach sell_was.old.order.zone (zone_of_buyer taker.order.side (standing events taker) next.other)
          (subst (λ z. Leads graph rooms z (zone_of_buyer taker.order.side (standing events taker) next.other)) sell_was.zone both.0))
          (reach (zone_of_seller taker.order.side (standing events taker) next.other) buy_was.old.order.zone
          (subst (λ z. Leads graph rooms (zone_of_seller taker.order.side (standing events taker) next.other) z) buy_was.zone both.1))

      own_way : IsWay graph rooms (zone_of_seller taker.order.side (standing events taker) next.other) leg.route (zone_of_buyer taker.order.side (standing events taker) next.other)
      own_way =
          subst (λ r. IsWay graph rooms (zone_of_seller taker.order.side (standing events taker) next.other) r (zone_of_buyer taker.order.side (standing events taker) next.other)) (sym same_route)
          (own-way setup is_setup events fit taker there taker.order.side refl e next)

      go : (b : Bool) → reaches graph rooms_now sell.order.zone buy.order.zone ≡ b → b ≡ false
      go false is = refl
      go true is =
          let way = way-reaches graph (room_after rooms carried_leg) sell.order.zone buy.order.zone is_setup
          (ap (λ (r : Arc → ℕ). reaches graph r sell.order.zone buy.order.zone) (sym now-is) ∙ is) in
          absurd (by (leads-after graph rooms (zone_of_seller taker.order.side (standing events taker) next.other) (zone_of_buyer taker.order.side (standing events taker) next.other)
          sell.order.zone buy.order.zone carried_leg way.0 own_way way.1))

  pub quiet-next : (e : Event) → next_leg (graph_of setup) taker.name events ≡ Some e → OthersAreQuiet (graph_of setup) taker.order.contract taker.name events
      → OthersAreQuiet (graph_of setup) taker.order.contract taker.name (and_then events e)
  quiet-next e is others =
      let next = next-leg (graph_of setup) events (names-once setup events fit) taker there e is in
      let fits = subst (Fits setup events) (sym next.is) (next_leg-fits setup is_setup events fit taker.name e is) in
      subst (λ f. OthersAreQuiet (graph_of setup) taker.order.contract taker.name (and_then events f)) next.is
      (quiet-made e next taker.order.contract _ refl refl fits others)

  -- ---- the end

  -- the taker is found under its name
  listed : is_open events taker.name ≡ true → open_order events taker.name ≡ Some taker
  listed opened =
      let test : Placed → Bool = λ order. same_name order.name taker.name && is_open events order.name in
      let passes : test taker ≡ true = and_from (same_name taker.name taker.name) (is_open events taker.name) (same_name-refl taker.name) opened in
      let some = find-IsIn test (placed events) taker there passes in
      let found = open_order-is events taker.name some.0 some.1 in
      let same : some.0 ≡ taker = one_order events (names-once setup events fit) some.0 taker found.is_open.is_placed there found.is_named in
      some.1 ∙ ap Some same

  -- where it has no next leg and is open it has no partner
  alone : next_leg (graph_of setup) taker.name events ≡ None → is_open events taker.name ≡ true → partner (graph_of setup) events (standing events taker) ≡ None
  unfolding next_leg
  alone none opened = go (partner (graph_of setup) events (standing events taker)) refl
    where
      at_own : option_and_then (λ other. trade (graph_of setup) events (standing events taker) other) (partner (graph_of setup) events (standing events taker)) ≡ None
      at_own =
          sym (ap (λ o. option_and_then (λ s. option_and_then (trade (graph_of setup) events s) (partner (graph_of setup) events s)) (option_map (standing events) o)) (listed opened)) ∙ none

      go : (o : Option Standing) → partner (graph_of setup) events (standing events taker) ≡ o → partner (graph_of setup) events (standing events taker) ≡ None
      go None is = is
      go (Some other) is =
          let its = partner-is (graph_of setup) events (standing events taker) other is in
          let away = no_trade (graph_of setup) events (standing events taker) other
          (ap (option_and_then (λ s. trade (graph_of setup) events (standing events taker) s)) (sym is) ∙ at_own) in
          absurd (true≢false (sym (and_parts (crosses taker.order.side (standing events taker).price other.price)
          (reaches (graph_of setup) (rooms_for events (standing events taker)) (seller_zone (standing events taker) other) (buyer_zone (standing events taker) other)) its.can_trade).1
          ∙ away))

  -- then it can trade with none
  trades-with-none : next_leg (graph_of setup) taker.name events ≡ None → (side : Side) (now other : Standing) → IsIn now (line events taker.order.contract side)
      → IsIn other (line events taker.order.contract (opposite side)) → now.name ≡ taker.name
      → (crosses side now.price other.price && reaches (graph_of setup) (room events (contract_quarters taker.order.contract)) (zone_of_seller side now other) (zone_of_buyer side now other)) ≡ false
  unfolding partner
  trades-with-none none side now other i j same =
      let in_line = from_line events taker.order.contract side now i in
      let one : in_line.order ≡ taker =
      one_order events (names-once setup events fit) in_line.order taker in_line.is_open.is_placed there (sym (ap (λ (s : Standing). s.name) in_line.is) ∙ same) in
      let own_is : now ≡ standing events taker = in_line.is ∙ ap (standing events) one in
      let on_side : taker.order.side ≡ side = ap (λ (p : Placed). p.order.side) (sym one) ∙ in_line.on_side in
      let opened : is_open events taker.name ≡ true = ap (λ (p : Placed). is_open events p.name) (sym one) ∙ in_line.is_open.is_left in
      let none_found = find-none (can_trade (graph_of setup) (rooms_for events (standing events taker)) (standing events taker)) (line events taker.order.contract (opposite taker.order.side))
      (alone none opened) other (subst (λ s. IsIn other (line events taker.order.contract (opposite s))) (sym on_side) j) in
      subst (λ s. (crosses side s.price other.price && reaches (graph_of setup) (room events (contract_quarters taker.order.contract)) (zone_of_seller side s other) (zone_of_buyer side s other)) ≡ false)
      (sym own_is)
      (sym (can-at (graph_of setup) (rooms_for events (standing events taker)) side (standing events taker) other on_side) ∙ none_found)

  pub quiet-ended : next_leg (graph_of setup) taker.name events ≡ None → OthersAreQuiet (graph_of setup) taker.order.contract taker.name events
      → leg_in (graph_of setup) events taker.order.contract ≡ None
  quiet-ended none others =
      asked-none (graph_of setup) events taker.order.contract (line events taker.order.contract Buy) (λ buy i.
      no_leg (graph_of setup) events taker.order.contract buy
      (with_none (graph_of setup) events taker.order.contract buy i (λ sell j.
      buy-can (graph_of setup) events taker.order.contract buy sell i ∙ pair buy sell i j (same_name buy.name taker.name) (same_name sell.name taker.name) refl refl)))
    where
      other : (name : OrderName) → same_name name taker.name ≡ false → name ≢ taker.name
      other name is same = true≢false (sym (same_name-refl taker.name) ∙ ap (λ n. same_name n taker.name) (sym same) ∙ is)

      pair : (buy sell : Standing) → IsIn buy (line events taker.order.contract Buy) → IsIn sell (line events taker.order.contract Sell) → (b s : Bool)
          → same_name buy.name taker.name ≡ b → same_name sell.name taker.name ≡ s
          → (crosses Buy buy.price sell.price && reaches (graph_of setup) (room events (contract_quarters taker.order.contract)) sell.order.zone buy.order.zone) ≡ false
      pair buy sell i j true s is is_too = trades-with-none none Buy buy sell i j (same_name-eq buy.name taker.name is)
      pair buy sell i j false true is is_too = trades-with-none none Sell sell buy j i (same_name-eq sell.name taker.name is_too)
      pair buy sell i j false false is is_too =
          and-when (crosses Buy buy.price sell.price) (reaches (graph_of setup) (room events (contract_quarters taker.order.contract)) sell.order.zone buy.order.zone)
          (λ cross. others buy sell i j (other buy.name is) (other sell.name is_too) cross)
