-- The next leg of a taker of any quantity is its next trade.
use Rattle.std.proofs.Common.{◌≡◌, ◌∙◌, inl, inr, ℕ, ◌<◌, Bool, true, false, ◌&&◌, cond, List, [], ◌∷◌, ◌++◌, filter, map, min, nat_lt, Option, Some, None, is_some, refl, sym, ap, if◌then◌else◌}
use Rattle.std.proofs.lemmas.Bool.{ltb-true, and_parts}
use Rattle.std.specs.List.{find}
use Rattle.std.specs.Option.{option_and_then, option_map}
use Rattle.order_kinds.specs.declared.contract.Contract.{Contract}
use Rattle.order_kinds.specs.declared.order.OrderName.{OrderName}
use Rattle.order_kinds.specs.declared.side.Side.{Side}
use Rattle.order_kinds.specs.declared.side.Side.TheVariants.{Buy, Sell}
use Rattle.order_kinds.specs.Period.{contract_quarters}
use Rattle.order_kinds.specs.Same.{same_name}
use Rattle.order_kinds.specs.Side.{crosses, opposite}
use Rattle.zone_graph.specs.declared.route.Arc.{Arc}
use Rattle.zone_graph.specs.Graph.{Graph, HasArc, IsGraph}
use Rattle.zone_graph.specs.Reach.{reaches}
use Rattle.zone_graph.specs.Route.{IsIn, best_route, carried}
use Rattle.zone_graph.proofs.BestRoute.{best_route-rooms}
use Rattle.zone_graph.proofs.Finding.{find-filter, find-map, from_find}
use Rattle.market_model.specs.declared.event.Event.{Event}
use Rattle.market_model.specs.declared.event.Event.TheVariants as event
use Rattle.market_model.specs.Lines as lines
use Rattle.market_model.specs.Lines.{can_trade, line, partner, rooms_for}
use Rattle.market_model.specs.Orders.{Placed, Standing, is_open, left, open_order, placed, standing}
use Rattle.market_model.specs.Room.{room}
use Rattle.market_model.specs.Taking.{leg_over, next_leg, trade}
use Rattle.market_model.specs.View.{any_price, unlimited_taker}
use Rattle.laws_of_market.proofs.Legs.{opposite-opposite}
use Rattle.laws_of_market.proofs.Tests.{same_name-refl}
use Rattle.laws_of_market.proofs.Restrict.{find-same}
use Rattle.laws_of_market.proofs.Replaced.{on}
use Rattle.cut_proof.proofs.Carrying.{carried-rooms, best_route-arcs}
use Rattle.laws_of_rows.specs.declared.trades.Fill.{Fill}
use Rattle.laws_of_rows.specs.declared.trades.Maker.{Maker}
use Rattle.laws_of_rows.specs.Depth.{Depth, buyer_zone, can_fill, crosses_any, fill_over, fill_with, leg_of, next_fill, route_with, seller_zone}
use Rattle.laws_of_rows.proofs.Kept.{IsAfter, line-of_kind, now, now-price, now-shown}
use Rattle.laws_of_rows.proofs.LineAfter.{line-after}

-- ---- searches

find-last : {X : Type 0} (p : X → Bool) (xs : List X) (y : X) → ((x : X) → IsIn x xs → p x ≡ false) → find p (xs ++ y ∷ []) ≡ cond (p y) (Some y) None
find-last p [] y none = refl
find-last p (x ∷ xs) y none = ap (λ b. cond b (Some x) (find p (xs ++ y ∷ []))) (none x (inl refl)) ∙ find-last p xs y (λ z i. none z (inr i))

-- ---- zones

-- a maker that an order of the line is now
abbrev pub maker_now : List Event → Standing → Maker
maker_now V s = record { name = s.name; zone = s.order.zone; price = s.price; left = left V s.name }

seller-on : (side : Side) (own other : Standing) (maker : Maker) → other.order.zone ≡ maker.zone
    → lines.seller_zone (on (opposite side) own) other ≡ seller_zone side own.order.zone maker
unfolding on
seller-on Buy own other maker same = refl
seller-on Sell own other maker same = same

buyer-on : (side : Side) (own other : Standing) (maker : Maker) → other.order.zone ≡ maker.zone
    → lines.buyer_zone (on (opposite side) own) other ≡ buyer_zone side own.order.zone maker
unfolding on
buyer-on Buy own other maker same = same
buyer-on Sell own other maker same = refl

-- ---- the next leg

-- the taker as it enters
abbrev pub taker_of : OrderName → Contract → Side → (zone : ℕ) → Placed
taker_of name contract side zone = record { name = name; caller = 0; order = unlimited_taker contract side zone }

abbrev pub leg_event : Contract → OrderName → Fill → Event
leg_event contract name fill = event.Leg contract (leg_of name fill)

-- the depth is what the taker finds after the events
pub record IsDepth (graph : Graph) (events : List Event) (contract : Contract) (side : Side) (name : OrderName) (V : List Event) (depth : Depth) : Type 0 where
  pub makers : depth.makers ≡ map (maker_now V) (line events contract side)
  pub rooms : (arc : Arc) → HasArc graph arc → depth.room arc ≡ room V (contract_quarters contract) arc
  pub rest : depth.left ≡ left V name

module _ (graph : Graph) (is : IsGraph graph) (events : List Event) (contract : Contract) (side : Side) (zone : ℕ) (name : OrderName) (V : List Event)
    (after : IsAfter events contract side (taker_of name contract side zone) V) (depth : Depth) (of : IsDepth graph events contract side name V depth) where
  abbrev own : Standing
  own = standing V (taker_of name contract side zone)

  abbrev rooms : Arc → ℕ
  rooms = room V (contract_quarters contract)

  sellers : (s : Standing) → lines.seller_zone own (now V s) ≡ seller_zone side zone (maker_now V s)
  unfolding on
  sellers s = seller-on side own (now V s) (maker_now V s) refl

  buyers : (s : Standing) → lines.buyer_zone own (now V s) ≡ buyer_zone side zone (maker_now V s)
  unfolding on
  buyers s = buyer-on side own (now V s) (maker_now V s) refl

  -- the routes are the same
  routes : (s : Standing) → best_route graph rooms (lines.seller_zone own (now V s)) (lines.buyer_zone own (now V s)) ≡ route_with graph depth.room side zone (maker_now V s)
  routes s =
      ap (λ z. best_route graph rooms z (lines.buyer_zone own (now V s))) (sellers s)
      ∙ ap (best_route graph rooms (seller_zone side zone (maker_now V s))) (buyers s)
      ∙ sym (best_route-rooms graph depth.room rooms (seller_zone side zone (maker_now V s)) (buyer_zone side zone (maker_now V s)) is of.rooms)

  -- who can trade, can
  same-test : (s : Standing) → IsIn s (line events contract side) → (is_open V s.name && can_trade graph rooms own (now V s)) ≡ can_fill graph depth.room side zone (maker_now V s)
  same-test s i = go (nat_lt 0 (left V s.name)) refl
    where
      go : (b : Bool) → nat_lt 0 (left V s.name) ≡ b → (b && can_trade graph rooms own (now V s)) ≡ (b && crosses_any side (maker_now V s) && is_some (route_with graph depth.room side zone (maker_now V s)))
      go false e = refl
      go true e =
          let some : 0 < left V s.name = ltb-true 0 (left V s.name) e in
          ap (λ p. crosses (opposite side) (any_price (opposite side)) p && reaches graph rooms (lines.seller_zone own (now V s)) (lines.buyer_zone own (now V s)))
          (now-price V s (after.orders s i) (line-of_kind events contract side s i) some)
          ∙ ap (λ route. crosses_any side (maker_now V s) && is_some route) (routes s)

  -- the trade with the same maker is the same
  same-trade : (s : Standing) → IsIn s (line events contract side) → 0 < left V s.name
      → trade graph V own (now V s) ≡ option_map (leg_event contract name) (fill_with graph depth.room side zone depth.left (maker_now V s))
  unfolding trade
  same-trade s i some =
      ap (option_map (leg_over rooms own (now V s))) (routes s)
      ∙ go (route_with graph depth.room side zone (maker_now V s)) refl
    where
      go : (o : Option (List Arc)) → route_with graph depth.room side zone (maker_now V s) ≡ o
          → option_map (leg_over rooms own (now V s)) o ≡ option_map (leg_event contract name) (option_map (fill_over depth.room depth.left (maker_now V s)) o)
      go None e = refl
      go (Some route) e =
          let known : (arc : Arc) → IsIn arc route → HasArc graph arc =
          best_route-arcs graph depth.room (seller_zone side zone (maker_now V s)) (buyer_zone side zone (maker_now V s)) route is e in
          let price = now-price V s (after.orders s i) (line-of_kind events contract side s i) some in
          let shown = now-shown V s (after.orders s i) (line-of_kind events contract side s i) some in
          let lots : carried rooms (min own.shown (now V s).shown) route ≡ carried depth.room (min depth.left (left V s.name)) route =
          sym (carried-rooms graph depth.room rooms (min own.shown (now V s).shown) route of.rooms known)
          ∙ ap (λ n. carried depth.room (min n (now V s).shown) route) (sym of.rest)
          ∙ ap (λ n. carried depth.room (min depth.left n) route) shown in
          λ j. Some (event.Leg contract (record { taker = name; maker = s.name; lots = lots j; price = price j; route = route }))

  -- the partner
  partner-found : partner graph V own ≡ option_map (now V) (find (λ s. can_fill graph depth.room side zone (maker_now V s)) (line events contract side))
  unfolding partner
  partner-found =
      ap (λ s. find (can_trade graph rooms own) (line V contract s)) (opposite-opposite side)
      ∙ ap (find (can_trade graph rooms own)) (line-after events contract side (taker_of name contract side zone) refl V after)
      ∙ find-map (can_trade graph rooms own) (now V) (filter (λ (s : Standing). is_open V s.name) (line events contract side))
      ∙ ap (option_map (now V)) (
      find-filter (λ s. can_trade graph rooms own (now V s)) (λ (s : Standing). is_open V s.name) (line events contract side)
      ∙ find-same (λ (s : Standing). is_open V s.name && can_trade graph rooms own (now V s)) (λ s. can_fill graph depth.room side zone (maker_now V s)) (line events contract side) same-test)

  maker-found : find (can_fill graph depth.room side zone) depth.makers ≡ option_map (maker_now V) (find (λ s. can_fill graph depth.room side zone (maker_now V s)) (line events contract side))
  maker-found =
      ap (find (can_fill graph depth.room side zone)) of.makers
      ∙ find-map (can_fill graph depth.room side zone) (maker_now V) (line events contract side)

  same-leg : option_and_then (trade graph V own) (partner graph V own)
      ≡ option_map (leg_event contract name) (option_and_then (fill_with graph depth.room side zone depth.left) (find (can_fill graph depth.room side zone) depth.makers))
  same-leg =
      ap (option_and_then (trade graph V own)) partner-found
      ∙ go (find (λ s. can_fill graph depth.room side zone (maker_now V s)) (line events contract side)) refl
      ∙ ap (λ o. option_map (leg_event contract name) (option_and_then (fill_with graph depth.room side zone depth.left) o)) (sym maker-found)
    where
      go : (o : Option Standing) → find (λ s. can_fill graph depth.room side zone (maker_now V s)) (line events contract side) ≡ o
          → option_and_then (trade graph V own) (option_map (now V) o)
          ≡ option_map (leg_event contract name) (option_and_then (fill_with graph depth.room side zone depth.left) (option_map (maker_now V) o))
      go None e = refl
      go (Some s) e =
          let found = from_find (λ t. can_fill graph depth.room side zone (maker_now V t)) s (line events contract side) e in
          let front = and_parts (nat_lt 0 (left V s.name) && crosses_any side (maker_now V s)) (is_some (route_with graph depth.room side zone (maker_now V s))) found.1 in
          let first = and_parts (nat_lt 0 (left V s.name)) (crosses_any side (maker_now V s)) front.0 in
          same-trade s found.0 (ltb-true 0 (left V s.name) first.0)

  taker-found : open_order V name ≡ cond (nat_lt 0 (left V name)) (Some (taker_of name contract side zone)) None
  taker-found =
      ap (find (λ (o : Placed). same_name o.name name && is_open V o.name)) after.placed_are
      ∙ find-last (λ (o : Placed). same_name o.name name && is_open V o.name) (placed events) (taker_of name contract side zone)
      (λ p i. ap (λ b. b && is_open V p.name) (after.fresh p i))
      ∙ ap (λ b. cond (b && is_open V name) (Some (taker_of name contract side zone)) None) (same_name-refl name)

  -- the next leg is that of the next trade
  pub next_leg-fill : next_leg graph name V ≡ option_map (leg_event contract name) (next_fill graph side zone depth)
  unfolding next_leg
  next_leg-fill =
      ap (λ o. option_and_then (λ s. option_and_then (trade graph V s) (partner graph V s)) (option_map (standing V) o)) taker-found
      ∙ go (nat_lt 0 (left V name))
      ∙ ap (λ n. option_map (leg_event contract name) (if nat_lt 0 n
      then option_and_then (fill_with graph depth.room side zone depth.left) (find (can_fill graph depth.room side zone) depth.makers) else None)) (sym of.rest)
    where
      go : (b : Bool) → option_and_then (λ s. option_and_then (trade graph V s) (partner graph V s)) (option_map (standing V) (cond b (Some (taker_of name contract side zone)) None))
          ≡ option_map (leg_event contract name) (if b
          then option_and_then (fill_with graph depth.room side zone depth.left) (find (can_fill graph depth.room side zone) depth.makers) else None)
      go true = same-leg
      go false = refl
