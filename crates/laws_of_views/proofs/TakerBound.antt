-- The bound of a view's taker, after what is hidden was withdrawn, is the bound of what is shown.
use Rattle.std.proofs.Common.{◌≡◌, ◌∙◌, ℕ, ◌+◌, ◌-◌, ◌<◌, ◌≤◌, Bool, true, false, List, [], ◌∷◌, filter, map, sum_by, inl, inr, refl, sym, ap, subst, arith}
use Rattle.std.proofs.lemmas.Bool.{ltb-false, ltb-true}
use Rattle.order_kinds.specs.declared.contract.Contract.{Contract}
use Rattle.order_kinds.specs.declared.order.Order.{Order}
use Rattle.order_kinds.specs.declared.side.Side.{Side}
use Rattle.order_kinds.specs.declared.side.Side.TheVariants.{Buy, Sell}
use Rattle.order_kinds.specs.Period.{contract_quarters}
use Rattle.order_kinds.specs.Side.{crosses, opposite}
use Rattle.zone_graph.specs.declared.route.Arc.{Arc}
use Rattle.zone_graph.specs.Graph.{Graph, HasZone, arcs_of}
use Rattle.zone_graph.specs.Pour.{lots_if}
use Rattle.zone_graph.specs.Reach.{enters, leaves}
use Rattle.zone_graph.specs.Route.{IsIn, has}
use Rattle.zone_graph.proofs.Membership.{IsIn-map, from_filter}
use Rattle.zone_graph.proofs.Routes.{from_arcs_of}
use Rattle.cut_proof.proofs.ArcSums.{sum_passing}
use Rattle.market_model.specs.declared.event.Event.{Event}
use Rattle.market_model.specs.declared.setup.Setup.{Setup}
use Rattle.market_model.specs.Certificate.{bound_of, crosses_left, crossing_lots, room_across}
use Rattle.market_model.specs.Grid.{graph_of}
use Rattle.market_model.specs.Lines.{line}
use Rattle.market_model.specs.Orders.{Standing, is_open, left, price_now, shown_lots}
use Rattle.market_model.specs.Room.{room}
use Rattle.market_model.specs.View.{any_price, unlimited_taker}
use Rattle.market_model.specs.WellFormed.{IsHistory, IsMarketSetup}
use Rattle.laws_of_market.proofs.Legs.{opposite-opposite}
use Rattle.laws_of_market.proofs.LineSums.{sum-filter, sum-map}
use Rattle.laws_of_market.proofs.Placed.{all_are_sound}
use Rattle.laws_of_market.proofs.Trades.{from_line}
use Rattle.laws_of_maximum.proofs.CrossingPeaks.{HasPeaks, crosses-fall, while_left}
use Rattle.laws_of_maximum.proofs.Duality.{sum_same_in}
use Rattle.laws_of_maximum.proofs.Obtained.{sound-peaks}
use Rattle.laws_of_rows.specs.declared.trades.Maker.{Maker}
use Rattle.laws_of_rows.specs.Depth.{maker_of}
use Rattle.laws_of_rows.proofs.Kept.{line-of_kind, now, now-price, now-shown}
use Rattle.laws_of_rows.proofs.LineAfter.{line-after}
use Rattle.laws_of_rows.proofs.NextLeg.{maker_now, taker_of}
use Rattle.laws_of_rows.proofs.Start.{after-start}
use Rattle.laws_of_views.specs.Views.{ViewsHaveTheirTakersBound}
use Rattle.laws_of_views.proofs.Viewed.{begun, makers-cross, name, of}

-- of an order that shows all that is left of it, at a price that crosses, all crosses
crossing-all : (taker order : Order) (filled left : ℕ) → HasPeaks order.kind → crosses taker.side taker.price (price_now order filled) ≡ true → 1 ≤ left
    → left ≤ shown_lots order.kind filled left → crosses_left taker order filled left ≡ left
crossing-all taker order filled left peaks crossing some most =
    let falls = crosses-fall taker order filled left left peaks crossing some most in
    let none : left - left ≡ 0 = omega arith in
    let rest : while_left (left - left) (crosses_left taker order (filled + left) (left - left)) ≡ 0 = ap (λ n. while_left n (crosses_left taker order (filled + left) n)) none in
    omega (arith, falls, rest)

each-same : (f g : Standing → Maker) (xs : List Standing) → map f xs ≡ map g xs → (x : Standing) → IsIn x xs → f x ≡ g x
each-same f g [] e x i = absurd i
each-same f g (y ∷ ys) e x i = elim i [
  | inl same ↦ (let head : f y ≡ g y = cc in subst (λ z. f z ≡ g z) (sym same) head)
  | inr later ↦ (let tail : map f ys ≡ map g ys = cc in each-same f g ys tail x later)
]

module _ (setup : Setup) (is_setup : IsMarketSetup setup) (events : List Event) (history : IsHistory setup events) (contract : Contract) (side : Side) (zone : ℕ)
    (known : HasZone (graph_of setup) zone) (zones : List ℕ) where
  abbrev graph : Graph
  graph = graph_of setup

  abbrev V : List Event
  V = begun setup is_setup events history contract side zone known

  abbrev taker : Order
  taker = unlimited_taker contract side zone

  -- what is left is what was shown
  left-shown : (s : Standing) → IsIn s (line events contract side) → left V s.name ≡ s.shown
  left-shown s i =
      sym (ap (λ (m : Maker). m.left) (each-same maker_of (maker_now V) (line events contract side) (of setup is_setup events history contract side zone known).makers s i))

  crossing-shown : (s : Standing) → IsIn s (line events contract side) → 0 < left V s.name → crossing_lots taker (now V s) ≡ s.shown
  crossing-shown s i some =
      let after = after-start setup events history.fit contract side zone in
      let kept = after.orders s i in
      let kind = line-of_kind events contract side s i in
      let price = now-price V s kept kind some in
      let shown = now-shown V s kept kind some in
      let stands = from_line events contract side s i in
      let peaks : HasPeaks s.order.kind =
      subst (λ (x : Standing). HasPeaks x.order.kind) (sym stands.is) (sound-peaks stands.order.order ((all_are_sound setup events history.fit).orders stands.order stands.is_open.is_placed).sound) in
      let crossing : crosses (opposite side) (any_price (opposite side)) (now V s).price ≡ true =
      ap (crosses (opposite side) (any_price (opposite side))) price ∙ makers-cross setup is_setup events history contract side zone known (maker_of s) (IsIn-map maker_of s (line events contract side) i) in
      crossing-all taker s.order (now V s).filled (left V s.name) peaks crossing some (omega (arith, shown)) ∙ left-shown s i

  counts : (s : Standing) → IsIn s (line events contract side) → lots_if (is_open V s.name) (lots_if (has s.order.zone zones) (crossing_lots taker (now V s))) ≡ lots_if (has s.order.zone zones) s.shown
  counts s i = by (is_open V s.name) refl
    where
      nothing : (b : Bool) → lots_if b 0 ≡ 0
      nothing true = refl
      nothing false = refl

      by : (b : Bool) → is_open V s.name ≡ b → lots_if b (lots_if (has s.order.zone zones) (crossing_lots taker (now V s))) ≡ lots_if (has s.order.zone zones) s.shown
      by true e = ap (lots_if (has s.order.zone zones)) (crossing-shown s i (ltb-true 0 (left V s.name) e))
      by false e =
          let least = ltb-false 0 (left V s.name) e in
          let none : s.shown ≡ 0 = (let same = left-shown s i in omega (arith, same, least)) in
          sym (ap (lots_if (has s.order.zone zones)) none ∙ nothing (has s.order.zone zones))

  inside : sum_by (crossing_lots taker) (filter (λ (s : Standing). has s.order.zone zones) (line V contract (opposite (opposite side))))
      ≡ sum_by (λ (s : Standing). s.shown) (filter (λ (s : Standing). has s.order.zone zones) (line events contract side))
  inside =
      let open_now : Standing → Bool = λ s. is_open V s.name in
      let crossing : Standing → ℕ = λ s. lots_if (has s.order.zone zones) (crossing_lots taker s) in
      ap (λ s. sum_by (crossing_lots taker) (filter (λ (x : Standing). has x.order.zone zones) (line V contract s))) (opposite-opposite side)
      ∙ ap (λ l. sum_by (crossing_lots taker) (filter (λ (x : Standing). has x.order.zone zones) l))
      (line-after events contract side (taker_of (name setup is_setup events history contract side zone known) contract side zone) refl V (after-start setup events history.fit contract side zone))
      ∙ sum_passing (λ (x : Standing). has x.order.zone zones) (crossing_lots taker) (map (now V) (filter open_now (line events contract side)))
      ∙ sum-map crossing (now V) (filter open_now (line events contract side))
      ∙ sum-filter (λ s. crossing (now V s)) open_now (line events contract side)
      ∙ sum_same_in (λ s. lots_if (open_now s) (crossing (now V s))) (λ (s : Standing). lots_if (has s.order.zone zones) s.shown) (line events contract side) counts
      ∙ sym (sum_passing (λ (x : Standing). has x.order.zone zones) (λ (x : Standing). x.shown) (line events contract side))

  across : (s : Side) → room_across graph (room V (contract_quarters contract)) s zones ≡ room_across graph (room events (contract_quarters contract)) s zones
  across s = by s
    where
      same : (test : Arc → Bool) → sum_by (room V (contract_quarters contract)) (filter test (arcs_of graph)) ≡ sum_by (room events (contract_quarters contract)) (filter test (arcs_of graph))
      same test =
          sum_same_in (room V (contract_quarters contract)) (room events (contract_quarters contract)) (filter test (arcs_of graph))
          (λ arc i. sym ((of setup is_setup events history contract side zone known).rooms arc (from_arcs_of graph arc (from_filter test arc (arcs_of graph) i).0)))

      by : (s : Side) → room_across graph (room V (contract_quarters contract)) s zones ≡ room_across graph (room events (contract_quarters contract)) s zones
      by Buy = same (enters graph zones)
      by Sell = same (leaves graph zones)

pub takers_bound : ViewsHaveTheirTakersBound
unfolding bound_of
takers_bound setup events contract side zone zones is_setup history known =
    omega (arith, inside setup is_setup events history contract side zone known zones, across setup is_setup events history contract side zone known zones (opposite side))
