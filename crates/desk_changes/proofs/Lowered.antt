-- What the legs of a deal leave of the rooms of their period.
use Rattle.std.proofs.Common.{◌≡◌, ◌∙◌, inl, ℕ, ◌+◌, ◌-◌, ◌≤◌, List, [], ◌∷◌, ◌++◌, map, refl, sym, ap, arith}
use Rattle.std.proofs.Math.Seq.{append_snoc}
use Rattle.std.proofs.lemmas.List.{append-nil}
use Rattle.order_kinds.specs.declared.contract.Quarter.{Quarter}
use Rattle.order_kinds.specs.Period.{block_quarters, hour_quarters, hours_from, quarter_of}
use Rattle.zone_graph.specs.declared.route.Arc.{Arc}
use Rattle.zone_graph.specs.declared.route.RouteLeg.{RouteLeg}
use Rattle.zone_graph.specs.Graph.{Graph, HasArc, border_count}
use Rattle.zone_graph.specs.Pour.{lots_if, opposite_arc, room_after, uses}
use Rattle.zone_graph.specs.Route.{IsIn}
use Rattle.zone_graph.proofs.Arcs.{opposite-twice}
use Rattle.zone_graph.proofs.Membership.{IsIn-flat_map, IsIn-range}
use Rattle.cut_proof.proofs.Ways.{way_has_arc}
use Rattle.cut_proof.specs.Carrying.{CanCarry, FitTogether}
use Rattle.cut_proof.proofs.Carrying.{can_carry-keep, route_can_carry}
use Rattle.route_choice.specs.Poured.{rooms_after}
use Rattle.block_match.specs.declared.deal.BlockDeal.{BlockDeal}
use Rattle.block_match.specs.Market.{leg_event, rooms_over}
use Rattle.market_model.specs.declared.event.Event.{Event}
use Rattle.market_model.specs.declared.event.Leg.{Leg}
use Rattle.market_model.specs.declared.setup.Setup.{Setup}
use Rattle.market_model.specs.Blocks.{block_buyer_zone, block_seller_zone, standing_block}
use Rattle.market_model.specs.Capacity.{allocated}
use Rattle.market_model.specs.Grid.{graph_of}
use Rattle.market_model.specs.History.{and_then}
use Rattle.market_model.specs.WellFormed.{BlockLegFits, FitAfter}
use Rattle.laws_of_market.proofs.Repeats.{fit-more}
use Rattle.laws_of_market.proofs.Rooms.{room-block_leg}
use Rattle.laws_of_market.proofs.Uses.{IsWithinOffers, quarter_room-le, room-le, within_offers}
use Rattle.desk_changes.specs.Rooms.{CanCarryEach}

-- the two rooms of a border over a period come to no more than what is offered on both
together : (events : List Event) (first last : ℕ) (arc : Arc) → first ≤ last → IsWithinOffers events
    → rooms_over events first last arc + rooms_over events first last (opposite_arc arc) ≤ 2000000
together events first last arc order within =
    let quarter : Quarter = quarter_of first 1 in
    let there : IsIn quarter (block_quarters first last) =
    IsIn-flat_map hour_quarters first quarter (hours_from first last) (IsIn-range first first (last + 1 - first) (omega arith) (omega arith)) (inl refl) in
    let own = room-le events (block_quarters first last) arc quarter there in
    let back = room-le events (block_quarters first last) (opposite_arc arc) quarter there in
    let own_free = quarter_room-le events arc quarter in
    let back_free = quarter_room-le events (opposite_arc arc) quarter in
    let own_most = within.most quarter arc in
    let back_most = within.most quarter (opposite_arc arc) in
    let same : allocated events quarter (opposite_arc (opposite_arc arc)) ≡ allocated events quarter arc =
    ap (allocated events quarter) (opposite-twice arc) in
    omega (arith, own, back, own_free, back_free, own_most, back_most, same)

module _ (setup : Setup) (first last : ℕ) (in_order : first ≤ last) where
  abbrev graph : Graph
  graph = graph_of setup

  -- some rooms are those of the period, at the arcs of the graph
  abbrev pub AreOver : List Event → (Arc → ℕ) → Type 0
  AreOver history room = (arc : Arc) → HasArc graph arc → room arc ≡ rooms_over history first last arc

  pub fit-together : (history : List Event) → FitAfter setup [] history → (room : Arc → ℕ) → AreOver history room → FitTogether graph room
  fit-together history fit room are arc has =
      let most = together history first last arc in_order (within_offers setup history fit) in
      let own = are arc has in
      let back = are (opposite_arc arc) has in
      omega (arith, most, own, back)

  module _ (deal : BlockDeal) where
    -- the leg of the market over a route
    abbrev leg_over : RouteLeg → Leg
    leg_over leg = record {
      taker = record { hour = first; number = deal.taker };
      maker = record { hour = first; number = deal.maker };
      lots = leg.lots;
      price = deal.price;
      route = leg.route;
    }

    one-can : (history : List Event) (room : Arc → ℕ) (leg : RouteLeg) → FitAfter setup [] history → BlockLegFits setup history first last (leg_over leg)
        → AreOver history room → CanCarry (border_count graph) room leg.lots leg.route
    one-can history room leg fit own are =
        let from : ℕ = block_seller_zone (standing_block history own.taker) (standing_block history own.maker) in
        let to : ℕ = block_buyer_zone (standing_block history own.taker) (standing_block history own.maker) in
        let known : (arc : Arc) → IsIn arc leg.route → HasArc graph arc =
        λ arc i. way_has_arc graph (rooms_over history first last) from to leg.route arc own.carried.is_route.way i in
        can_carry-keep (border_count graph) (border_count graph) (rooms_over history first last) room leg.lots leg.route refl
        (λ arc i. are arc (known arc i)) (λ arc i. are (opposite_arc arc) (known arc i))
        (route_can_carry graph (rooms_over history first last) from to leg (fit-together history fit (rooms_over history first last) (λ arc has. refl))
        (record { is_route = own.carried.is_route; has_room = own.carried.has_room }))

    -- the rooms are those of the period once the legs stand behind the history, and the legs can be carried
    pub record IsLowered (history : List Event) (legs : List RouteLeg) (room : Arc → ℕ) : Type 0 where
      pub can : CanCarryEach (border_count graph) room legs
      pub over : AreOver (history ++ map (leg_event first last deal) legs) (rooms_after room legs)

    pub lowered : (legs : List RouteLeg) (history : List Event) (room : Arc → ℕ) → FitAfter setup [] history
        → FitAfter setup history (map (leg_event first last deal) legs) → AreOver history room → IsLowered history legs room
    lowered [] history room fit fits are = record {
      can = tt;
      over = λ arc has. are arc has ∙ ap (λ es. rooms_over es first last arc) (sym (append-nil history));
    }
    lowered (leg ∷ legs) history room fit fits are =
        let trade : Event = leg_event first last deal leg in
        let own : BlockLegFits setup history first last (leg_over leg) = fits.0 in
        let lower : AreOver (and_then history trade) (room_after room leg) =
        λ arc has. ap (λ n. (n + lots_if (uses leg.route (opposite_arc arc)) leg.lots) - lots_if (uses leg.route arc) leg.lots) (are arc has)
        ∙ sym (room-block_leg history first last (leg_over leg) in_order (within_offers setup history fit) own.some own.carried.has_room arc) in
        let rest = lowered legs (and_then history trade) (room_after room leg) (fit-more setup history trade fit own) fits.1 lower in
        record {
          can = (one-can history room leg fit own are, rest.can);
          over = λ arc has. rest.over arc has ∙ ap (λ es. rooms_over es first last arc) (append_snoc history trade (map (leg_event first last deal) legs));
        }
