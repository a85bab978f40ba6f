-- What the legs of a taking leave of the rooms, and of the zones in reach.
use Rattle.std.proofs.Common.{◌≡◌, ◌∙◌, ℕ, ◌+◌, ◌<◌, arith, Bool, true, false, List, [], ◌∷◌, fold, map, Some, refl, sym, ap, subst}
use Rattle.std.proofs.Math.Path.{fun_ext}
use Rattle.std.proofs.lemmas.Bool.{true≢false}
use Rattle.std.specs.List.{cons_option, filter_map}
use Rattle.order_kinds.specs.declared.side.Side.{Side}
use Rattle.order_kinds.specs.declared.side.Side.TheVariants.{Buy, Sell}
use Rattle.order_kinds.specs.Period.{contract_quarters}
use Rattle.zone_graph.specs.declared.route.Arc.{Arc}
use Rattle.zone_graph.specs.Graph.{Graph, HasZone, IsGraph, zone_count}
use Rattle.zone_graph.specs.Pour.{room_after}
use Rattle.zone_graph.specs.Reach.{reaches}
use Rattle.zone_graph.specs.Route.{IsIn, IsRoute, has}
use Rattle.zone_graph.specs.Steps.{IsRun}
use Rattle.zone_graph.proofs.Membership.{IsIn-has, from_filter, from_range}
use Rattle.std.specs.List.{range_with_len}
use Rattle.cut_proof.proofs.ReachLaws.{beyond-has, has-beyond, has-towards, reach_from_start, reach_to_end, towards-has}
use Rattle.market_model.specs.declared.event.Event.{Event}
use Rattle.market_model.specs.declared.event.Leg.{Leg}
use Rattle.market_model.specs.Certificate.{zones_in_reach}
use Rattle.market_model.specs.Grid.{graph_of}
use Rattle.market_model.specs.History.{and_then}
use Rattle.market_model.specs.Lines.{buyer_zone, seller_zone}
use Rattle.market_model.specs.Orders.{Placed, placed, standing}
use Rattle.market_model.specs.Room.{room}
use Rattle.market_model.specs.Taking.{next_leg, take}
use Rattle.market_model.specs.View.{trade_of}
use Rattle.laws_of_market.proofs.Falls.{take-run}
use Rattle.laws_of_market.proofs.Repeats.{fold-and_then}
use Rattle.laws_of_market.proofs.Rooms.{room-leg}
use Rattle.laws_of_market.proofs.Uses.{within_offers}
use Rattle.route_choice.specs.Poured.{rooms_after}
use Rattle.laws_of_maximum.specs.Rooms.{LegsLeaveTheRooms, TakingsLeaveTheRooms, TakingsOpenNoWay, route_leg, route_legs}
use Rattle.laws_of_maximum.proofs.Obtained.{fit-can_take}
use Rattle.laws_of_maximum.proofs.Takers.{CanTake, IsTakersLeg, can-after, placed-after, rooms-after, takers-leg}

pub legs_leave : LegsLeaveTheRooms
legs_leave setup events contract leg arc fit fits = room-leg events contract leg (within_offers setup events fit) fits.some fits.carried.has_room arc

legs-cons : (e : Event) (leg : Leg) (events : List Event) → trade_of e ≡ Some leg → route_legs (e ∷ events) ≡ route_leg leg ∷ route_legs events
legs-cons e leg events is = ap (λ o. map route_leg (cons_option o (filter_map trade_of events))) is

module _ (graph : Graph) (is_graph : IsGraph graph) (taker : Placed) where
  abbrev rooms : List Event → Arc → ℕ
  rooms V = room V (contract_quarters taker.order.contract)

  pub rooms_taken : (V : List Event) (legs : List Event) → CanTake V → IsIn taker (placed V) → IsRun (next_leg graph taker.name) and_then V legs
      → rooms (fold and_then V legs) ≡ rooms_after (rooms V) (route_legs legs)
  rooms_taken V [] can there run = refl
  rooms_taken V (e ∷ legs) can there run =
      let next = takers-leg graph is_graph V can taker e there run.0 in
      let rest = rooms_taken (and_then V e) legs (can-after graph is_graph V can taker e next) (subst (IsIn taker) (sym (placed-after graph is_graph V can taker e next)) there) run.1 in
      let one : rooms (and_then V e) ≡ room_after (rooms V) (route_leg next.leg) = fun_ext (rooms-after graph is_graph V can taker e next) in
      rest ∙ ap (λ r. rooms_after r (route_legs legs)) one ∙ sym (ap (rooms_after (rooms V)) (legs-cons e next.leg legs (ap trade_of (sym next.is))))

  abbrev reached : List Event → List ℕ
  reached V = zones_in_reach graph (rooms V) taker.order.side taker.order.zone

  within : (zone : ℕ) → zone < 0 + zone_count graph → HasZone graph zone
  within zone less = omega (arith, less)

  -- a zone in reach after a leg was in reach before
  reached_before : (V : List Event) (e : Event) (zone : ℕ) → CanTake V → (next : IsTakersLeg graph V taker e) → has zone (reached (and_then V e)) ≡ true → has zone (reached V) ≡ true
  reached_before V e zone can next = by taker.order.side refl
    where
      one : rooms (and_then V e) ≡ room_after (rooms V) (route_leg next.leg)
      one = fun_ext (rooms-after graph is_graph V can taker e next)

      by : (side : Side) → taker.order.side ≡ side → has zone (zones_in_reach graph (rooms (and_then V e)) side taker.order.zone) ≡ true
          → has zone (zones_in_reach graph (rooms V) side taker.order.zone) ≡ true
      by Buy is h =
          let known : HasZone graph zone = within zone (from_range zone 0 (zone_count graph) (from_filter (λ z. reaches graph (rooms (and_then V e)) z taker.order.zone) zone (range_with_len 0 (zone_count graph))
          (IsIn-has zone (zones_in_reach graph (rooms (and_then V e)) Buy taker.order.zone) h)).0).1 in
          go known (reaches graph (rooms V) zone taker.order.zone) refl
        where
          to : buyer_zone (standing V taker) (standing V next.maker) ≡ taker.order.zone
          to = buyer taker next.maker is
            where
              buyer : (a b : Placed) → a.order.side ≡ Buy → buyer_zone (standing V a) (standing V b) ≡ a.order.zone
              buyer a b s = rw s refl

          route : IsRoute graph (rooms V) (seller_zone (standing V taker) (standing V next.maker)) taker.order.zone next.leg.route
          route = subst (λ z. IsRoute graph (rooms V) (seller_zone (standing V taker) (standing V next.maker)) z next.leg.route) to next.fits.is_route

          go : HasZone graph zone → (b : Bool) → reaches graph (rooms V) zone taker.order.zone ≡ b → has zone (zones_in_reach graph (rooms V) Buy taker.order.zone) ≡ true
          go known true there = has-towards graph (rooms V) taker.order.zone zone known there
          go known false away =
              let still = reach_to_end graph (rooms V) (seller_zone (standing V taker) (standing V next.maker)) taker.order.zone zone (route_leg next.leg) is_graph route away in
              let now : reaches graph (room_after (rooms V) (route_leg next.leg)) zone taker.order.zone ≡ true =
              ap (λ r. reaches graph r zone taker.order.zone) (sym one) ∙ towards-has graph (rooms (and_then V e)) taker.order.zone zone h in
              absurd (true≢false (sym now ∙ still))
      by Sell is h =
          let known : HasZone graph zone = within zone (from_range zone 0 (zone_count graph) (from_filter (λ z. reaches graph (rooms (and_then V e)) taker.order.zone z) zone (range_with_len 0 (zone_count graph))
          (IsIn-has zone (zones_in_reach graph (rooms (and_then V e)) Sell taker.order.zone) h)).0).1 in
          go known (reaches graph (rooms V) taker.order.zone zone) refl
        where
          from : seller_zone (standing V taker) (standing V next.maker) ≡ taker.order.zone
          from = seller taker next.maker is
            where
              seller : (a b : Placed) → a.order.side ≡ Sell → seller_zone (standing V a) (standing V b) ≡ a.order.zone
              seller a b s = rw s refl

          route : IsRoute graph (rooms V) taker.order.zone (buyer_zone (standing V taker) (standing V next.maker)) next.leg.route
          route = subst (λ z. IsRoute graph (rooms V) z (buyer_zone (standing V taker) (standing V next.maker)) next.leg.route) from next.fits.is_route

          go : HasZone graph zone → (b : Bool) → reaches graph (rooms V) taker.order.zone zone ≡ b → has zone (zones_in_reach graph (rooms V) Sell taker.order.zone) ≡ true
          go known true there = has-beyond graph (rooms V) taker.order.zone zone known there
          go known false away =
              let still = reach_from_start graph (rooms V) taker.order.zone (buyer_zone (standing V taker) (standing V next.maker)) zone (route_leg next.leg) is_graph route away in
              let now : reaches graph (room_after (rooms V) (route_leg next.leg)) taker.order.zone zone ≡ true =
              ap (λ r. reaches graph r taker.order.zone zone) (sym one) ∙ beyond-has graph (rooms (and_then V e)) taker.order.zone zone h in
              absurd (true≢false (sym now ∙ still))

  pub reached_taken : (V : List Event) (legs : List Event) (zone : ℕ) → CanTake V → IsIn taker (placed V) → IsRun (next_leg graph taker.name) and_then V legs
      → has zone (reached (fold and_then V legs)) ≡ true → has zone (reached V) ≡ true
  reached_taken V [] zone can there run h = h
  reached_taken V (e ∷ legs) zone can there run h =
      let next = takers-leg graph is_graph V can taker e there run.0 in
      reached_before V e zone can next (reached_taken (and_then V e) legs zone (can-after graph is_graph V can taker e next)
      (subst (IsIn taker) (sym (placed-after graph is_graph V can taker e next)) there) run.1 h)

pub takings_leave : TakingsLeaveTheRooms
takings_leave setup events taker arc is_setup fit there =
    let legs = take (graph_of setup) events taker.name in
    ap (λ V. room V (contract_quarters taker.order.contract) arc) (sym (fold-and_then events legs))
    ∙ ap (λ (r : Arc → ℕ). r arc) (rooms_taken (graph_of setup) is_setup taker events legs (fit-can_take setup events fit) there (take-run setup is_setup events fit taker.name))

pub takings_open : TakingsOpenNoWay
takings_open setup events taker zone is_setup fit there h =
    let legs = take (graph_of setup) events taker.name in
    reached_taken (graph_of setup) is_setup taker events legs zone (fit-can_take setup events fit) there (take-run setup is_setup events fit taker.name)
    (ap (λ V. has zone (zones_in_reach (graph_of setup) (room V (contract_quarters taker.order.contract)) taker.order.side taker.order.zone)) (fold-and_then events legs) ∙ h)
