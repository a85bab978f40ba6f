-- A leg of a taker takes its lots from the bound of each set of zones that has the taker's.
use Rattle.std.proofs.Common.{◌≡◌, ◌∙◌, ℕ, ◌+◌, ◌-◌, ◌&&◌, ◌||◌, Bool, true, false, List, filter, sum_by, nat_lt, refl, sym, ap, subst, arith}
use Rattle.std.proofs.Math.Path.{fun_ext}
use Rattle.std.proofs.lemmas.Bool.{true≢false}
use Rattle.order_kinds.specs.declared.order.Order.{Order}
use Rattle.order_kinds.specs.declared.order.OrderName.{OrderName}
use Rattle.order_kinds.specs.declared.side.Side.{Side}
use Rattle.order_kinds.specs.declared.side.Side.TheVariants.{Buy, Sell}
use Rattle.order_kinds.specs.Period.{contract_quarters}
use Rattle.order_kinds.specs.Same.{same_contract, same_name, same_side}
use Rattle.order_kinds.specs.Side.{crosses, opposite}
use Rattle.zone_graph.specs.declared.route.Arc.{Arc}
use Rattle.zone_graph.specs.Graph.{Graph, IsGraph}
use Rattle.zone_graph.specs.Pour.{lots_if, room_after}
use Rattle.zone_graph.specs.Route.{IsIn, has}
use Rattle.cut_proof.specs.Cut.{HasRoomFor}
use Rattle.cut_proof.proofs.ArcSums.{exchanged, sum_parts}
use Rattle.cut_proof.proofs.Crossing.{entering_after, leaving_after}
use Rattle.market_model.specs.declared.event.Event.{Event}
use Rattle.market_model.specs.declared.event.Event.TheVariants as event
use Rattle.market_model.specs.Certificate.{crosses_left, crossing_lots, room_across}
use Rattle.market_model.specs.History.{and_then}
use Rattle.market_model.specs.Lines.{buyer_zone, line, seller_zone, stands_in}
use Rattle.market_model.specs.Orders.{Placed, filled, is_open, left, names, placed, placed_by, standing}
use Rattle.market_model.specs.Room.{room}
use Rattle.laws_of_market.proofs.Balances.{names-maker}
use Rattle.laws_of_market.proofs.Lines.{same_contract-refl, same_side-refl}
use Rattle.laws_of_market.proofs.LineSums.{count-named, sum-filter, sum-line}
use Rattle.laws_of_market.proofs.Placed.{picked-same}
use Rattle.laws_of_market.proofs.States.{filled-more, left-more}
use Rattle.laws_of_market.proofs.Tests.{same_name-eq, same_name-refl}
use Rattle.laws_of_market.proofs.Unique.{one_order}
use Rattle.laws_of_maximum.specs.FlowPlan.{bound_with}
use Rattle.laws_of_maximum.specs.Rooms.{route_leg}
use Rattle.laws_of_maximum.proofs.CrossingPeaks.{crosses-fall, while_left}
use Rattle.laws_of_maximum.proofs.Duality.{sum_same_in}
use Rattle.laws_of_maximum.proofs.Takers.{CanTake, IsTakersLeg, rooms-after}

-- the bound of a set of zones after some events
abbrev pub left_bound : Graph → List Event → Order → (zones : List ℕ) → ℕ
left_bound graph V taker zones =
    bound_with graph (room V (contract_quarters taker.contract)) taker.side (line V taker.contract (opposite taker.side)) (crossing_lots taker) zones

-- the same, of one that entered: where it stands in the line, and in the zones
abbrev counted : (taker : Order) → (zones : List ℕ) → List Event → Placed → ℕ
counted taker zones V p = lots_if (stands_in V taker.contract (opposite taker.side) p) (lots_if (has p.order.zone zones) (crossing_lots taker (standing V p)))

-- what crosses in some zones is the sum over those that entered
crossing-sum : (V : List Event) (taker : Order) (zones : List ℕ)
    → sum_by (crossing_lots taker) (filter (λ s. has s.order.zone zones) (line V taker.contract (opposite taker.side))) ≡ sum_by (counted taker zones V) (placed V)
crossing-sum V taker zones =
    sum-filter (crossing_lots taker) (λ s. has s.order.zone zones) (line V taker.contract (opposite taker.side))
    ∙ sum-line V taker.contract (opposite taker.side) (λ s. lots_if (has s.order.zone zones) (crossing_lots taker s))

other_side : (side : Side) → same_side side (opposite side) ≡ false
other_side Buy = refl
other_side Sell = refl

and-false : (a : Bool) → (a && false) ≡ false
and-false true = refl
and-false false = refl

parted_if : (b : Bool) (all rest lots : ℕ) → rest + lots ≡ all → lots_if b all ≡ lots_if b rest + lots_if b lots
parted_if true all rest lots e = sym e
parted_if false all rest lots e = refl

module _ (graph : Graph) (is_graph : IsGraph graph) (V : List Event) (can : CanTake V) (taker : Placed) (there : IsIn taker (placed V)) (e : Event) (next : IsTakersLeg graph V taker e)
    (flat : (standing V taker).price ≡ taker.order.price) (zones : List ℕ) where
  abbrev lots : ℕ
  lots = next.leg.lots

  abbrev maker : Placed
  maker = next.maker

  abbrev traded : Event
  traded = event.Leg taker.order.contract next.leg

  -- what the leg counts in the zones
  abbrev in_zones : ℕ
  in_zones = lots_if (has maker.order.zone zones) lots

  filled-named : (name : OrderName) (b : Bool) → names next.leg name ≡ b → filled (and_then V traded) name ≡ filled V name + lots_if b lots
  filled-named name b is = filled-more V traded name ∙ ap (λ t. filled V name + lots_if t lots) is

  left-named : (name : OrderName) (b : Bool) → names next.leg name ≡ b → left (and_then V traded) name ≡ left V name - lots_if b lots
  left-named name b is = left-more V traded name refl ∙ ap (λ t. left V name - (lots_if t lots + 0)) is ∙ (let same : left V name - (lots_if b lots + 0) ≡ left V name - lots_if b lots = omega arith in same)

  -- the maker
  maker_named : names next.leg maker.name ≡ true
  maker_named = subst (λ n. names next.leg n ≡ true) next.maker_is (names-maker next.leg)

  of_line : (V : List Event) → stands_in V taker.order.contract (opposite taker.order.side) maker ≡ is_open V maker.name
  of_line V =
      ap (λ b. is_open V maker.name && b && same_side maker.order.side (opposite taker.order.side)) (subst (λ c. same_contract maker.order.contract c ≡ true) next.same (same_contract-refl maker.order.contract))
      ∙ ap (λ b. is_open V maker.name && true && b) (subst (λ s. same_side maker.order.side s ≡ true) next.opposed (same_side-refl maker.order.side))
      ∙ and-true (is_open V maker.name)
    where
      and-true : (b : Bool) → (b && true && true) ≡ b
      and-true true = refl
      and-true false = refl

  counted-maker : counted taker.order zones V maker ≡ counted taker.order zones (and_then V traded) maker + in_zones
  counted-maker =
      let had = filled V maker.name in
      let was = left V maker.name in
      let crossing = subst (λ price. crosses taker.order.side price (standing V maker).price ≡ true) flat next.crossing in
      let fall = crosses-fall taker.order maker.order had was lots (can.peaks maker next.maker_open.is_placed) crossing next.some next.maker_shows in
      let before : counted taker.order zones V maker ≡ lots_if (has maker.order.zone zones) (crosses_left taker.order maker.order had was) =
      ap (λ b. lots_if b (lots_if (has maker.order.zone zones) (crosses_left taker.order maker.order had was))) (of_line V ∙ next.maker_open.is_left) in
      let after : counted taker.order zones (and_then V traded) maker ≡ lots_if (has maker.order.zone zones) (while_left (was - lots) (crosses_left taker.order maker.order (had + lots) (was - lots))) =
      ap (λ b. lots_if b (lots_if (has maker.order.zone zones) (crossing_lots taker.order (standing (and_then V traded) maker)))) (of_line (and_then V traded))
      ∙ exchanged (is_open (and_then V traded) maker.name) (has maker.order.zone zones) (crossing_lots taker.order (standing (and_then V traded) maker))
      ∙ ap (λ n. lots_if (has maker.order.zone zones) (while_left n (crosses_left taker.order maker.order (filled (and_then V traded) maker.name) n))) (left-named maker.name true maker_named)
      ∙ ap (λ n. lots_if (has maker.order.zone zones) (while_left (was - lots) (crosses_left taker.order maker.order n (was - lots)))) (filled-named maker.name true maker_named) in
      before
      ∙ parted_if (has maker.order.zone zones) (crosses_left taker.order maker.order had was) (while_left (was - lots) (crosses_left taker.order maker.order (had + lots) (was - lots))) lots fall
      ∙ ap (λ n. n + in_zones) (sym after)

  -- whoever the leg does not name stays as it was
  counted-other : (p : Placed) → names next.leg p.name ≡ false → counted taker.order zones V p ≡ counted taker.order zones (and_then V traded) p
  counted-other p none =
      let same_filled : filled (and_then V traded) p.name ≡ filled V p.name = filled-named p.name false none ∙ omega arith in
      let same_left : left (and_then V traded) p.name ≡ left V p.name = left-named p.name false none ∙ omega arith in
      let at : ℕ → ℕ → ℕ = λ f n. lots_if (nat_lt 0 n && same_contract p.order.contract taker.order.contract && same_side p.order.side (opposite taker.order.side))
      (lots_if (has p.order.zone zones) (crosses_left taker.order p.order f n)) in
      ap (λ f. at f (left V p.name)) (sym same_filled) ∙ ap (at (filled (and_then V traded) p.name)) (sym same_left)

  -- the taker stands in another line
  counted-taker : (W : List Event) → counted taker.order zones W taker ≡ 0
  counted-taker W =
      ap (λ b. lots_if (is_open W taker.name && same_contract taker.order.contract taker.order.contract && b) (lots_if (has taker.order.zone zones) (crossing_lots taker.order (standing W taker))))
      (other_side taker.order.side)
      ∙ ap (λ b. lots_if b (lots_if (has taker.order.zone zones) (crossing_lots taker.order (standing W taker)))) (and-false (is_open W taker.name && same_contract taker.order.contract taker.order.contract))

  counted-step : (p : Placed) → IsIn p (placed V) → counted taker.order zones V p ≡ counted taker.order zones (and_then V traded) p + lots_if (same_name p.name maker.name) in_zones
  counted-step p i = by (same_name p.name maker.name) refl
    where
      by : (b : Bool) → same_name p.name maker.name ≡ b → counted taker.order zones V p ≡ counted taker.order zones (and_then V traded) p + lots_if b in_zones
      by true is =
          let same : maker ≡ p = one_order V can.names maker p next.maker_open.is_placed i (sym (same_name-eq p.name maker.name is)) in
          subst (λ q. counted taker.order zones V q ≡ counted taker.order zones (and_then V traded) q + in_zones) same counted-maker
      by false is = of_taker (same_name taker.name p.name) refl ∙ (let none : counted taker.order zones (and_then V traded) p ≡ counted taker.order zones (and_then V traded) p + 0 = omega arith in none)
        where
          of_maker : same_name next.leg.maker p.name ≡ false
          of_maker = go (same_name next.leg.maker p.name) refl
            where
              go : (b : Bool) → same_name next.leg.maker p.name ≡ b → b ≡ false
              go false e = refl
              go true e =
                  let name : p.name ≡ maker.name = sym (same_name-eq next.leg.maker p.name e) ∙ next.maker_is in
                  absurd (true≢false (sym (ap (λ n. same_name n maker.name) name ∙ same_name-refl maker.name) ∙ is))

          of_taker : (b : Bool) → same_name taker.name p.name ≡ b → counted taker.order zones V p ≡ counted taker.order zones (and_then V traded) p
          of_taker true t =
              let same : taker ≡ p = one_order V can.names taker p there i (same_name-eq taker.name p.name t) in
              subst (λ q. counted taker.order zones V q ≡ counted taker.order zones (and_then V traded) q) same (counted-taker V ∙ sym (counted-taker (and_then V traded)))
          of_taker false t =
              counted-other p (ap (λ b. b || same_name next.leg.maker p.name) (ap (λ n. same_name n p.name) next.taker_is ∙ t) ∙ of_maker)

  -- the leg takes what it counts in the zones from what crosses there
  crossing-falls : sum_by (crossing_lots taker.order) (filter (λ s. has s.order.zone zones) (line V taker.order.contract (opposite taker.order.side)))
      ≡ sum_by (crossing_lots taker.order) (filter (λ s. has s.order.zone zones) (line (and_then V traded) taker.order.contract (opposite taker.order.side))) + in_zones
  crossing-falls =
      let own = crossing-sum V taker.order zones in
      let then_sum = crossing-sum (and_then V traded) taker.order zones in
      let steps = sum_same_in (counted taker.order zones V) (λ p. counted taker.order zones (and_then V traded) p + lots_if (same_name p.name maker.name) in_zones) (placed V) counted-step in
      let parts = sum_parts (λ p. counted taker.order zones (and_then V traded) p + lots_if (same_name p.name maker.name) in_zones) (counted taker.order zones (and_then V traded))
      (λ p. lots_if (same_name p.name maker.name) in_zones) (placed V) (λ p. refl) in
      let one = count-named V maker in_zones can.names next.maker_open.is_placed in
      let placed_same : sum_by (counted taker.order zones (and_then V traded)) (placed (and_then V traded)) ≡ sum_by (counted taker.order zones (and_then V traded)) (placed V) =
      ap (sum_by (counted taker.order zones (and_then V traded))) (picked-same placed_by V traded refl) in
      omega (arith, own, then_sum, steps, parts, one, placed_same)

  -- and the rest of its lots from the room across their edge
  across-falls : has taker.order.zone zones ≡ true
      → room_across graph (room (and_then V traded) (contract_quarters taker.order.contract)) taker.order.side zones + lots
      ≡ room_across graph (room V (contract_quarters taker.order.contract)) taker.order.side zones + in_zones
  across-falls inside = by taker.order.side refl
    where
      after : room (and_then V traded) (contract_quarters taker.order.contract) ≡ room_after (room V (contract_quarters taker.order.contract)) (route_leg next.leg)
      after = fun_ext (subst (λ x. (arc : Arc) → room (and_then V x) (contract_quarters taker.order.contract) arc
          ≡ room_after (room V (contract_quarters taker.order.contract)) (route_leg next.leg) arc) (sym next.is) (rooms-after graph is_graph V can taker e next))

      own : lots_if (has taker.order.zone zones) lots ≡ lots
      own = ap (λ b. lots_if b lots) inside

      by : (side : Side) → taker.order.side ≡ side
          → room_across graph (room (and_then V traded) (contract_quarters taker.order.contract)) side zones + lots
          ≡ room_across graph (room V (contract_quarters taker.order.contract)) side zones + in_zones
      by Buy is =
          let from : seller_zone (standing V taker) (standing V maker) ≡ maker.order.zone = seller_to_buy taker maker is in
          let to : buyer_zone (standing V taker) (standing V maker) ≡ taker.order.zone = buyer_to_buy taker maker is in
          let fits = subst (λ z. HasRoomFor graph (room V (contract_quarters taker.order.contract)) maker.order.zone z (route_leg next.leg)) to
          (subst (λ z. HasRoomFor graph (room V (contract_quarters taker.order.contract)) z (buyer_zone (standing V taker) (standing V maker)) (route_leg next.leg)) from next.fits) in
          ap (λ rooms. room_across graph rooms Buy zones + lots) after
          ∙ omega (arith, entering_after graph (room V (contract_quarters taker.order.contract)) maker.order.zone taker.order.zone zones (route_leg next.leg) fits, own)
        where
          seller_to_buy : (one other : Placed) → one.order.side ≡ Buy → seller_zone (standing V one) (standing V other) ≡ other.order.zone
          seller_to_buy one other s = rw s refl

          buyer_to_buy : (one other : Placed) → one.order.side ≡ Buy → buyer_zone (standing V one) (standing V other) ≡ one.order.zone
          buyer_to_buy one other s = rw s refl
      by Sell is =
          let from : seller_zone (standing V taker) (standing V maker) ≡ taker.order.zone = seller_to_sell taker maker is in
          let to : buyer_zone (standing V taker) (standing V maker) ≡ maker.order.zone = buyer_to_sell taker maker is in
          let fits = subst (λ z. HasRoomFor graph (room V (contract_quarters taker.order.contract)) taker.order.zone z (route_leg next.leg)) to
          (subst (λ z. HasRoomFor graph (room V (contract_quarters taker.order.contract)) z (buyer_zone (standing V taker) (standing V maker)) (route_leg next.leg)) from next.fits) in
          ap (λ rooms. room_across graph rooms Sell zones + lots) after
          ∙ omega (arith, leaving_after graph (room V (contract_quarters taker.order.contract)) taker.order.zone maker.order.zone zones (route_leg next.leg) fits, own)
        where
          seller_to_sell : (one other : Placed) → one.order.side ≡ Sell → seller_zone (standing V one) (standing V other) ≡ one.order.zone
          seller_to_sell one other s = rw s refl

          buyer_to_sell : (one other : Placed) → one.order.side ≡ Sell → buyer_zone (standing V one) (standing V other) ≡ other.order.zone
          buyer_to_sell one other s = rw s refl

  -- so it takes all of them from the bound
  pub bound-falls : has taker.order.zone zones ≡ true → left_bound graph (and_then V e) taker.order zones + next.leg.lots ≡ left_bound graph V taker.order zones
  bound-falls inside =
      subst (λ x. left_bound graph (and_then V x) taker.order zones + next.leg.lots ≡ left_bound graph V taker.order zones) next.is
      (omega (arith, crossing-falls, across-falls inside))
