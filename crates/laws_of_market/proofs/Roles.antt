-- A pour between two blocks carries as much whichever of them is the taker.
use Rattle.std.proofs.Common.{◌≡◌, ◌∙◌, ℕ, zero, suc, ◌-◌, List, ◌++◌, fold, Option, Some, None, refl, sym, ap, subst}
use Rattle.std.specs.Option.{option_map}
use Rattle.order_kinds.specs.declared.side.Side.{Side}
use Rattle.order_kinds.specs.declared.side.Side.TheVariants.{Buy, Sell}
use Rattle.order_kinds.specs.Period.{block_quarters}
use Rattle.order_kinds.specs.Side.{opposite}
use Rattle.zone_graph.specs.declared.route.RouteLeg.{RouteLeg}
use Rattle.zone_graph.specs.Graph.{Graph}
use Rattle.zone_graph.specs.Pour.{pour_leg}
use Rattle.zone_graph.specs.Steps.{step_and_onward, steps}
use Rattle.market_model.specs.declared.event.Event.{Event}
use Rattle.market_model.specs.declared.event.Leg.{Leg}
use Rattle.market_model.specs.Blocks.{StandingBlock, block_buyer_zone, block_leg, block_leg_over, block_legs, block_seller_zone}
use Rattle.market_model.specs.History.{and_then}
use Rattle.market_model.specs.Orders.{left}
use Rattle.market_model.specs.Room.{room}
use Rattle.laws_of_market.proofs.Balances.{left-block_leg, names-taker}
use Rattle.laws_of_market.proofs.Capacities.{SameCapacity, room-same, same-more}
use Rattle.laws_of_market.proofs.Repeats.{fold-and_then}

-- a leg lowers what is left of its taker by its lots
lowered : (taker maker : StandingBlock) (events : List Event) (leg : RouteLeg) → left (and_then events (block_leg_over taker maker leg)) taker.name ≡ left events taker.name - leg.lots
lowered taker maker events leg =
    let made : Leg = record { taker = taker.name; maker = maker.name; lots = leg.lots; price = maker.order.price; route = leg.route } in
    left-block_leg events taker.order.first taker.order.last made taker.name (names-taker made)

module _ (graph : Graph) (a b : StandingBlock) (first : b.order.first ≡ a.order.first) (last : b.order.last ≡ a.order.last)
    (opposed : b.order.side ≡ opposite a.order.side) where
  -- the zones are the same, whichever block is named first
  seller : block_seller_zone b a ≡ block_seller_zone a b
  seller = go a.order.side b.order.side refl refl opposed
    where
      go : (own its : Side) → a.order.side ≡ own → b.order.side ≡ its → its ≡ opposite own → block_seller_zone b a ≡ block_seller_zone a b
      go Buy Buy e k o = absurd (cc)
      go Buy Sell e k o = rw (e, k) refl
      go Sell Buy e k o = rw (e, k) refl
      go Sell Sell e k o = absurd (cc)

  buyer : block_buyer_zone b a ≡ block_buyer_zone a b
  buyer = go a.order.side b.order.side refl refl opposed
    where
      go : (own its : Side) → a.order.side ≡ own → b.order.side ≡ its → its ≡ opposite own → block_buyer_zone b a ≡ block_buyer_zone a b
      go Buy Buy e k o = absurd (cc)
      go Buy Sell e k o = rw (e, k) refl
      go Sell Buy e k o = rw (e, k) refl
      go Sell Sell e k o = absurd (cc)

  quarters : block_quarters b.order.first b.order.last ≡ block_quarters a.order.first a.order.last
  quarters = rw (first, last) refl

  -- the routes and lots of the next leg are the same
  next_same : (xs ys : List Event) → SameCapacity xs ys → left xs a.name ≡ left ys b.name
      → pour_leg graph (room ys (block_quarters b.order.first b.order.last)) (block_seller_zone b a) (block_buyer_zone b a) (left ys b.name)
      ≡ pour_leg graph (room xs (block_quarters a.order.first a.order.last)) (block_seller_zone a b) (block_buyer_zone a b) (left xs a.name)
  next_same xs ys same lots =
      rw (seller, buyer, quarters, ← room-same xs ys same (block_quarters a.order.first a.order.last), ← lots) refl

  after_leg : (leg : RouteLeg) (xs ys : List Event) → SameCapacity xs ys → SameCapacity (and_then xs (block_leg_over a b leg)) (and_then ys (block_leg_over b a leg))
  after_leg leg xs ys same =
      same-more xs ys (block_leg_over a b leg) (block_leg_over b a leg) same (λ quarter arc. rw (first, last) refl) (λ quarter arc. refl) (λ hour. refl) (λ border hour. refl)

  -- as much is left in the end
  same_steps : (most : ℕ) (xs ys : List Event) → SameCapacity xs ys → left xs a.name ≡ left ys b.name
      → left (fold and_then xs (steps most (block_leg graph a b) and_then xs)) a.name ≡ left (fold and_then ys (steps most (block_leg graph b a) and_then ys)) b.name
  unfolding steps block_leg
  same_steps zero xs ys same lots = lots
  same_steps (suc most) xs ys same lots =
      go (λ leg. same_steps most (and_then xs (block_leg_over a b leg)) (and_then ys (block_leg_over b a leg)) (after_leg leg xs ys same))
      (pour_leg graph (room xs (block_quarters a.order.first a.order.last)) (block_seller_zone a b) (block_buyer_zone a b) (left xs a.name))
      (pour_leg graph (room ys (block_quarters b.order.first b.order.last)) (block_seller_zone b a) (block_buyer_zone b a) (left ys b.name))
      (next_same xs ys same lots)
    where
      go : ((leg : RouteLeg) → left (and_then xs (block_leg_over a b leg)) a.name ≡ left (and_then ys (block_leg_over b a leg)) b.name
          → left (fold and_then (and_then xs (block_leg_over a b leg)) (steps most (block_leg graph a b) and_then (and_then xs (block_leg_over a b leg)))) a.name
          ≡ left (fold and_then (and_then ys (block_leg_over b a leg)) (steps most (block_leg graph b a) and_then (and_then ys (block_leg_over b a leg)))) b.name)
          → (o p : Option RouteLeg) → p ≡ o
          → left (fold and_then xs (step_and_onward (option_map (block_leg_over a b) o) (λ e. steps most (block_leg graph a b) and_then (and_then xs e)))) a.name
          ≡ left (fold and_then ys (step_and_onward (option_map (block_leg_over b a) p) (λ e. steps most (block_leg graph b a) and_then (and_then ys e)))) b.name
      go onward None None e = lots
      go onward None (Some leg) e = absurd (cc)
      go onward (Some leg) None e = absurd (cc)
      go onward (Some leg) (Some other) e =
          let same_leg : leg ≡ other = cc in
          let of_a : left (and_then xs (block_leg_over a b leg)) a.name ≡ left xs a.name - leg.lots = lowered a b xs leg in
          let of_b : left (and_then ys (block_leg_over b a leg)) b.name ≡ left ys b.name - leg.lots = lowered b a ys leg in
          subst (λ l. left (fold and_then (and_then xs (block_leg_over a b leg)) (steps most (block_leg graph a b) and_then (and_then xs (block_leg_over a b leg)))) a.name
          ≡ left (fold and_then (and_then ys (block_leg_over b a l)) (steps most (block_leg graph b a) and_then (and_then ys (block_leg_over b a l)))) b.name) same_leg
          (onward leg (of_a ∙ ap (λ n. n - leg.lots) lots ∙ sym of_b))

  -- a pour carries as much whichever block is the taker
  pub same_pour : (events : List Event) → left events a.name ≡ left events b.name
      → left (events ++ block_legs graph a b events) a.name ≡ left (events ++ block_legs graph b a events) b.name
  unfolding block_legs
  same_pour events lots =
      let same : SameCapacity events events = record {
        allocated_same = λ quarter arc. refl;
        offered_same = λ quarter arc. refl;
        phase_same = λ hour. refl;
        halted_same = λ border hour. refl;
      } in
      let in_steps = same_steps (left events a.name) events events same lots in
      let one = ap (λ xs. left xs a.name) (fold-and_then events (steps (left events a.name) (block_leg graph a b) and_then events)) in
      let other = ap (λ xs. left xs b.name) (fold-and_then events (steps (left events b.name) (block_leg graph b a) and_then events)) in
      sym one ∙ in_steps ∙ ap (λ n. left (fold and_then events (steps n (block_leg graph b a) and_then events)) b.name) lots ∙ other
