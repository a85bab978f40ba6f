-- Routes that name no border twice, arc by arc.
use Rattle.std.proofs.Common.{◌≡◌, ◌∙◌, ◌+◌, ◌<◌, ◌≤◌, ◌||◌, ℕ, pos, ◌+ℤ◌, ◌≤ℤ◌, ℤ, List, length, get_or, take, refl, sym, ap, subst, arith}
use Rattle.std.proofs.lemmas.Int.{ints}
use Rattle.std.proofs.lemmas.List.{take_all}
use Rattle.std.proofs.lemmas.List.Folds.{list_any_more}
use Rattle.quarter_capacity.specs.Capacity.{flow_of, remaining_of}
use Rattle.quarter_capacity.specs.Row.{Row}
use Rattle.zone_graph.specs.declared.route.Arc.{Arc}
use Rattle.zone_graph.specs.Pour.{lots_if, opposite_arc, same_arc, uses}
use Rattle.zone_graph.proofs.Places.{at_place}
use Rattle.zone_graph.proofs.Arcs.{is_fresh, lots_if-or, never_both, same_arc-border, same_arc-symm}
use Rattle.plain_capacity.specs.Rows.{CanCarry, CanTake, FlowsMore, IsCarried, SameOffers, flow_at, offered_at}

net_sum : (old mid new : ℤ) (a b c a' b' c' : ℕ) → c ≡ a + b → c' ≡ a' + b'
    → mid ≡ old +ℤ flow_of a a' → new ≡ mid +ℤ flow_of b b' → new ≡ old +ℤ flow_of c c'
net_sum old mid new a b c a' b' c' e e' h k = omega (arith, ints)

unchanged : (lots offer offer' : ℕ) (old mid : ℤ) (a b : ℕ) → a ≡ 0 → b ≡ 0 → offer' ≡ offer → mid ≡ old +ℤ flow_of a b
    → pos lots ≤ℤ remaining_of offer old → pos lots ≤ℤ remaining_of offer' mid
unchanged lots offer offer' old mid a b none other same before left = omega (arith, ints)

-- lots that the first arcs of a route carry
abbrev pub carried_by : (route : List Arc) (i lots : ℕ) → Arc → ℕ
carried_by route i lots arc = lots_if (uses (take i route) arc) lots

module _ (route : List Arc) (i : ℕ) (d : Arc) (within : i < length route) (lots : ℕ) (old mid : List Row) (can : CanCarry old route lots)
    (offers : SameOffers old mid) (flows : FlowsMore (carried_by route i lots) old mid) where
  uses_more : (other : Arc) → carried_by route (i + 1) lots other ≡ carried_by route i lots other + lots_if (same_arc (get_or route i d) other) lots
  uses_more other =
      ap (λ b. lots_if b lots)
      (list_any_more (same_arc other) route i d within
      ∙ ap (λ b. uses (take i route) other || b) (same_arc-symm other (get_or route i d)))
      ∙ lots_if-or (uses (take i route) other) (same_arc (get_or route i d) other) lots
      (never_both (uses (take i route) other) (same_arc (get_or route i d) other)
      (λ same. is_fresh route i d other can.different within (sym (same_arc-border (get_or route i d) other same))))

  -- on the next arc as much remains as at first
  pub next-taken : length mid ≡ length old → CanTake mid (get_or route i d) lots
  next-taken size =
      let next = get_or route i d in
      let there = can.there next (at_place route i d within) in
      record {
        there = omega arith;
        left = unchanged lots (offered_at old next) (offered_at mid next) (flow_at old next) (flow_at mid next) (carried_by route i lots next) (carried_by route i lots (opposite_arc next))
            (ap (λ b. lots_if b lots) (is_fresh route i d next can.different within refl))
            (ap (λ b. lots_if b lots) (is_fresh route i d (opposite_arc next) can.different within refl))
            (offers next) (flows next) (can.left next (at_place route i d within));
      }

  -- the flows after one more arc of the route
  pub flows_more : (new : List Row) → FlowsMore (λ other. lots_if (same_arc (get_or route i d) other) lots) mid new → FlowsMore (carried_by route (i + 1) lots) old new
  flows_more new taken other =
      net_sum (flow_at old other) (flow_at mid other) (flow_at new other) _ _ _ _ _ _ (uses_more other) (uses_more (opposite_arc other)) (flows other) (taken other)

-- the first arcs of a route carry lots
pub record IsCarriedSoFar (route : List Arc) (i lots : ℕ) (old new : List Row) : Type 0 where
  pub size : length new ≡ length old
  pub offers : SameOffers old new
  pub flows : FlowsMore (carried_by route i lots) old new

pub none-carried : (route : List Arc) (lots : ℕ) (rows : List Row) → IsCarriedSoFar route 0 lots rows rows
none-carried route lots rows = record { size = refl; offers = λ arc. refl; flows = λ arc. nothing_more (flow_at rows arc) }
  where
    nothing_more : (z : ℤ) → z ≡ z +ℤ flow_of 0 0
    nothing_more z = omega (arith, ints)

module _ (route : List Arc) (i : ℕ) (d : Arc) (within : i < length route) (lots : ℕ) (old mid : List Row) (can : CanCarry old route lots)
    (so_far : IsCarriedSoFar route i lots old mid) where
  pub can-next : CanTake mid (get_or route i d) lots
  can-next = next-taken route i d within lots old mid can so_far.offers so_far.flows so_far.size

  pub next-carried : (new : List Row) → length new ≡ length mid → SameOffers mid new
      → FlowsMore (λ other. lots_if (same_arc (get_or route i d) other) lots) mid new → IsCarriedSoFar route (i + 1) lots old new
  next-carried new size offers flows = record {
    size = size ∙ so_far.size;
    offers = λ other. offers other ∙ so_far.offers other;
    flows = flows_more route i d within lots old mid can so_far.offers so_far.flows new flows;
  }

pub all-carried : (route : List Arc) (i lots : ℕ) (old new : List Row) → length route ≤ i → IsCarriedSoFar route i lots old new → IsCarried route lots old new
all-carried route i lots old new all so_far = record {
  size = so_far.size;
  offers = so_far.offers;
  flows = subst (λ arcs. FlowsMore (λ arc. lots_if (uses arcs arc) lots) old new) (take_all i route all) so_far.flows;
}
