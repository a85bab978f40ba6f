-- Routes that name no border twice, arc by arc.
use Rattle.std.proofs.Common.{◌≡◌, ◌∙◌, ◌+◌, ◌<◌, ◌||◌, ℕ, pos, ◌+ℤ◌, ◌-ℤ◌, ◌≤ℤ◌, ℤ, Bool, true, false, List, length, map, get_or, take, if◌then◌else◌, refl, sym, ap, arith}
use Rattle.std.proofs.lemmas.Int.{ints}
use Rattle.std.proofs.lemmas.List.Folds.{list_any_more}
use Rattle.quarter_capacity.specs.Capacity.{remaining_of}
use Rattle.zone_graph.specs.declared.route.Arc.{Arc}
use Rattle.zone_graph.specs.Pour.{lots_if, opposite_arc, same_arc, uses}
use Rattle.zone_graph.specs.Route.{AreDifferent}
use Rattle.zone_graph.proofs.Arcs.{same_arc-border, same_arc-symm, is_fresh, never_both, lots_if-or}
use Rattle.flow_netting.specs.Flows.{added_by}

-- ---- the same arc

-- ---- one more arc of a route

net_sum : (old mid new : ℤ) (a b c a' b' c' : ℕ) → c ≡ a + b → c' ≡ a' + b'
    → mid ≡ old +ℤ (pos a -ℤ pos a') → new ≡ mid +ℤ (pos b -ℤ pos b') → new ≡ old +ℤ (pos c -ℤ pos c')
net_sum old mid new a b c a' b' c' e e' h k = omega (arith, ints)

module _ (route : List Arc) (i : ℕ) (d : Arc) (differ : AreDifferent (map (λ arc. arc.border) route)) (within : i < length route) (lots : ℕ) where
  uses_more : (other : Arc) → lots_if (uses (take (i + 1) route) other) lots ≡ lots_if (uses (take i route) other) lots + lots_if (same_arc (get_or route i d) other) lots
  uses_more other =
      ap (λ b. lots_if b lots)
      (list_any_more (same_arc other) route i d within
      ∙ ap (λ b. uses (take i route) other || b) (same_arc-symm other (get_or route i d)))
      ∙ lots_if-or (uses (take i route) other) (same_arc (get_or route i d) other) lots
      (never_both (uses (take i route) other) (same_arc (get_or route i d) other)
      (λ same. is_fresh route i d other differ within (sym (same_arc-border (get_or route i d) other same))))

  -- the flow over an arc after one more arc of the route
  pub flow_more : (other : Arc) (counts : Bool) (old mid new : ℤ)
      → mid ≡ (if counts then old +ℤ added_by (uses (take i route)) lots other else old)
      → new ≡ (if counts then mid +ℤ added_by (same_arc (get_or route i d)) lots other else mid)
      → new ≡ (if counts then old +ℤ added_by (uses (take (i + 1) route)) lots other else old)
  flow_more other true old mid new before taken = net_sum old mid new _ _ _ _ _ _ (uses_more other) (uses_more (opposite_arc other)) before taken
  flow_more other false old mid new before taken = taken ∙ before

  -- on the next arc as much is left as at first
  pub left_on_next : (counts : Bool) (offer offer' : ℕ) (old mid : ℤ) → counts ≡ true
      → offer' ≡ offer
      → mid ≡ (if counts then old +ℤ added_by (uses (take i route)) lots (get_or route i d) else old)
      → pos lots ≤ℤ remaining_of offer old → pos lots ≤ℤ remaining_of offer' mid
  left_on_next false offer offer' old mid on same before left = cc
  left_on_next true offer offer' old mid on same before left =
      let none : lots_if (uses (take i route) (get_or route i d)) lots ≡ 0 =
      ap (λ b. lots_if b lots) (is_fresh route i d (get_or route i d) differ within refl) in
      let opposite_none : lots_if (uses (take i route) (opposite_arc (get_or route i d))) lots ≡ 0 =
      ap (λ b. lots_if b lots) (is_fresh route i d (opposite_arc (get_or route i d)) differ within refl) in
      unchanged offer offer' old mid _ _ none opposite_none same before left
    where
      unchanged : (offer offer' : ℕ) (old mid : ℤ) (a b : ℕ) → a ≡ 0 → b ≡ 0 → offer' ≡ offer → mid ≡ old +ℤ (pos a -ℤ pos b)
          → pos lots ≤ℤ remaining_of offer old → pos lots ≤ℤ remaining_of offer' mid
      unchanged offer offer' old mid a b none other same before left = omega (arith, ints)
