-- The first maker in reach, and the trade with it.
use Rattle.std.proofs.Common.{◌≡◌, ◌∙◌, ℕ, ◌<◌, ◌&&◌, Bool, List, Option, Some, None, nat_lt, is_some, refl, sym, ap, if◌then◌else◌}
use Rattle.std.proofs.lemmas.Bool.{lt-ltb}
use Rattle.std.specs.List.{find}
use Rattle.std.specs.Option.{option_and_then}
use Rattle.order_kinds.specs.declared.side.Side.{Side}
use Rattle.order_kinds.specs.declared.side.Side.TheVariants.{Buy, Sell}
use Rattle.order_kinds.specs.Same.{same_side}
use Rattle.zone_graph.specs.declared.route.Arc.{Arc}
use Rattle.zone_graph.specs.Graph.{Graph, HasZone, IsGraph}
use Rattle.zone_graph.proofs.Finding.{from_find}
use Rattle.laws_of_market.proofs.Restrict.{find-same}
use Rattle.cut_proof.specs.Cut.{reaches_in}
use Rattle.cut_proof.specs.Distance.{AreDistances, directed_room}
use Rattle.cut_proof.proofs.Reaching.{distance_tells}
use Rattle.laws_of_rows.specs.declared.trades.Maker.{Maker}
use Rattle.plain_market.specs.InReach.{is_in_reach}
use Rattle.laws_of_rows.specs.Depth.{AreInZones, can_fill, crosses_any, fill_with, next_fill, route_with}

-- the zones in reach are those to or from which a route leads
reached-is : (graph : Graph) (room : Arc → ℕ) (side : Side) (zone : ℕ) (maker : Maker)
    → reaches_in graph room maker.zone zone (same_side side Sell) ≡ is_some (route_with graph room side zone maker)
reached-is graph room Buy zone maker = refl
reached-is graph room Sell zone maker = refl

module _ (graph : Graph) (room : Arc → ℕ) (side : Side) (zone left : ℕ) (makers : List Maker) where
  -- the first maker in reach is the first with which a trade can be made
  pub reach-find : (distances : List (Option ℕ)) (towards : Bool) → towards ≡ same_side side Sell → IsGraph graph
      → AreDistances graph (directed_room room towards) zone distances
      → find (is_in_reach distances side) makers ≡ find (can_fill graph room side zone) makers
  reach-find distances towards way is are = find-same (is_in_reach distances side) (can_fill graph room side zone) makers
      (λ maker i. ap (λ b. nat_lt 0 maker.left && crosses_any side maker && b)
      (distance_tells graph room zone towards distances maker.zone is are ∙ ap (λ t. reaches_in graph room maker.zone zone t) way ∙ reached-is graph room side zone maker))

  pub found-fill : (found : Option Maker) → 0 < left → found ≡ find (can_fill graph room side zone) makers
      → option_and_then (fill_with graph room side zone left) found ≡ next_fill graph side zone (record { makers = makers; room = room; left = left })
  found-fill found some is =
      ap (option_and_then (fill_with graph room side zone left)) is
      ∙ ap (λ b. if b then option_and_then (fill_with graph room side zone left) (find (can_fill graph room side zone) makers) else None) (sym (lt-ltb 0 left some))

  pub in_reach-known : (distances : List (Option ℕ)) (maker : Maker) → AreInZones graph makers → find (is_in_reach distances side) makers ≡ Some maker → HasZone graph maker.zone
  in_reach-known distances maker known found = known.each maker (from_find (is_in_reach distances side) maker makers found).0
