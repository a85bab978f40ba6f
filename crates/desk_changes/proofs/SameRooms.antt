-- The next deal of a period depends on the rooms of the graph's arcs alone.
use Rattle.std.proofs.Common.{◌≡◌, ◌∙◌, ℕ, zero, suc, ◌+◌, ◌-◌, ◌==◌, ◌&&◌, Bool, false, List, [], ◌∷◌, Option, Some, None, refl, sym, ap, if◌then◌else◌}
use Rattle.std.proofs.Math.Path.{fun_ext}
use Rattle.std.specs.List.{find}
use Rattle.std.specs.Option.{option_map}
use Rattle.order_kinds.specs.declared.side.Side.TheVariants.{Buy}
use Rattle.order_kinds.specs.Side.{opposite}
use Rattle.zone_graph.specs.declared.route.Arc.{Arc}
use Rattle.zone_graph.specs.declared.route.RouteLeg.{RouteLeg}
use Rattle.zone_graph.specs.Graph.{Graph, HasArc, IsGraph}
use Rattle.zone_graph.specs.Pour.{lots_if, opposite_arc, pour, pour_leg, room_after, uses}
use Rattle.zone_graph.specs.Route.{best_route, carried}
use Rattle.zone_graph.specs.Route.{IsIn}
use Rattle.zone_graph.proofs.BestRoute.{best_route-is, best_route-rooms}
use Rattle.cut_proof.proofs.Ways.{way_has_arc}
use Rattle.cut_proof.proofs.Carrying.{carried-rooms}
use Rattle.route_choice.specs.Poured.{lots_of}
use Rattle.route_choice.proofs.Pours.{Poured, pour-run, runs_to_its_end}
use Rattle.block_book.specs.declared.block.RestingBlock.{RestingBlock}
use Rattle.block_book.specs.Book.{line_of}
use Rattle.market_model.specs.Sweep.{first_answer}
use Rattle.block_match.specs.declared.deal.BlockDeal.{BlockDeal}
use Rattle.block_match.specs.Deals.{deal_of_period, is_earlier}
use Rattle.block_match.specs.Meeting.{is_crossed, legs_between}

module _ (graph : Graph) (is : IsGraph graph) where
  -- rooms that are the same at the graph's arcs
  abbrev pub AreAlike : (one other : Arc → ℕ) → Type 0
  AreAlike one other = (arc : Arc) → HasArc graph arc → one arc ≡ other arc

  -- the next leg of a pour
  leg-rooms : (one other : Arc → ℕ) (from to lots : ℕ) → AreAlike one other → pour_leg graph one from to lots ≡ pour_leg graph other from to lots
  leg-rooms one other from to zero same = refl
  leg-rooms one other from to (suc more) same =
      go (best_route graph one from to) refl ∙ ap (option_map (over other)) (best_route-rooms graph one other from to is same)
    where
      over : (Arc → ℕ) → List Arc → RouteLeg
      over its route = record { route = route; lots = carried its (suc more) route }

      arcs : (route : List Arc) → best_route graph one from to ≡ Some route → (arc : Arc) → IsIn arc route → HasArc graph arc
      arcs route found arc i = way_has_arc graph one from to route arc (best_route-is graph one from to route is found).route.way i

      go : (o : Option (List Arc)) → best_route graph one from to ≡ o → option_map (over one) o ≡ option_map (over other) o
      go None found = refl
      go (Some route) found =
          ap (λ lots. Some (record { route = route; lots = lots })) (carried-rooms graph one other (suc more) route same (arcs route found))

  -- all of its legs
  poured-rooms : (legs : List RouteLeg) (one other : Arc → ℕ) (from to left : ℕ) → AreAlike one other → Poured graph from to one left legs → Poured graph from to other left legs
  poured-rooms [] one other from to left same none = sym (leg-rooms one other from to left same) ∙ none
  poured-rooms (leg ∷ legs) one other from to left same some = (
    sym (leg-rooms one other from to left same) ∙ some.0,
    poured-rooms legs (room_after one leg) (room_after other leg) from to (left - leg.lots)
        (λ arc has. ap (λ n. (n + lots_if (uses leg.route (opposite_arc arc)) leg.lots) - lots_if (uses leg.route arc) leg.lots) (same arc has)) some.1,
  )

  -- so a pour is the same
  pub pour-rooms : (one other : Arc → ℕ) (from to most : ℕ) → AreAlike one other → pour graph one from to most ≡ pour graph other from to most
  pour-rooms one other from to most same =
      (runs_to_its_end graph other from to most (pour graph one from to most) is).0
      (poured-rooms (pour graph one from to most) one other from to most same (pour-run graph from to one most is))

-- the next deal of a period, by the legs between two blocks
abbrev deal_by : (legs : RestingBlock → RestingBlock → List RouteLeg) → (book : List RestingBlock) → (last : ℕ) → Option BlockDeal
deal_by legs book last =
    first_answer (λ buy. option_map (λ sell. if is_earlier buy sell then deal sell buy else deal buy sell) (find (trades buy) (line_of book buy.last (opposite buy.side))))
    (line_of book last Buy)
  where
    deal : (taker maker : RestingBlock) → BlockDeal
    deal taker maker = record { taker = taker.number; maker = maker.number; price = maker.price; legs = legs taker maker }

    trades : (own other : RestingBlock) → Bool
    trades own other = if (other.quantity == own.quantity) && is_crossed own other then lots_of (legs own other) == own.quantity else false

pub deal-rooms : (graph : Graph) → IsGraph graph → (one other : Arc → ℕ) (book : List RestingBlock) (last : ℕ) → ((arc : Arc) → HasArc graph arc → one arc ≡ other arc)
    → deal_of_period graph one book last ≡ deal_of_period graph other book last
deal-rooms graph is one other book last same =
    ap (λ legs. deal_by legs book last) between
  where
    between : legs_between graph one ≡ legs_between graph other
    between = fun_ext (λ (own : RestingBlock). fun_ext (λ (another : RestingBlock). pour-rooms graph is one other _ _ own.quantity same))
