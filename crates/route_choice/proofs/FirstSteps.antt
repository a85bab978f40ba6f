-- A tree of which each step is the one over which a search from the zone has found a zone first
-- tells the best routes from that zone.
use Rattle.std.proofs.Common.{◌≡◌, ◌∙◌, ◌+◌, ◌<◌, ◌≤◌, ◌⊎◌, inl, inr, ℕ, zero, suc, false, List, [], ◌∷◌, ◌++◌, length, get_or, Option, Some, refl, sym, ap, subst, arith, length-append}
use Rattle.std.proofs.lemmas.Bool.{cases_lt}
use Rattle.std.specs.Cmp.{nat_cmp_is}
use Rattle.std.specs.Ordering.{is_gt}
use Rattle.std.specs.declared.cmp.Ordering.{Ordering}
use Rattle.zone_graph.specs.declared.route.Arc.{Arc}
use Rattle.zone_graph.specs.declared.grid.Neighbour.{Neighbour}
use Rattle.zone_graph.specs.Graph.{Graph, HasArc, HasZone, end_of, start_of}
use Rattle.zone_graph.specs.Grid.{IsGrid}
use Rattle.zone_graph.specs.Pour.{opposite_arc}
use Rattle.zone_graph.specs.Route.{AreDifferent, IsIn, IsWay, best_route, zones_on}
use Rattle.zone_graph.proofs.Arcs.{opposite-end, opposite-start, opposite-twice}
use Rattle.zone_graph.proofs.BestRoute.{best_route-unique}
use Rattle.zone_graph.proofs.GridLemmas.{arc_between-every}
use Rattle.cut_proof.specs.Distance.{AreDistances, directed_room, distance_at}
use Rattle.cut_proof.proofs.Ways.{way_longer}
use Rattle.route_choice.specs.Freshness.{IsFresh}
use Rattle.route_choice.specs.Search.{step_at}
use Rattle.route_choice.specs.Tree.{route_along}
use Rattle.route_choice.proofs.Fresh.{fresh_by_routes}
use Rattle.route_choice.proofs.Orders.{border_cmp, border_cmp-itself, equal-longer, lesser-longer, lesser_upto, then_upto}

-- ---- ways from a zone, and how far they lead

-- over an arc with room the distance rises by one at the most
rises : (graph : Graph) (room : Arc → ℕ) (from : ℕ) (distances : List (Option ℕ)) (arc : Arc) → AreDistances graph (directed_room room false) from distances
    → HasArc graph arc → 0 < room arc → distance_at distances (end_of graph arc) ≤ distance_at distances (start_of graph arc) + 1
rises graph room from distances arc a known some =
    let falls = a.falls (opposite_arc arc) known (subst (λ (x : Arc). 0 < room x) (sym (opposite-twice arc)) some) in
    omega (arith, falls, ap (distance_at distances) (opposite-start graph arc), ap (distance_at distances) (opposite-end graph arc))

distance_along : (graph : Graph) (room : Arc → ℕ) (from : ℕ) (distances : List (Option ℕ)) (start to : ℕ) (arcs : List Arc)
    → AreDistances graph (directed_room room false) from distances → IsWay graph room start arcs to → distance_at distances to ≤ distance_at distances start + length arcs
distance_along graph room from distances start to [] a way = let equal = ap (distance_at distances) way in omega (arith, equal)
distance_along graph room from distances start to (arc ∷ arcs) a way =
    let rest = distance_along graph room from distances (end_of graph arc) to arcs a way.3 in
    let rise = rises graph room from distances arc a way.0 way.2 in
    let equal = ap (distance_at distances) way.1 in
    omega (arith, rest, rise, equal)

-- where the distance rises at each arc, all zones are as far as the first one or farther
zones_rise : (graph : Graph) (room : Arc → ℕ) (from : ℕ) (distances : List (Option ℕ)) (start to : ℕ) (arcs : List Arc)
    → AreDistances graph (directed_room room false) from distances → IsWay graph room start arcs to → distance_at distances start + length arcs ≡ distance_at distances to
    → (zone : ℕ) → IsIn zone (zones_on graph start arcs) → distance_at distances start ≤ distance_at distances zone
zones_rise graph room from distances start to [] a way long zone i = elim i [
  | inl e ↦ let equal = ap (distance_at distances) e in omega (arith, equal)
  | inr never ↦ absurd never
]
zones_rise graph room from distances start to (arc ∷ arcs) a way long zone i = elim i [
  | inl e ↦ let equal = ap (distance_at distances) e in omega (arith, equal)
  | inr j ↦
      let rest = distance_along graph room from distances (end_of graph arc) to arcs a way.3 in
      let rise = rises graph room from distances arc a way.0 way.2 in
      let equal = ap (distance_at distances) way.1 in
      let onward = zones_rise graph room from distances (end_of graph arc) to arcs a way.3 (omega (arith, long, rest, rise, equal)) zone j in
      omega (arith, onward, long, rest)
]

-- so that it is in no zone twice
rising_simple : (graph : Graph) (room : Arc → ℕ) (from : ℕ) (distances : List (Option ℕ)) (start to : ℕ) (arcs : List Arc)
    → AreDistances graph (directed_room room false) from distances → IsWay graph room start arcs to → distance_at distances start + length arcs ≡ distance_at distances to
    → AreDifferent (zones_on graph start arcs)
rising_simple graph room from distances start to [] a way long = (λ never. never, tt)
rising_simple graph room from distances start to (arc ∷ arcs) a way long =
    let rest = distance_along graph room from distances (end_of graph arc) to arcs a way.3 in
    let rise = rises graph room from distances arc a way.0 way.2 in
    let equal = ap (distance_at distances) way.1 in
    let onward : distance_at distances (end_of graph arc) + length arcs ≡ distance_at distances to = omega (arith, long, rest, rise, equal) in (
      λ i. let far = zones_rise graph room from distances (end_of graph arc) to arcs a way.3 onward start i in omega (arith, far, long, onward),
      rising_simple graph room from distances (end_of graph arc) to arcs a way.3 onward,
    )

-- the last arc of a way, and what comes before it
record IsLast (graph : Graph) (room : Arc → ℕ) (from to : ℕ) (arcs front : List Arc) (last : Arc) : Type 0 where
  pub parts : arcs ≡ front ++ last ∷ []
  pub way : IsWay graph room from front (start_of graph last)
  pub known : HasArc graph last
  pub end : end_of graph last ≡ to
  pub has_room : 0 < room last

way_last : (graph : Graph) (room : Arc → ℕ) (from to : ℕ) (arc : Arc) (arcs : List Arc) → IsWay graph room from (arc ∷ arcs) to
    → (front : List Arc) × (last : Arc) × IsLast graph room from to (arc ∷ arcs) front last
way_last graph room from to arc [] way = ([], arc, record { parts = refl; way = sym way.1; known = way.0; end = way.3; has_room = way.2 })
way_last graph room from to arc (next ∷ arcs) way =
    let rest = way_last graph room (end_of graph arc) to next arcs way.3 in (
      arc ∷ rest.0,
      rest.1,
      record {
        parts = ap (λ l. arc ∷ l) rest.2.parts;
        way = (way.0, way.1, way.2, rest.2.way);
        known = rest.2.known;
        end = rest.2.end;
        has_room = rest.2.has_room;
      },
    )

-- ---- steps

-- a step of a zone leads to it from a nearer one
pub record IsStepFrom (graph : Graph) (room : Arc → ℕ) (distances : List (Option ℕ)) (zone : ℕ) (step : Neighbour) : Type 0 where
  pub known : HasArc graph step.arc
  pub start : start_of graph step.arc ≡ step.zone
  pub end : end_of graph step.arc ≡ zone
  pub has_room : 0 < room step.arc
  pub falls : distance_at distances zone ≡ distance_at distances step.zone + 1

-- a zone was found before another one
abbrev pub IsBefore : (zones : List ℕ) → (count zone other : ℕ) → Type 0
IsBefore zones count zone other = (i : ℕ) × (j : ℕ) × (i < j) × (j < count) × (get_or zones i 0 ≡ zone) × (get_or zones j 0 ≡ other)

-- a step is from a zone that was found before that of another one, or it is from the same zone over
-- a lesser border
abbrev pub IsEarlierStep : (zones : List ℕ) → (count : ℕ) → Neighbour → Neighbour → Type 0
IsEarlierStep zones count step other = IsBefore zones count step.zone other.zone ⊎ ((step.zone ≡ other.zone) × (step.arc.border < other.arc.border))

-- the steps of zones in the order in which they were found: each is an earlier one than those of the
-- later zones, and it is from the first of the zones from which an arc leads there
pub record AreFirstSteps (graph : Graph) (room : Arc → ℕ) (distances : List (Option ℕ)) (steps : List Neighbour) (zones : List ℕ) (count : ℕ) : Type 0 where
  pub steps_from : (zone : ℕ) → 0 < distance_at distances zone → distance_at distances zone < 128 → IsStepFrom graph room distances zone (step_at steps zone)
  pub origin : distance_at distances (get_or zones 0 0) ≡ 0
  pub later : (i : ℕ) → 0 < i → i < count → 0 < distance_at distances (get_or zones i 0)
  pub ordered : (i j : ℕ) → 0 < i → i < j → j < count → IsEarlierStep zones count (step_at steps (get_or zones i 0)) (step_at steps (get_or zones j 0))
  pub first : (arc : Arc) → HasArc graph arc → 0 < room arc → distance_at distances (end_of graph arc) < 128
      → distance_at distances (end_of graph arc) ≡ distance_at distances (start_of graph arc) + 1
      → IsBefore zones count (step_at steps (end_of graph arc)).zone (start_of graph arc) ⊎ ((step_at steps (end_of graph arc)).zone ≡ start_of graph arc)

-- ---- the routes that they tell

length_along : (steps : List Neighbour) (arcs zone : ℕ) → length (route_along steps false arcs zone) ≡ arcs
length_along steps zero zone = refl
length_along steps (suc arcs) zone =
    let rest = length_along steps arcs (step_at steps zone).zone in
    let one = length-append (route_along steps false arcs (step_at steps zone).zone) ((step_at steps zone).arc ∷ []) in
    omega (arith, rest, one)

same_long : (steps : List Neighbour) (arcs zone : ℕ) (others : List Arc) → length others ≡ arcs → length (route_along steps false arcs zone) ≡ length others
same_long steps arcs zone others long = length_along steps arcs zone ∙ sym long

module _ (graph : Graph) (room : Arc → ℕ) (from : ℕ) (distances : List (Option ℕ)) (steps : List Neighbour) (zones : List ℕ) (count : ℕ)
    (grid : IsGrid graph) (a : AreDistances graph (directed_room room false) from distances) (f : AreFirstSteps graph room distances steps zones count) where
  -- they are ways
  along_way : (arcs zone : ℕ) → distance_at distances zone ≡ arcs → arcs < 128 → IsWay graph room from (route_along steps false arcs zone) zone
  along_way zero zone here near = sym (a.alone zone here)
  along_way (suc arcs) zone here near =
      let s = f.steps_from zone (omega (arith, here)) (omega (arith, here, near)) in
      let front = along_way arcs (step_at steps zone).zone (omega (arith, here, s.falls)) (omega (arith, near)) in
      subst (IsWay graph room from (route_along steps false (suc arcs) zone)) s.end
      (way_longer graph room from (step_at steps zone).zone (route_along steps false arcs (step_at steps zone).zone) (step_at steps zone).arc front s.known s.start s.has_room)

  -- of two zones as far as one another the route to the one that was found first is less
  abbrev IsLess : (arcs zone other : ℕ) → Type 0
  IsLess arcs zone other = border_cmp (route_along steps false arcs zone) (route_along steps false arcs other) ≡ Ordering.Less

  same_length : (arcs zone other : ℕ) → length (route_along steps false arcs zone) ≡ length (route_along steps false arcs other)
  same_length arcs zone other = length_along steps arcs zone ∙ sym (length_along steps arcs other)

  earlier_less : (arcs i j : ℕ) → i < j → j < count → distance_at distances (get_or zones i 0) ≡ arcs → distance_at distances (get_or zones j 0) ≡ arcs → arcs < 128
      → IsLess arcs (get_or zones i 0) (get_or zones j 0)
  earlier_less zero i j before within here there near = let later = f.later j (omega (arith, before)) within in absurd (omega (arith, later, there))
  earlier_less (suc arcs) i j before within here there near =
      by (λ k l least most nearer nearer_too. earlier_less arcs k l least most nearer nearer_too (omega (arith, near))) (cases_lt 0 i)
    where
      IsNearer : Type 0
      IsNearer = (k l : ℕ) → k < l → l < count → distance_at distances (get_or zones k 0) ≡ arcs → distance_at distances (get_or zones l 0) ≡ arcs
          → IsLess arcs (get_or zones k 0) (get_or zones l 0)

      step : Neighbour
      step = step_at steps (get_or zones i 0)

      other : Neighbour
      other = step_at steps (get_or zones j 0)

      s : IsStepFrom graph room distances (get_or zones i 0) step
      s = f.steps_from (get_or zones i 0) (omega (arith, here)) (omega (arith, here, near))

      t : IsStepFrom graph room distances (get_or zones j 0) other
      t = f.steps_from (get_or zones j 0) (omega (arith, there)) (omega (arith, there, near))

      ordered : IsNearer → IsEarlierStep zones count step other → IsLess (suc arcs) (get_or zones i 0) (get_or zones j 0)
      ordered less_before (inl b) =
          let nearer : distance_at distances (get_or zones b.0 0) ≡ arcs = let e = ap (distance_at distances) b.4 in omega (arith, here, e, s.falls) in
          let nearer_too : distance_at distances (get_or zones b.1 0) ≡ arcs = let e = ap (distance_at distances) b.5 in omega (arith, there, e, t.falls) in
          let less = less_before b.0 b.1 b.2 b.3 nearer nearer_too in
          lesser-longer (route_along steps false arcs step.zone) (route_along steps false arcs other.zone) step.arc other.arc (same_length arcs step.zone other.zone)
          (subst (λ z. IsLess arcs step.zone z) b.5 (subst (λ z. IsLess arcs z (get_or zones b.1 0)) b.4 less))
      ordered less_before (inr e) =
          equal-longer (route_along steps false arcs step.zone) (route_along steps false arcs other.zone) step.arc other.arc (same_length arcs step.zone other.zone)
          (ap (λ z. border_cmp (route_along steps false arcs z) (route_along steps false arcs other.zone)) e.0 ∙ border_cmp-itself (route_along steps false arcs other.zone))
          ∙ sym (nat_cmp_is step.arc.border other.arc.border Ordering.Less e.1)

      by : IsNearer → (0 < i) ⊎ (i ≤ 0) → IsLess (suc arcs) (get_or zones i 0) (get_or zones j 0)
      by less_before (inl some) = ordered less_before (f.ordered i j some before within)
      by less_before (inr none) =
          let first : i ≡ 0 = omega (arith, none) in
          let origin = f.origin in
          let e = ap (λ k. distance_at distances (get_or zones k 0)) first in
          absurd (omega (arith, origin, e, here))

  -- no other way of as many arcs is less
  along_least : (arcs zone : ℕ) → distance_at distances zone ≡ arcs → arcs < 128 → (others : List Arc) → IsWay graph room from others zone → length others ≡ arcs
      → is_gt (border_cmp (route_along steps false arcs zone) others) ≡ false
  along_least zero zone here near [] way long = refl
  along_least zero zone here near (other ∷ others) way long = absurd (omega (arith, long))
  along_least (suc arcs) zone here near [] way long = absurd (omega (arith, long))
  along_least (suc arcs) zone here near (other ∷ others) way long =
      ap (λ l. is_gt (border_cmp (route_along steps false (suc arcs) zone) l)) l.2.parts
      ∙ by (along_least arcs (start_of graph last) at_start (omega (arith, near)) front l.2.way front_long) (f.first last l.2.known l.2.has_room (omega (arith, at_end, here, near)) (omega (arith, at_end, here, at_start)))
    where
      l : (front : List Arc) × (last : Arc) × IsLast graph room from zone (other ∷ others) front last
      l = way_last graph room from zone other others way

      front : List Arc
      front = l.0

      last : Arc
      last = l.1

      step : Neighbour
      step = step_at steps zone

      s : IsStepFrom graph room distances zone step
      s = f.steps_from zone (omega (arith, here)) (omega (arith, here, near))

      front_long : length front ≡ arcs
      front_long = let parts = ap length l.2.parts in let one = length-append front (last ∷ []) in omega (arith, parts, one, long)

      at_end : distance_at distances (end_of graph last) ≡ distance_at distances zone
      at_end = ap (distance_at distances) l.2.end

      at_start : distance_at distances (start_of graph last) ≡ arcs
      at_start =
          let most = distance_along graph room from distances from (start_of graph last) front a l.2.way in
          let rise = rises graph room from distances last a l.2.known l.2.has_room in
          let home = a.home in
          omega (arith, most, rise, home, at_end, here, front_long)

      -- one border joins two zones
      same_border : step.zone ≡ start_of graph last → step.arc ≡ last
      same_border same =
          let found = arc_between-every graph (start_of graph last) zone step.arc grid s.known (λ i. ((s.start ∙ same) i, s.end i)) in
          let found_too = arc_between-every graph (start_of graph last) zone last grid l.2.known (λ i. (start_of graph last, l.2.end i)) in
          let both : Some step.arc ≡ Some last = sym found ∙ found_too in
          cc

      same_zone : step.zone ≡ start_of graph last → (o : Ordering) → border_cmp (route_along steps false arcs step.zone) front ≡ o → is_gt o ≡ false
          → is_gt (border_cmp (route_along steps false (suc arcs) zone) (front ++ last ∷ [])) ≡ false
      same_zone same Ordering.Less e h =
          ap is_gt (lesser-longer (route_along steps false arcs step.zone) front step.arc last (same_long steps arcs step.zone front front_long) e)
      same_zone same Ordering.Equal e h =
          let border : step.arc.border ≡ last.border = ap (λ (x : Arc). x.border) (same_border same) in
          ap is_gt (equal-longer (route_along steps false arcs step.zone) front step.arc last (same_long steps arcs step.zone front front_long) e
          ∙ sym (nat_cmp_is step.arc.border last.border Ordering.Equal border))
      same_zone same Ordering.Greater e h = cc

      by : is_gt (border_cmp (route_along steps false arcs (start_of graph last)) front) ≡ false
          → IsBefore zones count (step_at steps (end_of graph last)).zone (start_of graph last) ⊎ ((step_at steps (end_of graph last)).zone ≡ start_of graph last)
          → is_gt (border_cmp (route_along steps false (suc arcs) zone) (front ++ last ∷ [])) ≡ false
      by least (inl b) =
          let from_zone : get_or zones b.0 0 ≡ step.zone = b.4 ∙ ap (λ z. (step_at steps z).zone) l.2.end in
          let nearer : distance_at distances (get_or zones b.0 0) ≡ arcs = let e = ap (distance_at distances) from_zone in omega (arith, here, e, s.falls) in
          let nearer_too : distance_at distances (get_or zones b.1 0) ≡ arcs = ap (distance_at distances) b.5 ∙ at_start in
          let less = earlier_less arcs b.0 b.1 b.2 b.3 nearer nearer_too (omega (arith, near)) in
          ap is_gt (lesser-longer (route_along steps false arcs step.zone) front step.arc last (same_long steps arcs step.zone front front_long)
          (lesser_upto (route_along steps false arcs step.zone) (route_along steps false arcs (start_of graph last)) front
          (subst (λ z. IsLess arcs step.zone z) b.5 (subst (λ z. IsLess arcs z (get_or zones b.1 0)) from_zone less)) least))
      by least (inr e) =
          let same : step.zone ≡ start_of graph last = ap (λ z. (step_at steps z).zone) (sym l.2.end) ∙ e in
          same_zone same (border_cmp (route_along steps false arcs step.zone) front) refl
          (ap (λ z. is_gt (border_cmp (route_along steps false arcs z) front)) same ∙ least)

  -- so they are the best routes
  along_best : (arcs zone : ℕ) → distance_at distances zone ≡ arcs → arcs < 128 → best_route graph room from zone ≡ Some (route_along steps false arcs zone)
  along_best arcs zone here near =
      let way = along_way arcs zone here near in
      let home = a.home in
      let long = length_along steps arcs zone in
      best_route-unique graph room from zone (route_along steps false arcs zone) grid.is_graph (record {
        route = record { way = way; simple = rising_simple graph room from distances from zone (route_along steps false arcs zone) a way (omega (arith, home, long, here)) };
        best = λ other r.
            let most = distance_along graph room from distances from zone other a r.way in
            then_upto (length (route_along steps false arcs zone)) (length other) _ (omega (arith, most, home, long, here))
            (λ same. along_least arcs zone here near other r.way (sym same ∙ long));
      })

pub from_fresh : (graph : Graph) (room : Arc → ℕ) (from : ℕ) (distances : List (Option ℕ)) (steps : List Neighbour) (zones : List ℕ) (count : ℕ) → IsGrid graph → HasZone graph from
    → AreDistances graph (directed_room room false) from distances → AreFirstSteps graph room distances steps zones count
    → IsFresh graph room (record { zone = from; towards = false; distances = distances; steps = steps })
from_fresh graph room from distances steps zones count grid there a f =
    fresh_by_routes graph room (record { zone = from; towards = false; distances = distances; steps = steps }) grid.is_graph there a
    (along_best graph room from distances steps zones count grid a f)
