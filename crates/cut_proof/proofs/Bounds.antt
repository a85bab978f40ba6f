-- The room of the arcs between a set of zones and the others, border by border.
use Rattle.std.proofs.Common.{◌≡◌, ◌∙◌, ◌+◌, ◌<◌, ◌&&◌, ℕ, suc, Bool, true, false, not, List, [], ◌∷◌, ◌++◌, flat_map, sum_by, refl, sym, ap, arith}
use Rattle.std.proofs.Math.Bool.{beq}
use Rattle.std.proofs.lemmas.Bool.{true≢false}
use Rattle.std.proofs.lemmas.Grind.{flat_map-append}
use Rattle.std.proofs.lemmas.List.Sums.{sum_by-append, sum_by-cons}
use Rattle.std.specs.List.{range_with_len}
use Rattle.zone_graph.specs.declared.route.Arc.{Arc}
use Rattle.zone_graph.specs.Graph.{Graph, arc_ends, ends_of, arcs_of, arcs_over, border_count}
use Rattle.zone_graph.specs.Grid.{IsGrid}
use Rattle.zone_graph.specs.Pour.{lots_if}
use Rattle.zone_graph.specs.Reach.{enters, leaves}
use Rattle.zone_graph.specs.Route.{has}
use Rattle.zone_graph.proofs.Arcs.{over}
use Rattle.cut_proof.specs.Cut.{crossing_room}
use Rattle.cut_proof.specs.ZoneSet.{HoldsZones, holds}
use Rattle.cut_proof.proofs.ArcSums.{range_more, sum_passing}

-- an arc leads into a set of zones, or out of it, by which of its ends are inside
abbrev pub crosses_by : (towards start end : Bool) → Bool
crosses_by true start end = not start && end
crosses_by false start end = start && not end

abbrev pub crosses : Graph → List ℕ → (towards : Bool) → Arc → Bool
crosses graph zones towards arc = crosses_by towards (has (arc_ends graph arc).0 zones) (has (arc_ends graph arc).1 zones)

-- the room of an arc that crosses
abbrev pub room_across : Graph → (Arc → ℕ) → List ℕ → (towards : Bool) → Arc → ℕ
room_across graph room zones towards arc = lots_if (crosses graph zones towards arc) (room arc)

-- the room over the first borders
abbrev pub room_over : Graph → (Arc → ℕ) → List ℕ → (towards : Bool) → (borders : ℕ) → ℕ
room_over graph room zones towards borders = sum_by (room_across graph room zones towards) (flat_map arcs_over (range_with_len 0 borders))

pub room_over_all : (graph : Graph) (room : Arc → ℕ) (zones : List ℕ) (towards : Bool)
    → room_over graph room zones towards (border_count graph) ≡ crossing_room graph room zones towards
room_over_all graph room zones true = sym (sum_passing (enters graph zones) room (arcs_of graph))
room_over_all graph room zones false = sym (sum_passing (leaves graph zones) room (arcs_of graph))

-- one border more
pub room_over_more : (graph : Graph) (room : Arc → ℕ) (zones : List ℕ) (towards : Bool) (border : ℕ)
    → room_over graph room zones towards (border + 1)
    ≡ room_over graph room zones towards border + room_across graph room zones towards (over border true) + room_across graph room zones towards (over border false)
room_over_more graph room zones towards border =
    let f = room_across graph room zones towards in
    let lists : flat_map arcs_over (range_with_len 0 (border + 1)) ≡ flat_map arcs_over (range_with_len 0 border) ++ over border true ∷ over border false ∷ [] =
    ap (λ n. flat_map arcs_over (range_with_len 0 n)) add_one ∙ ap (flat_map arcs_over) (range_more 0 border)
    ∙ ap (λ n. flat_map arcs_over (range_with_len 0 border ++ n ∷ [])) zero_more
    ∙ flat_map-append arcs_over (range_with_len 0 border) (border ∷ []) in
    omega (
      arith,
      ap (sum_by f) lists,
      sum_by-append f (flat_map arcs_over (range_with_len 0 border)) (over border true ∷ over border false ∷ []),
      sum_by-cons f (over border true) (over border false ∷ []),
      sum_by-cons f (over border false) [],
    )
  where
    add_one : border + 1 ≡ suc border
    add_one = omega arith

    zero_more : 0 + border ≡ border
    zero_more = omega arith

-- where both ends of a border are inside, or neither is, no arc over it crosses
inner_arcs : (towards first second : Bool) (f g : ℕ) → not (beq first second) ≡ false
    → lots_if (crosses_by towards first second) f + lots_if (crosses_by towards second first) g ≡ 0
inner_arcs true true true f g same = refl
inner_arcs true false false f g same = refl
inner_arcs false true true f g same = refl
inner_arcs false false false f g same = refl
inner_arcs towards true false f g same = absurd (true≢false same)
inner_arcs towards false true f g same = absurd (true≢false same)

-- where one end is inside, the arc that ends there leads in, and the other out
crossing_arcs : (towards first second : Bool) (room : Bool → ℕ) → not (beq first second) ≡ true
    → lots_if (crosses_by towards first second) (room true) + lots_if (crosses_by towards second first) (room false) ≡ room (beq second towards)
crossing_arcs towards true true room apart = absurd (true≢false (sym apart))
crossing_arcs towards false false room apart = absurd (true≢false (sym apart))
crossing_arcs true true false room apart = omega arith
crossing_arcs true false true room apart = omega arith
crossing_arcs false true false room apart = omega arith
crossing_arcs false false true room apart = omega arith

-- the ends of a border, inside or not
pub record AreEnds (graph : Graph) (zones : List ℕ) (border : ℕ) (first second : Bool) : Type 0 where
  pub first_is : first ≡ has (ends_of graph border).0 zones
  pub second_is : second ≡ has (ends_of graph border).1 zones

differ : (graph : Graph) (zones : List ℕ) (border : ℕ) (first second : Bool) → AreEnds graph zones border first second
    → not (beq (has (ends_of graph border).0 zones) (has (ends_of graph border).1 zones)) ≡ not (beq first second)
differ graph zones border first second ends =
    ap (λ b. not (beq b (has (ends_of graph border).1 zones))) (sym ends.first_is) ∙ ap (λ b. not (beq first b)) (sym ends.second_is)

-- where both ends of a border are inside, or neither is, it adds no room
pub room_over_inner : (graph : Graph) (room : Arc → ℕ) (zones : List ℕ) (towards : Bool) (border : ℕ) (first second : Bool)
    → AreEnds graph zones border first second → not (beq first second) ≡ false
    → room_over graph room zones towards (border + 1) ≡ room_over graph room zones towards border
room_over_inner graph room zones towards border first second ends same =
    omega (
      arith,
      room_over_more graph room zones towards border,
      inner_arcs towards (has (ends_of graph border).0 zones) (has (ends_of graph border).1 zones) (room (over border true)) (room (over border false))
          (differ graph zones border first second ends ∙ same),
    )

-- else it adds that of one of its arcs
pub room_over_crossing : (graph : Graph) (room : Arc → ℕ) (zones : List ℕ) (towards : Bool) (border : ℕ) (first second : Bool)
    → AreEnds graph zones border first second → not (beq first second) ≡ true
    → room_over graph room zones towards (border + 1) ≡ room_over graph room zones towards border + room (over border (beq second towards))
room_over_crossing graph room zones towards border first second ends apart =
    let arc = ap (λ b. room (over border (beq b towards))) ends.second_is in
    omega (
      arith,
      room_over_more graph room zones towards border,
      arc,
      crossing_arcs towards (has (ends_of graph border).0 zones) (has (ends_of graph border).1 zones) (λ forward. room (over border forward))
          (differ graph zones border first second ends ∙ apart),
    )

-- whether the ends of a border of a grid are inside, as the bits of the zones say
pub ends_held : (graph : Graph) (zones : List ℕ) (bits border first second : ℕ) (a b : Bool) → IsGrid graph → border < border_count graph → HoldsZones bits zones
    → (first ≡ (ends_of graph border).0) → (second ≡ (ends_of graph border).1) → a ≡ holds bits first → b ≡ holds bits second
    → AreEnds graph zones border a b
ends_held graph zones bits border first second a b grid known held p q e f = record {
  first_is = e ∙ ap (holds bits) p ∙ held (ends_of graph border).0 (omega (arith, grid.few_zones, (grid.is_graph.within border known).0));
  second_is = f ∙ ap (holds bits) q ∙ held (ends_of graph border).1 (omega (arith, grid.few_zones, (grid.is_graph.within border known).1));
}
