-- The zones that arcs join with a zone, one neighbour after the other.
use Rattle.std.proofs.Common.{◌≡◌, ◌∙◌, inl, inr, ℕ, ◌+◌, ◌*◌, ◌%◌, ◌^◌, ◌<◌, ◌≤◌, ◌==◌, true, false, List, get_or, length, sym, ap, subst, arith}
use Rattle.std.proofs.lemmas.Bool.{true≢false}
use Rattle.std.proofs.lemmas.Bool.Decides.{eqb_tells}
use Rattle.std.proofs.lemmas.Nat.Bits.{bit_at_set_other, bit_at_set_same}
use Rattle.std.specs.Int.{w64}
use Rattle.std.specs.Int.RustNames.{bit_or}
use Rattle.order_kinds.specs.declared.side.Side.{Side}
use Rattle.cut_proof.specs.ZoneSet.{holds}
use Rattle.cut_proof.proofs.Neighbours.{IsNeighbour, neighbour_by}
use Rattle.zone_graph.specs.declared.grid.Neighbour.{Neighbour}
use Rattle.zone_graph.specs.declared.route.Arc.{Arc}
use Rattle.zone_graph.specs.Graph.{Graph, HasArc, end_of, start_of}
use Rattle.zone_graph.specs.Grid.{neighbour_over, neighbours_of}
use Rattle.zone_graph.specs.Pour.{opposite_arc}
use Rattle.zone_graph.specs.Route.{IsIn}
use Rattle.zone_graph.proofs.Arcs.{opposite-end, opposite-start, opposite-twice}
use Rattle.zone_graph.proofs.Places.{place_of}
use Rattle.local_view.specs.Ways.{AreJoined, over}
use Rattle.local_view.proofs.Bits.{holds-or, holds-zero, or_first}

abbrev pub no_neighbour : Neighbour
no_neighbour = record { arc = record { border = 0; forward = false }; zone = 0 }

-- of the first neighbours
pub record AreSoFar (graph : Graph) (room : Arc → ℕ) (side : Side) (zone : ℕ) (neighbours : List Neighbour) (count joined : ℕ) : Type 0 where
  pub by : (other : ℕ) → holds joined other ≡ true → (arc : Arc) × HasArc graph arc × (start_of graph arc ≡ other) × (end_of graph arc ≡ zone) × (0 < room (over side arc))
  pub all : (k : ℕ) → k < count → 0 < room (over side (opposite_arc (get_or neighbours k no_neighbour).arc)) → holds joined (get_or neighbours k no_neighbour).zone ≡ true

module _ (graph : Graph) (room : Arc → ℕ) (side : Side) (zone : ℕ) (neighbours : List Neighbour) where
  pub none_joined : AreSoFar graph room side zone neighbours 0 0
  none_joined = record {
    by = λ other e. absurd (true≢false (sym e ∙ holds-zero other));
    all = λ k less some. absurd (omega (arith, less));
  }

  pub one_joined : (count joined : ℕ) → IsNeighbour graph zone (get_or neighbours count no_neighbour) → (get_or neighbours count no_neighbour).zone < 64
      → 0 < room (over side (opposite_arc (get_or neighbours count no_neighbour).arc)) → AreSoFar graph room side zone neighbours count joined
      → AreSoFar graph room side zone neighbours (count + 1) (bit_or joined (1 * 2 ^ (get_or neighbours count no_neighbour).zone % 2 ^ 64))
  one_joined count joined own within some are =
      let to = (get_or neighbours count no_neighbour).zone in
      let arc = (get_or neighbours count no_neighbour).arc in
      let set = 1 * 2 ^ to % 2 ^ 64 in
      record {
        by = λ other e. elim (eqb_tells other to) [
          | inl same ↦ (opposite_arc arc, own.known, opposite-start graph arc ∙ own.end ∙ sym same.1, opposite-end graph arc ∙ own.start, some)
          | inr apart ↦ are.by other (sym (ap (λ n. n == 1) (bit_at_set_other w64 joined to within other apart.1)) ∙ e)
        ];
        all = λ k less room_there. elim (eqb_tells k count) [
          | inl same ↦
              ap (λ j. holds (bit_or joined set) (get_or neighbours j no_neighbour).zone) same.1
              ∙ ap (λ n. n == 1) (bit_at_set_same w64 joined to within)
          | inr other ↦
              holds-or joined set (get_or neighbours k no_neighbour).zone
              ∙ or_first (holds joined (get_or neighbours k no_neighbour).zone) (holds set (get_or neighbours k no_neighbour).zone) (are.all k (let apart = other.1 in omega (arith, less, apart)) room_there)
        ];
      }

  pub not_joined : (count joined : ℕ) → room (over side (opposite_arc (get_or neighbours count no_neighbour).arc)) ≤ 0 → AreSoFar graph room side zone neighbours count joined
      → AreSoFar graph room side zone neighbours (count + 1) joined
  not_joined count joined none are = record {
    by = are.by;
    all = λ k less some. elim (eqb_tells k count) [
      | inl same ↦ absurd (let there : 0 < room (over side (opposite_arc (get_or neighbours count no_neighbour).arc)) =
          subst (λ j. 0 < room (over side (opposite_arc (get_or neighbours j no_neighbour).arc))) same.1 some in omega (arith, there, none))
      | inr other ↦ are.all k (let apart = other.1 in omega (arith, less, apart)) some
    ];
  }

  pub all_joined : (count joined : ℕ) → neighbours ≡ neighbours_of graph zone → length neighbours ≤ count → AreSoFar graph room side zone neighbours count joined → AreJoined graph room side zone joined
  all_joined count joined all full are = record {
    by = are.by;
    all = λ arc known end some.
        let found = place_of (neighbour_over graph (opposite_arc arc)) neighbours no_neighbour
        (subst (IsIn (neighbour_over graph (opposite_arc arc))) (sym all) (neighbour_by graph zone (opposite_arc arc) known (opposite-start graph arc ∙ end))) in
        let is = found.2 in
        ap (holds joined) (sym (ap (λ (n : Neighbour). n.zone) is ∙ opposite-end graph arc))
        ∙ are.all found.0 (let there = found.1 in omega (arith, there, full))
        (subst (λ a. 0 < room (over side a)) (sym (ap (λ (n : Neighbour). opposite_arc n.arc) is ∙ opposite-twice arc)) some);
  }
