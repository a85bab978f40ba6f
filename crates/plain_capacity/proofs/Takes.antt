-- What lots that are taken of one arc do to the flows over all arcs.
use Rattle.std.proofs.Common.{◌≡◌, ◌∙◌, ◌<◌, ◌==◌, ◌&&◌, not, ℕ, ◌+ℤ◌, ℤ, Bool, true, false, List, length, get_or, if◌then◌else◌, refl, sym, ap, subst, arith, eqb-true, get_or-set_same, get_or-set_other, slice_set}
use Rattle.std.proofs.lemmas.Bool.{eqb-false}
use Rattle.std.proofs.lemmas.Int.{ints}
use Rattle.quarter_capacity.specs.Capacity.{flow_of}
use Rattle.quarter_capacity.specs.Row.{Row, flow, nothing_offered, with_taken}
use Rattle.zone_graph.specs.declared.route.Arc.{Arc}
use Rattle.zone_graph.specs.Pour.{lots_if, opposite_arc, same_arc, same_bool}
use Rattle.zone_graph.proofs.Places.{at_any}
use Rattle.plain_capacity.specs.Rows.{flow_at}

-- the rows with one of them put in place
row-set : (rows : List Row) (i j : ℕ) (row : Row) → i < length rows
    → get_or (slice_set rows i row) j nothing_offered ≡ (if i == j then row else get_or rows j nothing_offered)
row-set rows i j row within = by (i == j) refl
  where
    by : (b : Bool) → (i == j) ≡ b → get_or (slice_set rows i row) j nothing_offered ≡ (if b then row else get_or rows j nothing_offered)
    by true e = subst (λ k. get_or (slice_set rows i row) k nothing_offered ≡ row) (eqb-true i j e) (get_or-set_same rows i row nothing_offered within)
    by false e = get_or-set_other rows i j row nothing_offered (λ same. eqb-false i j e (sym same))

no_change : (z : ℤ) → z ≡ z +ℤ flow_of 0 0
no_change z = omega (arith, ints)

taken-flow : (row : Row) (forward direction : Bool) (lots : ℕ)
    → flow (with_taken row forward lots) direction ≡ flow row direction +ℤ flow_of (lots_if (same_bool forward direction) lots) (lots_if (same_bool forward (not direction)) lots)
taken-flow row true true lots = omega (arith, ints)
taken-flow row true false lots = omega (arith, ints)
taken-flow row false true lots = omega (arith, ints)
taken-flow row false false lots = omega (arith, ints)

-- what is taken on an arc moves the flow over it and over the opposite one, and over no other
pub flow_at-taken : (rows : List Row) (arc other : Arc) (d row : Row) (lots : ℕ) → arc.border < length rows
    → row ≡ with_taken (get_or rows arc.border d) arc.forward lots
    → flow_at (slice_set rows arc.border row) other ≡ flow_at rows other +ℤ flow_of (lots_if (same_arc arc other) lots) (lots_if (same_arc arc (opposite_arc other)) lots)
flow_at-taken rows arc other d row lots within taken =
    ap (λ r. flow r other.forward) (row-set rows arc.border other.border row within) ∙ by (arc.border == other.border) refl
  where
    by : (b : Bool) → (arc.border == other.border) ≡ b
        → flow (if b then row else get_or rows other.border nothing_offered) other.forward
        ≡ flow_at rows other +ℤ flow_of (lots_if (b && same_bool arc.forward other.forward) lots) (lots_if (b && same_bool arc.forward (not other.forward)) lots)
    by true e =
        let there : get_or rows arc.border d ≡ get_or rows other.border nothing_offered =
        at_any rows arc.border d nothing_offered within ∙ ap (λ k. get_or rows k nothing_offered) (eqb-true arc.border other.border e) in
        ap (λ r. flow r other.forward) (taken ∙ ap (λ r. with_taken r arc.forward lots) there)
        ∙ taken-flow (get_or rows other.border nothing_offered) arc.forward other.forward lots
    by false e = no_change (flow_at rows other)
