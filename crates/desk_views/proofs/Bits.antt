-- The zones that are touched, as bits.
use Rattle.std.proofs.Common.{◌≡◌, ◌∙◌, ℕ, ◌&&◌, ◌||◌, Bool, true, false, List, [], ◌∷◌, filter, length, refl, ap, arith}
use Rattle.std.specs.Int.RustNames.{bit_or}
use Rattle.std.specs.List.{range_with_len}
use Rattle.order_kinds.specs.declared.side.Side.{Side}
use Rattle.cut_proof.specs.ZoneSet.{holds}
use Rattle.zone_graph.specs.declared.route.Arc.{Arc}
use Rattle.zone_graph.specs.Graph.{Graph, HasZone, zone_count}
use Rattle.zone_graph.specs.Route.{IsIn}
use Rattle.zone_graph.proofs.Again.{or-true}
use Rattle.zone_graph.proofs.Membership.{IsIn-filter, IsIn-range, from_filter, from_range}
use Rattle.laws_of_views.specs.Changes.{AreAmong}
use Rattle.kept_hour.specs.Changed.{HasTouched}
use Rattle.contract_book.proofs.BookShapes.{any-no}
use Rattle.local_view.specs.Nearness.{is_joined, is_near, near_count, zones_touched}
use Rattle.local_view.proofs.Bits.{holds-or, holds-zero}

pub in_touched : (graph : Graph) (bits zone : ℕ) → HasZone graph zone → holds bits zone ≡ true → IsIn zone (zones_touched graph bits)
in_touched graph bits zone known is = IsIn-filter (holds bits) zone (range_with_len 0 (zone_count graph)) (IsIn-range zone 0 (zone_count graph) (omega arith) (omega (arith, known))) is

pub from_touched : (graph : Graph) (bits zone : ℕ) → IsIn zone (zones_touched graph bits) → HasZone graph zone × (holds bits zone ≡ true)
from_touched graph bits zone i =
    let found = from_filter (holds bits) zone (range_with_len 0 (zone_count graph)) i in
    let within = (from_range zone 0 (zone_count graph) found.0).1 in
    (omega (arith, within), found.1)

-- zones with a bit in one have one in both together
pub has-first : (graph : Graph) (a b : ℕ) → HasTouched graph a (zones_touched graph (bit_or a b))
has-first graph a b zone known is = in_touched graph (bit_or a b) zone known (holds-or a b zone ∙ ap (λ h. h || holds b zone) is)

pub among-second : (graph : Graph) (a b : ℕ) → AreAmong (zones_touched graph b) (zones_touched graph (bit_or a b))
among-second graph a b zone i =
    let from = from_touched graph b zone i in
    in_touched graph (bit_or a b) zone from.0 (holds-or a b zone ∙ ap (λ h. holds a zone || h) from.1 ∙ or-true (holds a zone))

none_pass : {X : Type 0} (p : X → Bool) (xs : List X) → ((x : X) → p x ≡ false) → filter p xs ≡ []
none_pass p [] none = refl
none_pass p (x ∷ xs) none = rw (none x) (none_pass p xs none)

-- no bit is no zone, and no zone is near
pub none_touched : (graph : Graph) → zones_touched graph 0 ≡ []
none_touched graph = none_pass (holds 0) (range_with_len 0 (zone_count graph)) holds-zero

pub none_near : (graph : Graph) (room : Arc → ℕ) (side : Side) → near_count graph room side 0 ≡ 0
none_near graph room side =
    ap length (none_pass (is_near graph room side 0) (range_with_len 0 (zone_count graph))
    (λ zone. any-no (λ other. holds 0 other && is_joined graph room side zone other) (range_with_len 0 (zone_count graph))
    (λ other i. ap (λ b. b && is_joined graph room side zone other) (holds-zero other))))
