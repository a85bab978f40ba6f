-- Cuts that a flow certifies.
use Rattle.std.proofs.Common.{◌≡◌, ◌≢◌, ◌∙◌, ℕ, suc, ◌+◌, ◌<◌, ◌==◌, ◌^◌, ◌++◌, true, false, List, [], ◌∷◌, flat_map, get_or, length, replicate, sum_by, refl, ap, arith}
use Rattle.std.proofs.lemmas.List.{get_or-replicate}
use Rattle.std.proofs.lemmas.List.Concat.{flat_map-append}
use Rattle.std.proofs.lemmas.List.Sums.{sum_by-append, sum_by-cons}
use Rattle.std.specs.List.{range_with_len}
use Rattle.order_kinds.specs.declared.side.Side.{Side}
use Rattle.order_kinds.specs.declared.side.Side.TheVariants.{Buy, Sell}
use Rattle.cut_proof.proofs.ArcSums.{range_more, sum_passing}
use Rattle.zone_graph.specs.declared.route.Arc.{Arc}
use Rattle.zone_graph.specs.Graph.{Graph, HasArc, HasZone, arcs_of, arcs_over, border_count, end_of, start_of}
use Rattle.zone_graph.specs.Grid.{IsGrid}
use Rattle.zone_graph.specs.Pour.{lots_if, opposite_arc}
use Rattle.zone_graph.specs.Rooms.{room_of}
use Rattle.zone_graph.proofs.GridLemmas.{start_within}
use Rattle.zone_graph.proofs.Routes.{end_within}
use Rattle.market_model.specs.Orders.{Standing}
use Rattle.local_view.specs.declared.balance.Balance.{Balance}
use Rattle.local_view.specs.declared.cuts.Cuts.{Cuts}
use Rattle.local_view.specs.Balances.{HasPassed, net_of, over_border}
use Rattle.local_view.specs.Certified.{IsCertified, lots_from, lots_to}
use Rattle.local_view.specs.Cuts.{AreAlong, AreClosedOver, cut_by, flow_beside, given_by}
use Rattle.local_view.specs.Drafts.{AreKept}
use Rattle.local_view.specs.Moved.{cut_in}
use Rattle.local_view.specs.Ways.{PassesOn}
use Rattle.local_view.specs.Whole.{shown_in}
use Rattle.local_view.proofs.Cutting.{all_give}

-- ---- one border after the other

-- what of a flow passes a zone over the first borders, where each arc leads from a zone, or to one
abbrev pub passed_over : (Arc → ℕ) → (Arc → ℕ) → (count zone : ℕ) → ℕ
passed_over end flow count zone = sum_by (λ (arc : Arc). lots_if (end arc == zone) (flow arc)) (flat_map arcs_over (range_with_len 0 count))

-- and over one more
pub passed-more : (end flow : Arc → ℕ) (count zone : ℕ) → passed_over end flow (count + 1) zone ≡ passed_over end flow count zone + over_border end flow zone count
passed-more end flow count zone =
    let f : Arc → ℕ = λ arc. lots_if (end arc == zone) (flow arc) in
    let forward : Arc = record { border = count; forward = true } in
    let backward : Arc = record { border = count; forward = false } in
    ap (λ borders. sum_by f (flat_map arcs_over borders))
    (ap (range_with_len 0) (let next : count + 1 ≡ suc count = omega arith in next) ∙ range_more 0 count
    ∙ ap (λ k. range_with_len 0 count ++ k ∷ []) (let plain : 0 + count ≡ count = omega arith in plain))
    ∙ ap (sum_by f) (flat_map-append arcs_over (range_with_len 0 count) (count ∷ []))
    ∙ sum_by-append f (flat_map arcs_over (range_with_len 0 count)) (flat_map arcs_over (count ∷ []))
    ∙ ap (λ n. passed_over end flow count zone + n) (omega (arith, sum_by-cons f forward (backward ∷ []), sum_by-cons f backward []))

-- the balance of the first borders
abbrev pub IsBalanced : Graph → Side → (flow : Arc → ℕ) → (count : ℕ) → Balance → Type 0
IsBalanced graph side flow count balance = (zone : ℕ) → zone < 64
    → net_of balance zone + passed_over (lots_to graph side) flow count zone ≡ 2 ^ 41 + passed_over (lots_from graph side) flow count zone

pub balanced-more : (graph : Graph) (side : Side) (flow : Arc → ℕ) (count : ℕ) (old new : Balance) → IsBalanced graph side flow count old → HasPassed graph side flow count old new
    → IsBalanced graph side flow (count + 1) new
balanced-more graph side flow count old new was passed = λ zone small.
    omega (arith, passed zone small, was zone small, passed-more (lots_from graph side) flow count zone, passed-more (lots_to graph side) flow count zone)

-- of all borders it says what each zone passes on
pub passes : (graph : Graph) (side : Side) (flow : Arc → ℕ) (balance : Balance) → IsBalanced graph side flow (border_count graph) balance
    → (zone lots : ℕ) → zone < 64 → net_of balance zone ≡ 2 ^ 41 + lots → PassesOn graph side flow zone lots
passes graph Sell flow balance is zone lots small gives =
    let sent = sum_passing (λ (arc : Arc). start_of graph arc == zone) flow (arcs_of graph) in
    let taken = sum_passing (λ (arc : Arc). end_of graph arc == zone) flow (arcs_of graph) in
    omega (arith, gives, is zone small, sent, taken)
passes graph Buy flow balance is zone lots small gives =
    let sent = sum_passing (λ (arc : Arc). start_of graph arc == zone) flow (arcs_of graph) in
    let taken = sum_passing (λ (arc : Arc). end_of graph arc == zone) flow (arcs_of graph) in
    omega (arith, gives, is zone small, sent, taken)

-- ---- cuts along a line

-- an arc with room to spare has room left
has_left : (rooms left : List (ℕ × ℕ)) → AreKept rooms left → (arc : Arc) → flow_beside rooms left arc < room_of rooms arc + flow_beside rooms left (opposite_arc arc) → 0 < room_of left arc
has_left rooms left kept arc spare = omega (arith, kept arc, spare)

-- cuts along a line are certified, where over each border they are closed and each zone but one passes on what it gives
pub certified : (graph : Graph) (rooms left : List (ℕ × ℕ)) → AreKept rooms left → IsGrid graph → (side : Side) (zone : ℕ) (line : List Standing) (cuts : Cuts)
    → ((border : ℕ) → border < border_count graph → AreClosedOver graph (room_of left) side (cut_by cuts) border)
    → ((other : ℕ) → HasZone graph other → other ≢ zone → PassesOn graph side (flow_beside rooms left) other (given_by cuts other))
    → length line ≡ cut_by cuts zone → AreAlong line cuts
    → IsCertified graph (room_of rooms) side zone line (flow_beside rooms left) (given_by cuts) (cut_by cuts)
certified graph rooms left kept grid side zone line cuts closed balanced own along = record {
  within = λ arc known. omega (arith, kept arc);
  balanced = balanced;
  before = λ other there. along.before other (omega (arith, there, grid.few_zones));
  behind = λ other there. along.behind other (omega (arith, there, grid.few_zones));
  own = omega (arith, own);
  closed = λ arc known spare. closed arc.border known arc refl (has_left rooms left kept arc spare);
}

-- so is a whole line, of which each zone gives all that it shows and has no cut before its end
pub whole_certified : (graph : Graph) (rooms left : List (ℕ × ℕ)) → AreKept rooms left → IsGrid graph → (side : Side) (zone : ℕ) → zone < 64 → (line : List Standing) (shown cuts : List ℕ)
    → ((other : ℕ) → other < 64 → get_or shown other 0 ≡ shown_in line other)
    → ((other : ℕ) → HasZone graph other → other ≢ zone → PassesOn graph side (flow_beside rooms left) other (get_or shown other 0))
    → cuts ≡ replicate 64 (length line)
    → IsCertified graph (room_of rooms) side zone line (flow_beside rooms left) (λ other. get_or shown other 0) (cut_in cuts)
whole_certified graph rooms left kept grid side zone small line shown cuts are balanced none = record {
  within = λ arc known. omega (arith, kept arc);
  balanced = balanced;
  before = λ other there. along.before other (omega (arith, there, grid.few_zones));
  behind = λ other there. along.behind other (omega (arith, there, grid.few_zones));
  own = omega (arith, at_end zone small);
  closed = λ arc known spare. omega (arith, at_end (lots_to graph side arc) (small_to side arc known), at_end (lots_from graph side arc) (small_from side arc known));
}
  where
    along : AreAlong line (record { given = shown; places = cuts })
    along = all_give line (record { given = shown; places = cuts }) (length line) are none refl

    at_end : (other : ℕ) → other < 64 → cut_in cuts other ≡ length line
    at_end other less = ap (λ list. cut_in list other) none ∙ get_or-replicate 64 other (length line) 0 less

    small_to : (s : Side) (arc : Arc) → HasArc graph arc → lots_to graph s arc < 64
    small_to Sell arc known = omega (arith, end_within graph arc grid.is_graph known, grid.few_zones)
    small_to Buy arc known = omega (arith, start_within graph arc grid.is_graph known, grid.few_zones)

    small_from : (s : Side) (arc : Arc) → HasArc graph arc → lots_from graph s arc < 64
    small_from Sell arc known = omega (arith, start_within graph arc grid.is_graph known, grid.few_zones)
    small_from Buy arc known = omega (arith, end_within graph arc grid.is_graph known, grid.few_zones)
