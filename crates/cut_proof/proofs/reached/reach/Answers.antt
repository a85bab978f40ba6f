use Rattle.std.proofs.Common.{◌≡◌, ◌∙◌, List, ℕ, All, ap, arith, filter, subst, sym}
use Rattle.std.specs.List.{range_with_len}
use Rattle.zone_graph.specs.Graph.{HasZone, zone_count}
use Rattle.zone_graph.specs.Rooms.{room_of}
use Rattle.cut_proof.proofs.Reaching.{distances_tell, has_distance, passing_within, zone_fails, zone_passes}
use Rattle.cut_proof.proofs.reached.reach.Goals as goal
use Rattle.cut_proof.proofs.reached.reach.Goals.{then-is_some+in_ok-push, else-is_some}

pub loop-other-preserved : goal.loop-other-preserved
loop-other-preserved c =
    let p = has_distance c.distances-found.result in
    elim c.if-is_some.branch [
      | then-is_some+in_ok-push w ↦
          ap (λ zones. zones.items) w.zones-is ∙ w.in_ok-push.ensures.items
          ∙ zone_passes p c.loop-other.other c.loop-other.zones.items c.loop-other.invariant (sym c.is_some.ensures ∙ w.if-is_some.true)
      | else-is_some w ↦
          ap (λ zones. zones.items) w.zones-is
          ∙ zone_fails p c.loop-other.other c.loop-other.zones.items c.loop-other.invariant (sym c.is_some.ensures ∙ w.if-is_some.false)
    ]

-- the zones that are found, by the test of distances
found : (c : goal.After-from) → c.from.result ≡ filter (has_distance c.distances-found.result) (range_with_len 0 (zone_count c.args.grid.now))
found c =
    let all = c.loop-other-test.false in
    let last : c.loop-other.other ≡ zone_count c.args.grid.now = omega (arith, all, c.loop-other.auto.other-end, c.zones-count.ensures.count) in
    c.from.ensures ∙ c.loop-other.invariant ∙ ap (λ n. filter (has_distance c.distances-found.result) (range_with_len 0 n)) last

pub returns-clause-zones : goal.returns-clause-zones
returns-clause-zones c =
    found c ∙ distances_tell c.args.grid.now (room_of c.args.rooms.now) c.args.zone c.args.towards c.distances-found.result
    c.zones-count.ensures.grid.is_graph c.distances-found.ensures

pub returns-clause-within : goal.returns-clause-within
returns-clause-within c =
    subst (λ (zones : List ℕ). All (HasZone c.args.grid.now) zones) (sym (found c)) (passing_within c.args.grid.now (has_distance c.distances-found.result))
