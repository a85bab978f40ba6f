use Rattle.std.proofs.Common.{◌≡◌, ◌∙◌, ◌<◌, ℕ, subst, sym, ap}
use Rattle.cut_proof.specs.ZoneSet.{holds}
use Rattle.zone_graph.specs.Graph.{Graph, zone_count}
use Rattle.zone_graph.specs.Rooms.{room_of}
use Rattle.local_view.specs.Kept.{AreSized, Views}
use Rattle.local_view.specs.Nearness.{is_near}
use Rattle.local_view.proofs.NearViews.{near_back, others_back}
use Rattle.local_view.proofs.Parts.{inside_back, many_alike, sized_alike}
use Rattle.local_view.proofs.views.LocalViews.try_refresh_near.Goals as goal

pub invariant_of-self : goal.invariant_of-self
invariant_of-self g c =
    inside_back c.self.inside.zones c.self.inside.parts.items c.as_mut_slice-parts.result.now c.fill_near-filled.new.parts _ c.self.inside.parts.len c.self.inside.work c.fill_near-filled.new.work
    c.self.invariant c.as_mut_slice-parts.ensures.value c.as_mut_slice-parts.ensures.len
    (many_alike c.as_mut_slice-parts.result.now c.fill_near-filled.new.parts c.fill_near-filled.ensures.kept)
    (sized_alike c.self.inside.zones c.as_mut_slice-parts.result.now c.fill_near-filled.new.parts c.fill_near-filled.ensures.kept
    (subst (AreSized c.self.inside.zones) (sym c.as_mut_slice-parts.ensures.value) c.self.invariant.sized))
    c.fill_near-filled.ensures.work

pub invariant_of-self-else-is_ok : goal.invariant_of-self-else-is_ok
invariant_of-self-else-is_ok g c =
    inside_back c.self.inside.zones c.self.inside.parts.items c.as_mut_slice-parts.result.now c.fill_near-filled.new.parts _ c.self.inside.parts.len c.self.inside.work c.fill_near-filled.new.work
    c.self.invariant c.as_mut_slice-parts.ensures.value c.as_mut_slice-parts.ensures.len
    (many_alike c.as_mut_slice-parts.result.now c.fill_near-filled.new.parts c.fill_near-filled.ensures.kept)
    (sized_alike c.self.inside.zones c.as_mut_slice-parts.result.now c.fill_near-filled.new.parts c.fill_near-filled.ensures.kept
    (subst (AreSized c.self.inside.zones) (sym c.as_mut_slice-parts.ensures.value) c.self.invariant.sized))
    c.fill_near-filled.ensures.work

pub returns-then-is_ok-clause-next : goal.returns-then-is_ok-clause-next
returns-then-is_ok-clause-next g c =
    near_back c.fill_near-filled.result (g.B.Board.state c.args.board.now) c.fill_near-filled.ensures.board c.args.line.part c.args.line.side c.args.touched c.args.old_rooms.now c.args.self.now
    c.self.inside.parts.items c.as_mut_slice-parts.result.now c.fill_near-filled.new.parts _ c.self.inside.parts.len c.self.inside.zones c.near_zones-near.result c.requires.near
    (ap (λ (v : Views). v.lines) c.self.view_is) c.as_mut_slice-parts.ensures.value c.as_mut_slice-parts.ensures.len (many_alike c.as_mut_slice-parts.result.now c.fill_near-filled.new.parts c.fill_near-filled.ensures.kept)
    c.self.invariant.sized c.requires.part
    (sym (ap (λ (graph : Graph). zone_count graph) c.requires.grid) ∙ c.requires.zones ∙ sym (ap (λ (v : Views). v.zones) c.self.view_is))
    (subst (λ (graph : Graph). (zone : ℕ) → zone < zone_count graph
    → holds c.near_zones-near.result zone ≡ is_near graph (room_of c.args.old_rooms.now) c.args.line.side c.args.touched zone) c.requires.grid c.near_zones-near.ensures.near)
    c.fill_near-filled.ensures.next

pub returns-then-is_ok-clause-others : goal.returns-then-is_ok-clause-others
returns-then-is_ok-clause-others g c =
    others_back c.fill_near-filled.result c.args.line.part c.args.line.side c.args.self.now c.self.inside.parts.items c.as_mut_slice-parts.result.now c.fill_near-filled.new.parts _ c.self.inside.parts.len
    (ap (λ (v : Views). v.lines) c.self.view_is) c.as_mut_slice-parts.ensures.value c.as_mut_slice-parts.ensures.len (many_alike c.as_mut_slice-parts.result.now c.fill_near-filled.new.parts c.fill_near-filled.ensures.kept)
    c.fill_near-filled.ensures.others
