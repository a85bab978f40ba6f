use Rattle.std.proofs.Common.{◌∙◌, None, ap, replicate}
use Rattle.local_view.specs.Kept.{empty_part}
use Rattle.desk_views.specs.Desk.{DeskState}
use Rattle.desk_views.proofs.Beginning.{begins}
use Rattle.desk_views.proofs.desk.DeskViews.new.Goals as goal

pub returns-clause-stand : goal.returns-clause-stand
returns-clause-stand c =
    let desk : DeskState = record { views = c.in_ok-new.field-0; rooms = c.in_ok-rooms.rooms.items; next = None } in
    begins c.args.grid.now c.zones.ensures.grid.is_graph desk
    (c.in_ok-new.ensures ∙ ap (λ zones. record { zones = zones; lines = replicate 7 (empty_part zones); made = 0 }) c.zones.ensures.count)
    c.in_ok-rooms.ensures.each
