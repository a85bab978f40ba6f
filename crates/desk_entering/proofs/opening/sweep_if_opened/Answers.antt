use Rattle.std.proofs.Common.{◌∙◌, ◌-◌, drop, length, sym, ap, subst}
use Rattle.zone_graph.specs.Graph.{border_count}
use Rattle.desk_entering.specs.Opening.{AreWithin}
use Rattle.desk_entering.proofs.Within.{board-within, within-behind, within-front}
use Rattle.desk_entering.proofs.opening.sweep_if_opened.Goals as goal

pub any_opens-requires : goal.any_opens-requires
any_opens-requires c =
    let borders = length c.args.rooms.now in
    let events = c.events.result.now in
    let settled = c.settled_len-settled.result in
    let all : AreWithin borders events = subst (AreWithin borders) (sym c.events.ensures.events)
    (board-within c.args.hour.now.board c.events.ensures.board borders (c.requires.size ∙ ap border_count c.requires.grid)) in
    within-front borders (length events - settled) (drop settled events) (within-behind borders settled events all)
