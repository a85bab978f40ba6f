use Rattle.std.proofs.Common.{◌∙◌, sym, ap, subst}
use Rattle.laws_of_joint_commands.specs.PeriodRooms.{hour_room}
use Rattle.kept_hour.specs.State.{HourState}
use Rattle.desk_changes.specs.Quiet.{HasNoLeg}
use Rattle.desk_changes.specs.LegOpenings.{AreOver, may_open}
use Rattle.desk_changes.proofs.Hours.{legs-over}
use Rattle.desk_changes.proofs.LegsOpened.{deal-quiet}
use Rattle.desk_changes.proofs.dealing.make_deal.Goals as goal

pub may_open-opened-requires : goal.may_open-opened-requires
may_open-opened-requires c =
    subst (AreOver c.args.hour.now.board.grid) (sym c.as_slice.ensures)
    (legs-over c.args.hour.now.board.grid c.args.hour.now.board.hour c.args.hour.now.board.events c.args.first c.args.last c.args.deal.now c.requires.next)

pub deal-requires-clause-whole : goal.deal-requires-clause-whole
deal-requires-clause-whole c = λ here. let closed = c.requires.whole here in record { taker = closed.taker; maker = closed.maker }

pub returns-clause-quiet : goal.returns-clause-quiet
returns-clause-quiet c = λ none quiet.
    let board = c.args.hour.now.board in
    subst (λ (h : HourState). HasNoLeg h.board.grid h.board.hour h.board.events) (sym c.in_ok-deal.ensures.made)
    (deal-quiet board.hour board.events board.grid c.args.first c.args.last c.args.deal.now c.requires.next
    (ap (may_open (hour_room board.events board.hour)) (sym c.as_slice.ensures) ∙ sym c.may_open-opened.ensures ∙ none) quiet)
