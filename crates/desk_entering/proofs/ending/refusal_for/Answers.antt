use Rattle.std.proofs.Common.{◌∙◌, ◌<◌, sym, ap, arith}
use Rattle.market_model.specs.declared.refusal.Refusal.TheVariants as refusal
use Rattle.desk_entering.specs.Entries.{refusal_for}
use Rattle.desk_entering.proofs.Certified.{bound-found, part-in-book}
use Rattle.desk_entering.proofs.Entry.{enters_here}
use Rattle.desk_entering.proofs.Fresh.{part-low}
use Rattle.desk_entering.proofs.ending.refusal_for.Goals as goal

pub bound-bound-requires-clause-part : goal.bound-bound-requires-clause-part
bound-bound-requires-clause-part c =
    let hour = c.args.hour.now in
    let order = c.args.order.now in
    let low = part-low order.contract.part (enters_here hour.board.grid hour.board.hour hour.settled c.requires.enters.0 order c.requires.enters.1).in_part in
    let same = c.requires.part in
    let less : c.args.part < 7 = omega (arith, low, same) in
    part-in-book hour c.args.part c.book.result.now c.requires.unplanned less c.book.ensures

pub returns-in-Unfilled : goal.returns-in-Unfilled
returns-in-Unfilled c = λ caller can.
    let hour = c.args.hour.now in
    let order = c.args.order.now in
    let known = (enters_here hour.board.grid hour.board.hour hour.settled caller order can).in_part in
    let zones = c.in-Unfilled.zones in
    ap (refusal.Unfilled zones) (bound-found hour order c.requires.unplanned can.in_hour known c.args.part c.requires.part c.args.rooms.now c.requires.rooms
    caller can c.args.grid.now c.requires.grid c.book.result.now c.book.ensures zones c.bound-bound.result c.bound-bound.ensures)
    ∙ ap (refusal_for hour.board.grid hour.settled caller order) (sym c.in-Unfilled.is)
