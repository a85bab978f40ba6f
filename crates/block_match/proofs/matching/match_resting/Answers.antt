use Rattle.std.proofs.Common.{◌∙◌, Some, ap, sym}
use Rattle.order_kinds.specs.declared.side.Side.TheVariants.{Buy}
use Rattle.zone_graph.specs.Rooms.{room_of}
use Rattle.block_book.specs.Book.{line_of}
use Rattle.market_model.specs.Sweep.{first_answer}
use Rattle.block_match.specs.Deals.{deal_of_buy}
use Rattle.block_match.proofs.Buys.{buys-fewer, buys-found, buys-onward, buys-stands, buys-there, buys-zone}
use Rattle.block_match.proofs.Partners.{number_of}
use Rattle.zone_graph.proofs.Walks.{begins, begins-first}
use Rattle.block_match.proofs.matching.match_resting.Goals as goal

pub loop-next-init : goal.loop-next-init
loop-next-init c =
    let line = line_of c.args.book.now c.args.last Buy in
    record {
      scratch = tt;
      stands = begins-first number_of line c.first_any-next.result c.first_any-next.ensures;
      onward = ap (first_answer (deal_of_buy c.args.grid.now (room_of c.args.rooms.now) c.args.book.now)) (begins number_of line c.first_any-next.result c.first_any-next.ensures);
    }

pub partner_of-requires-clause-own : goal.partner_of-requires-clause-own
partner_of-requires-clause-own c =
    buys-zone c.args.grid.now (room_of c.args.rooms.now) c.args.book.now c.args.last c.len-resting.ensures.sound
    c.loop-next.next c.loop-next.invariant.stands c.loop-next.invariant.onward c.in-Some.buy c.in-Some.is c.requires.zones

pub after_any-next-requires : goal.after_any-next-requires
after_any-next-requires c =
    buys-there c.args.grid.now (room_of c.args.rooms.now) c.args.book.now c.args.last c.len-resting.ensures.sound
    c.loop-next.next c.loop-next.invariant.stands c.loop-next.invariant.onward c.in-Some.buy c.in-Some.is

pub loop-next-smaller : goal.loop-next-smaller
loop-next-smaller c =
    buys-fewer c.args.grid.now (room_of c.args.rooms.now) c.args.book.now c.args.last c.len-resting.ensures.sound
    c.loop-next.next c.loop-next.invariant.stands c.loop-next.invariant.onward c.in-Some.buy c.in-Some.is
    c.after_any-next.result c.after_any-next.ensures

pub loop-next-preserved : goal.loop-next-preserved
loop-next-preserved c = record {
  scratch = c.partner_of.ensures.scratch;
  stands = buys-stands c.args.grid.now (room_of c.args.rooms.now) c.args.book.now c.args.last c.len-resting.ensures.sound
      c.loop-next.next c.loop-next.invariant.stands c.loop-next.invariant.onward c.in-Some.buy c.in-Some.is
      c.after_any-next.result c.after_any-next.ensures;
  onward = buys-onward c.args.grid.now (room_of c.args.rooms.now) c.args.book.now c.args.last c.len-resting.ensures.sound
      c.loop-next.next c.loop-next.invariant.stands c.loop-next.invariant.onward c.in-Some.buy c.in-Some.is
      c.after_any-next.result c.after_any-next.ensures (sym c.in_ok-partner.ensures.partner ∙ c.in_default-2.is);
}

pub returns-in-Some-2 : goal.returns-in-Some-2
returns-in-Some-2 c =
    ap Some c.resting_deal.ensures
    ∙ sym (buys-found c.args.grid.now (room_of c.args.rooms.now) c.args.book.now c.args.last c.len-resting.ensures.sound
    c.loop-next.next c.loop-next.invariant.stands c.loop-next.invariant.onward c.in-Some.buy c.in-Some.is
    c.in-Some-2.partner (sym c.in_ok-partner.ensures.partner ∙ c.in-Some-2.is))
