use Rattle.std.proofs.Common.{◌∙◌, ap, sym}
use Rattle.std.specs.List.{find}
use Rattle.zone_graph.specs.Rooms.{room_of}
use Rattle.block_match.specs.Meeting.{carries_whole}
use Rattle.block_match.specs.Walking.{crossed_line}
use Rattle.block_match.proofs.Seeking.{seek-fewer, seek-first, seek-found, seek-known, seek-line, seek-none, seek-onward, seek-stands, seek-zone}
use Rattle.block_match.proofs.Partners.{number_of}
use Rattle.zone_graph.proofs.Walks.{begins, begins-first}
use Rattle.block_match.proofs.partner.partner_of.Goals as goal

pub loop-next-init : goal.loop-next-init
loop-next-init c =
    let line = crossed_line c.args.book.now c.args.own.now in
    let first = seek-first c.args.grid.now (room_of c.args.rooms.now) c.args.book.now c.args.own.now c.len-resting.ensures.sound c.first_crossed-next.result c.first_crossed-next.ensures in
    record {
      scratch = c.requires.scratch;
      stands = begins-first number_of line c.first_crossed-next.result first;
      onward = ap (find (carries_whole c.args.grid.now (room_of c.args.rooms.now) c.args.own.now)) (begins number_of line c.first_crossed-next.result first);
    }

pub pour_whole-requires-clause-other : goal.pour_whole-requires-clause-other
pour_whole-requires-clause-other c =
    seek-zone c.args.grid.now (room_of c.args.rooms.now) c.args.book.now c.args.own.now c.len-resting.ensures.sound
    c.loop-next.next c.loop-next.invariant.stands c.loop-next.invariant.onward c.in-Some.other c.in-Some.is c.requires.zones

pub returns-in-Some-2-clause-partner : goal.returns-in-Some-2-clause-partner
returns-in-Some-2-clause-partner c =
    sym (seek-found c.args.grid.now (room_of c.args.rooms.now) c.args.book.now c.args.own.now c.len-resting.ensures.sound
    c.loop-next.next c.loop-next.invariant.stands c.loop-next.invariant.onward c.in-Some.other c.in-Some.is
    c.in-Some-2.legs (sym c.in_ok-legs.ensures.legs ∙ c.in-Some-2.is))

pub next_crossed-next-requires-clause-there : goal.next_crossed-next-requires-clause-there
next_crossed-next-requires-clause-there c =
    seek-known c.args.grid.now (room_of c.args.rooms.now) c.args.book.now c.args.own.now c.len-resting.ensures.sound
    c.loop-next.next c.loop-next.invariant.stands c.loop-next.invariant.onward c.in-Some.other c.in-Some.is

pub next_crossed-next-requires-clause-in_line : goal.next_crossed-next-requires-clause-in_line
next_crossed-next-requires-clause-in_line c =
    seek-line c.args.grid.now (room_of c.args.rooms.now) c.args.book.now c.args.own.now c.len-resting.ensures.sound
    c.loop-next.next c.loop-next.invariant.stands c.loop-next.invariant.onward c.in-Some.other c.in-Some.is

pub loop-next-smaller : goal.loop-next-smaller
loop-next-smaller c =
    seek-fewer c.args.grid.now (room_of c.args.rooms.now) c.args.book.now c.args.own.now c.len-resting.ensures.sound
    c.loop-next.next c.loop-next.invariant.stands c.loop-next.invariant.onward c.in-Some.other c.in-Some.is
    c.next_crossed-next.result c.next_crossed-next.ensures

pub loop-next-preserved : goal.loop-next-preserved
loop-next-preserved c = record {
  scratch = c.pour_whole.ensures.scratch;
  stands = seek-stands c.args.grid.now (room_of c.args.rooms.now) c.args.book.now c.args.own.now c.len-resting.ensures.sound
      c.loop-next.next c.loop-next.invariant.stands c.loop-next.invariant.onward c.in-Some.other c.in-Some.is
      c.next_crossed-next.result c.next_crossed-next.ensures;
  onward = seek-onward c.args.grid.now (room_of c.args.rooms.now) c.args.book.now c.args.own.now c.len-resting.ensures.sound
      c.loop-next.next c.loop-next.invariant.stands c.loop-next.invariant.onward c.in-Some.other c.in-Some.is
      c.next_crossed-next.result c.next_crossed-next.ensures (sym c.in_ok-legs.ensures.legs ∙ c.in_default-2.is);
}

pub returns-clause-partner : goal.returns-clause-partner
returns-clause-partner c =
    sym (seek-none c.args.grid.now (room_of c.args.rooms.now) c.args.book.now c.args.own.now c.len-resting.ensures.sound
    c.loop-next.next c.loop-next.invariant.stands c.loop-next.invariant.onward c.in_default.is)
