use Rattle.std.proofs.Common.{◌∙◌}
use Rattle.plain_capacity.proofs.RoomLemmas.{part-is}
use Rattle.plain_capacity.proofs.rooms.contract_rooms_over.Goals as goal

pub returns-clause-rooms : goal.returns-clause-rooms
returns-clause-rooms c =
    λ arc known. c.in_ok-rooms.ensures.rooms arc known
    ∙ part-is c.args.grid.now c.args.events.now c.args.contract.hour c.in_ok-summed.summed c.in_ok-summed.ensures arc known c.args.contract.part c.requires.part
