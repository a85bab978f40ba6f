use Rattle.desk_changes.specs.Openings.{opens}
use Rattle.desk_changes.proofs.PartRooms.{seven-tell}
use Rattle.desk_changes.proofs.openings.opened_since.Goals as goal

pub returns : goal.returns
returns c =
    seven-tell (opens c.args.was.now c.args.now.now) c.opens.result c.opens-2.result c.opens-3.result c.opens-4.result c.opens-5.result c.opens-6.result c.opens-7.result
    c.opens.ensures c.opens-2.ensures c.opens-3.ensures c.opens-4.ensures c.opens-5.ensures c.opens-6.ensures c.opens-7.ensures
