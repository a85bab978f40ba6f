use Rattle.std.proofs.Common.{inl, get_or, refl}
use Rattle.desk_changes.specs.declared.still_open.StillOpen.{StillOpen}
use Rattle.desk_changes.proofs.Ending.{can-be-next, first-can, of-part, one-more, still-can}
use Rattle.desk_changes.proofs.closing.withdraw_all.Goals as goal

abbrev nothing : StillOpen
nothing = record { number = 0; part = 0; lots = 0 }

pub withdraw-requires-clause-part : goal.withdraw-requires-clause-part
withdraw-requires-clause-part c =
    let can = first-can c.loop-item.hour.board c.args.items.now c.loop-item.item-index nothing c.loop-item-test.true c.loop-item.invariant.can in
    of-part c.loop-item.hour.board.grid c.loop-item.hour.board.hour c.loop-item.hour.board.events can.stands (get_or c.args.items.now c.loop-item.item-index nothing)
    (can.each (get_or c.args.items.now c.loop-item.item-index nothing) (inl refl))

pub withdraw-requires-clause-next : goal.withdraw-requires-clause-next
withdraw-requires-clause-next c =
    let can = first-can c.loop-item.hour.board c.args.items.now c.loop-item.item-index nothing c.loop-item-test.true c.loop-item.invariant.can in
    can-be-next c.loop-item.hour.board.grid c.loop-item.hour.board.hour c.loop-item.hour.board.events can.stands (get_or c.args.items.now c.loop-item.item-index nothing)
    (can.each (get_or c.args.items.now c.loop-item.item-index nothing) (inl refl))

pub loop-item-preserved : goal.loop-item-preserved
loop-item-preserved c = record {
  is = one-more c.args.hour.now c.loop-item.hour c.withdraw.new.self c.args.items.now c.loop-item.item-index nothing c.loop-item-test.true
      c.loop-item.invariant.is c.in_ok-withdraw.ensures.withdrawn;
  can = still-can c.loop-item.hour c.withdraw.new.self c.args.items.now c.loop-item.item-index nothing c.loop-item-test.true
      c.loop-item.invariant.can c.in_ok-withdraw.ensures.withdrawn;
}
