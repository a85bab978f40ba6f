use Rattle.std.proofs.Common.{◌≡◌, ◌+◌, take}
use Rattle.zone_graph.specs.Pour.{uses}
use Rattle.flow_netting.specs.QuarterSet.{has}
use Rattle.laws_of_hours.specs.Standing.{IsCarried}
use Rattle.hour_store.specs.Changed.{NotesNoOrder}
use Rattle.hour_store.specs.Store.{StillLeadsBack}
use Rattle.hour_store.proofs.store.HourStore.carry_arcs.Given as goal

-- the arcs so far carry the lots
abbrev pub invariant-loop-arc : goal.invariant-loop-arc
invariant-loop-arc l = record {
  flows : IsCarried (uses (take l.arc-index l.route)) (has l.set) l.lots l.fn.self.contents.flows l.self.contents.flows;
  book : l.self.contents.book ≡ l.fn.self.contents.book;
  blocks : l.self.contents.blocks ≡ l.fn.self.contents.blocks;
  spare : l.self.spare + l.arc-index ≡ l.fn.self.spare;
  back : StillLeadsBack l.fn.self l.self;
  noted : NotesNoOrder l.fn.self.changes l.self.changes;
}
