use Rattle.std.proofs.Common.{◌≡◌, ◌+◌, ◌≤◌}
use Rattle.flow_netting.specs.QuarterSet.{has}
use Rattle.laws_of_hours.specs.Standing.{IsOffered}
use Rattle.hour_store.specs.Changed.{NotesNoOrder}
use Rattle.hour_store.specs.Store.{StillLeadsBack}
use Rattle.hour_store.proofs.InTurn.{below_in}
use Rattle.hour_store.proofs.store.HourStore.offer.Given as goal

-- the lots are offered in the quarters of the set so far
abbrev pub invariant-loop-number : goal.invariant-loop-number
invariant-loop-number l = record {
  flows : IsOffered l.arc (below_in (has l.set) l.number) l.lots l.fn.self.contents.flows l.self.contents.flows;
  book : l.self.contents.book ≡ l.fn.self.contents.book;
  blocks : l.self.contents.blocks ≡ l.fn.self.contents.blocks;
  spare : l.fn.self.spare + 1 ≤ l.self.spare + l.number;
  back : StillLeadsBack l.fn.self l.self;
  noted : NotesNoOrder l.fn.self.changes l.self.changes;
}
