use Rattle.std.proofs.Common.{◌≡◌, ◌≤◌, [], drop}
use Rattle.flow_netting.specs.Flows.{Flows}
use Rattle.hour_store.specs.Changed.{NotesNoFlow, NotesNoOrder}
use Rattle.hour_store.specs.Store.{StillLeadsBack}
use Rattle.kept_hour.specs.Deals.{AreCarried, CanCarryAll, arc_count}
use Rattle.kept_hour.proofs.dealing.carry_legs.Given as goal

-- the other legs can be carried, and all are once they are
abbrev pub invariant-loop-leg : goal.invariant-loop-leg
invariant-loop-leg l = record {
  can : CanCarryAll l.store.contents.flows (drop l.leg-index l.legs);
  carried : (final : Flows) → AreCarried (drop l.leg-index l.legs) l.store.contents.flows final → AreCarried l.legs l.fn.store.contents.flows final;
  book : l.store.contents.book ≡ l.fn.store.contents.book;
  blocks : l.store.contents.blocks ≡ l.fn.store.contents.blocks;
  spare : arc_count (drop l.leg-index l.legs) ≤ l.store.spare;
  back : StillLeadsBack l.fn.store l.store;
  noted : NotesNoOrder l.fn.store.changes l.store.changes;
  no_flow : l.legs ≡ [] → NotesNoFlow l.fn.store.changes l.store.changes;
}
