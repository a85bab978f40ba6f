use Rattle.hour_store.specs.Inside.{contents_of}
use Rattle.hour_store.proofs.Stores.{goes-nowhere}
use Rattle.hour_store.proofs.store.HourStore.undo.Goals as goal

pub invariant_of-self : goal.invariant_of-self
invariant_of-self c = (c.take_all_back.ensures.kept, goes-nowhere c.take_all_back.new.log.records (contents_of c.take_all_back.new.kept) c.take_all_back.ensures.settled)
