use Rattle.std.proofs.Common.{ap}
use Rattle.hour_store.specs.Inside.{contents_of}
use Rattle.hour_store.proofs.Stores.{goes-nowhere}
use Rattle.hour_store.proofs.store.HourStore.settle.Goals as goal

pub invariant_of-self : goal.invariant_of-self
invariant_of-self c = (c.self.invariant.0, goes-nowhere c.clear.new.self.records (contents_of c.self.inside.kept) (ap (λ l. l.records) c.clear.ensures))
