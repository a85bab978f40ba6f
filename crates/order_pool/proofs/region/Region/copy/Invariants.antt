use Rattle.std.proofs.Common.{◌≡◌, take}
use Rattle.order_pool.proofs.region.Region.copy.Given as goal

-- the items so far are copied
abbrev pub invariant-loop-index : goal.invariant-loop-index
invariant-loop-index g l = record { items : l.copied.items ≡ take l.index l.self.items; room : l.copied.room ≡ l.self.room }
