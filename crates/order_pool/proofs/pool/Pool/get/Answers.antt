use Rattle.std.proofs.Common.{◌∙◌}
use Rattle.order_pool.proofs.PoolStates.{live_within, item_read, item_live}
use Rattle.order_pool.proofs.pool.Pool.get.Goals as goal

pub item-requires : goal.item-requires
item-requires g c = item_live c.self.inside.slots.items c.self.inside.rings c.args.self.now c.self.view_is c.self.invariant.1 c.args.place c.get.result.now c.requires c.get.ensures

pub returns : goal.returns
returns g c =
    item_read c.self.inside.slots.items c.self.inside.rings c.args.self.now c.self.view_is c.self.invariant.1 c.args.place c.get.result.now (live_within c.self.inside.slots.items c.self.inside.rings c.args.self.now c.self.view_is c.self.invariant.1 c.args.place c.requires) c.get.ensures ∙ c.item.ensures
