use Rattle.std.proofs.Common.{refl, ◌∙◌}
use Rattle.order_pool.proofs.PoolStates.{live_within, item_read, item_live, lent_pool, lent_state}
use Rattle.order_pool.proofs.pool.Pool.get_mut.Goals as goal

pub invariant_of-self-lent : goal.invariant_of-self-lent
invariant_of-self-lent g c w = (c.self.invariant.0, lent_pool c.self.inside.slots.items c.self.inside.rings c.args.self.now c.self.view_is c.self.invariant.1 c.args.place w c.requires)

pub returns : goal.returns
returns g c =
    let within = live_within c.self.inside.slots.items c.self.inside.rings c.args.self.now c.self.view_is c.self.invariant.1 c.args.place c.requires in (
      (refl {a = c.item_mut.result.ghost_name}, λ w. lent_state c.self.inside.slots.items c.self.inside.rings c.args.self.now c.self.view_is c.self.invariant.1 c.args.place w c.requires),
      record { writes_back = tt; item = item_read c.self.inside.slots.items c.self.inside.rings c.args.self.now c.self.view_is c.self.invariant.1 c.args.place c.get_mut.result.now within c.get_mut.ensures.value ∙ c.item_mut.ensures.value },
    )

pub item_mut-requires : goal.item_mut-requires
item_mut-requires g c = item_live c.self.inside.slots.items c.self.inside.rings c.args.self.now c.self.view_is c.self.invariant.1 c.args.place c.get_mut.result.now c.requires c.get_mut.ensures.value
