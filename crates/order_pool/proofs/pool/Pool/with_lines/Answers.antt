use Rattle.std.proofs.Common.{length, ap, arith}
use Rattle.order_pool.specs.Slots.{item_in, places_in}
use Rattle.order_pool.proofs.FilledLemmas.{filled_past}
use Rattle.order_pool.proofs.FreshPool.{no_lines, IsPool-made}
use Rattle.order_pool.proofs.PoolLemmas.{pool_is_sound}
use Rattle.order_pool.proofs.pool.Pool.with_lines.Goals as goal

pub invariant_of-result : goal.invariant_of-result
invariant_of-result g c =
    (ap (λ s. s.room) c.in_ok-slots.ensures, IsPool-made c.in_ok-slots.slots.items c.in_ok-rings.rings c.args.lines c.requires.some (ap (λ s. s.items) c.in_ok-slots.ensures) c.in_ok-rings.ensures.empty c.in_ok-rings.ensures.sound)

pub returns-clause-free : goal.returns-clause-free
returns-clause-free g c =
    let empty = ap (λ s. s.items) c.in_ok-slots.ensures in
    λ place. filled_past item_in c.in_ok-slots.slots.items 4096 place (omega (arith, ap length empty))

pub returns-clause-lines : goal.returns-clause-lines
returns-clause-lines g c = no_lines c.in_ok-rings.rings c.args.lines c.in_ok-rings.ensures.empty

pub returns-clause-sound : goal.returns-clause-sound
returns-clause-sound g c =
    let pool = IsPool-made c.in_ok-slots.slots.items c.in_ok-rings.rings c.args.lines c.requires.some (ap (λ s. s.items) c.in_ok-slots.ensures) c.in_ok-rings.ensures.empty c.in_ok-rings.ensures.sound in
    pool_is_sound (places_in c.in_ok-slots.slots.items) c.in_ok-rings.rings (length c.in_ok-slots.slots.items) pool
