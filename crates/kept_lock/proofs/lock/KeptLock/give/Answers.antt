use Rattle.std.proofs.Common.{arith, sym, ap, ◌∙◌}
use Rattle.kept_lock.proofs.Turns.{filled, giving_by}
use Rattle.kept_lock.proofs.lock.KeptLock.give.Goals as goal

pub swap-requires : goal.swap-requires
swap-requires g c =
    let shared = c.self.inside.table.shared in
    let same = c.duty.view_is ∙ (c.requires.duty ∙ sym c.self.view_is) in (
      c.exchange.ensures.0 ∙ ap (λ lock. lock.table) same,
      omega (arith, c.self.invariant),
      giving_by g.T.Kept.keeps shared.key c.args.value shared.table_id.slots c.exchange.new.seat.id c.exchange.new.seat.me
          (filled g.T.Kept.keeps shared.key c.args.value c.duty.inside.seat.me c.exchange.new.seat.me (ap (λ lock. lock.key) same) c.duty.invariant c.exchange.ensures.3)
          (rw (ap (λ lock. lock.key) c.self.view_is) c.requires.value),
    )
