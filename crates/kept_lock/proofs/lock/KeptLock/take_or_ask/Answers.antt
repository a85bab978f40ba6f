use Rattle.std.proofs.Common.{◌∷◌, Some, arith, sym, ap, ◌∙◌}
use mathlib.Core.Option.{none}
use Rattle.atomic_table.specs.Table.{rest, step}
use Rattle.kept_lock.proofs.Turns.{asking_by, won}
use Rattle.kept_lock.proofs.lock.KeptLock.take_or_ask.Goals as goal

pub swap-requires : goal.swap-requires
swap-requires g c =
    let shared = c.self.inside.table.shared in (
      c.requires.table ∙ sym (ap (λ lock. lock.table) c.self.view_is),
      omega (arith, c.self.invariant),
      asking_by g.T.Kept.keeps shared.key shared.table_id.slots c.args.seat.now.id c.args.seat.now.me (rw (ap (λ lock. lock.key) c.self.view_is) c.requires.seat),
    )

pub exchange-requires : goal.exchange-requires
exchange-requires g c =
    let slots = c.self.inside.table.shared.table_id.slots in
    let got = won g.T.Kept.keeps (step slots 0 2 0 none) c.args.seat.now.me c.swap.new.seat.me c.swap.result c.if-swap-eq0.true c.swap.ensures.2 in (
      c.swap.ensures.0 ∙ (c.requires.table ∙ sym (ap (λ lock. lock.table) c.self.view_is)),
      (Some got.0, ap (λ me. me.1) got.1 ∙ sym (ap (λ me. (0, Some got.0) ∷ rest me.1) got.1)),
    )
