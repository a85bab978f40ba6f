use Rattle.std.proofs.Common.{◌∙◌, ◌+◌, sym, subst, take, arith}
use Rattle.std.proofs.lemmas.List.{take_all}
use Rattle.plain_capacity.specs.Hour.{IsCapacityOf}
use Rattle.plain_capacity.proofs.Near.{near-all, next-can, next-is, next-same}
use Rattle.plain_capacity.proofs.hour.HourCapacity.note_from.Goals as goal
use Rattle.plain_capacity.proofs.hour.HourCapacity.note_from.Goals.{then-not-is_of_orders, else-not-is_of_orders}

pub note-requires : goal.note-requires
note-requires c =
    next-can c.args.grid.now c.args.events.now c.args.near.now c.requires.legal c.args.hour c.requires.near c.loop-place.place c.index-near-place.result c.loop-place.self
    (omega (arith, c.loop-place-test.true)) c.index-near-place.is c.loop-place.invariant

pub loop-place-preserved : goal.loop-place-preserved
loop-place-preserved c = elim c.if-not-is_of_orders.branch [
  | then-not-is_of_orders w ↦
      subst (IsCapacityOf c.args.grid.now (take (c.loop-place.place + 1) c.args.near.now) c.args.hour) (sym w.self-is)
      (next-is c.args.grid.now c.args.events.now c.args.near.now c.requires.legal c.args.hour c.requires.near c.loop-place.place c.index-near-place.result c.loop-place.self
      (omega (arith, c.loop-place-test.true)) c.index-near-place.is c.loop-place.invariant _
      w.note.ensures.quarters w.note.ensures.size w.note.ensures.halts w.note.ensures.phase)
  | else-not-is_of_orders w ↦
      subst (IsCapacityOf c.args.grid.now (take (c.loop-place.place + 1) c.args.near.now) c.args.hour) (sym w.self-is)
      (next-same c.args.grid.now c.args.events.now c.args.near.now c.requires.legal c.args.hour c.requires.near c.loop-place.place c.index-near-place.result c.loop-place.self
      (omega (arith, c.loop-place-test.true)) c.index-near-place.is c.loop-place.invariant (sym c.is_of_orders.ensures ∙ w.if-not-is_of_orders.false))
]

pub returns : goal.returns
returns c =
    near-all c.args.grid.now c.args.events.now c.args.near.now c.requires.legal c.args.hour c.requires.near c.loop-place.self
    (subst (λ events. IsCapacityOf c.args.grid.now events c.args.hour c.loop-place.self)
    (take_all c.loop-place.place c.args.near.now c.loop-place-test.false) c.loop-place.invariant)
