use Rattle.std.proofs.Common.{◌∙◌, ap, ap₂, arith, length, subst, sym}
use Rattle.order_kinds.specs.Side.{opposite}
use Rattle.plain_capacity.proofs.RoomLemmas.{said_again}
use Rattle.plain_orders.specs.Listed.{line_of}
use Rattle.plain_orders.proofs.LineLaws.{line-of_orders}
use Rattle.plain_refusals.specs.Crossing.{AreSound}
use Rattle.plain_refusals.proofs.Lines.{line-few, line-sound}
use Rattle.plain_refusals.proofs.unfilled.opposite_line.Goals as goal

pub returns-clause-line : goal.returns-clause-line
returns-clause-line c = said_again c.line.result _ _
    (λ made is.
    is
    ∙ ap₂ (λ orders side. line_of orders c.args.order.now.contract side) (c.as_slice.ensures.value ∙ c.in_ok-orders.ensures) c.opposite.ensures
    ∙ line-of_orders c.args.events.now c.args.order.now.contract (opposite c.args.order.now.side) (record { setup = c.requires.legal.setup; fit = c.requires.legal.fit }))
    c.line.ensures

pub returns-clause-sound : goal.returns-clause-sound
returns-clause-sound c = said_again c.line.result _ _
    (λ made is. subst AreSound (sym is)
    (line-sound c.args.events.now c.args.order.now.contract (opposite c.args.order.now.side) (record { setup = c.requires.legal.setup; fit = c.requires.legal.fit })))
    (returns-clause-line c)

pub returns-clause-few : goal.returns-clause-few
returns-clause-few c = said_again c.line.result _ _
    (λ made is. omega (
      arith,
      ap length is,
      line-few c.args.events.now c.args.order.now.contract (opposite c.args.order.now.side),
      c.requires.few,
    ))
    (returns-clause-line c)
