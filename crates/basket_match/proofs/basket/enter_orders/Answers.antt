use Rattle.std.proofs.Common.{◌≡◌, ◌∙◌, ◌++◌, List, ap, arith, pos, refl, slice_index_or, sym}
use Rattle.order_kinds.specs.declared.contract.Part.TheVariants as part
use Rattle.order_kinds.specs.declared.order.Kind.TheVariants as kind
use Rattle.order_kinds.specs.declared.order.Order.{Order}
use Rattle.order_kinds.specs.declared.side.Side.TheVariants.{Buy}
use Rattle.joint_plan.specs.Desk.{planning, with_nothing_planned}
use Rattle.market_model.specs.declared.reply.Reply.TheVariants as reply
use Rattle.market_model.specs.History.{events_of}
use Rattle.joint_plan.specs.Rows.{planning_all}
use Rattle.joint_plan.proofs.Lists.{on-err}
use Rattle.basket_match.specs.Orders.{reply_on}
use Rattle.basket_match.proofs.Baskets.{all-planned, all-reply, planning-same, turn-can, turn-kept, turn-made, turn-passed, turn-planned, turn-refused, turn-unseen, turn-within}
use Rattle.basket_match.proofs.basket.enter_orders.Goals as goal

-- what an index behind the orders is read as
abbrev none : Order
none = record {
  contract = record { hour = 0; part = part.Hour };
  zone = 0;
  side = Buy;
  price = record { 0 = pos 0 };
  quantity = record { 0 = 0 };
  kind = kind.Limit;
}

pub enter_order-requires-clause-within : goal.enter_order-requires-clause-within
enter_order-requires-clause-within g c =
    turn-within c.args.setup.now c.args.grid.now c.args.caller c.args.orders.now (g.D.Desks.desks c.args.row.now) c.requires.asked c.loop-i.i none (g.D.Desks.desks c.loop-i.row)
    c.loop-i-test.true c.loop-i.invariant.desks

pub enter_order-requires-clause-can : goal.enter_order-requires-clause-can
enter_order-requires-clause-can g c =
    turn-can c.args.setup.now c.args.grid.now c.args.caller c.args.orders.now (g.D.Desks.desks c.args.row.now) c.requires.asked c.loop-i.i none (g.D.Desks.desks c.loop-i.row)
    c.loop-i-test.true c.loop-i.invariant.desks c.requires.unclosed

pub returns-in_err-events-clause-failed : goal.returns-in_err-events-clause-failed
returns-in_err-events-clause-failed g c =
    on-err c.from_residual.result
    (turn-kept c.args.setup.now c.args.grid.now c.args.caller c.args.orders.now (g.D.Desks.desks c.args.row.now) c.requires.asked c.loop-i.i none (g.D.Desks.desks c.loop-i.row)
    c.loop-i-test.true c.loop-i.invariant.desks with_nothing_planned (λ desk. refl) (g.D.Desks.desks c.enter_order.new.row) c.in_err-events.ensures.failed)

pub returns-in_err-append-in-Done-clause-failed : goal.returns-in_err-append-in-Done-clause-failed
returns-in_err-append-in-Done-clause-failed g c =
    let order = slice_index_or c.args.orders.now c.loop-i.i none in
    on-err c.from_residual-in_err-append-in-Done.result
    (turn-kept c.args.setup.now c.args.grid.now c.args.caller c.args.orders.now (g.D.Desks.desks c.args.row.now) c.requires.asked c.loop-i.i none (g.D.Desks.desks c.loop-i.row)
    c.loop-i-test.true c.loop-i.invariant.desks (λ desk. planning desk (events_of (reply_on c.args.caller order desk))) (λ desk. refl) (g.D.Desks.desks c.enter_order.new.row)
    c.in_ok-events.ensures.planned)

pub returns-in-Refused-clause-reply : goal.returns-in-Refused-clause-reply
returns-in-Refused-clause-reply g c = λ history is.
    c.refuse.ensures.reply
    ∙ sym (turn-refused c.args.setup.now c.args.grid.now c.args.caller c.args.orders.now (g.D.Desks.desks c.args.row.now) c.requires.asked c.loop-i.i none (g.D.Desks.desks c.loop-i.row)
    c.loop-i-test.true c.loop-i.invariant.desks history is (c.loop-i.invariant.passed history is) c.requires.unclosed c.in-Refused.refusal
    (λ desk there. sym (c.in_ok-events.ensures.reply desk there) ∙ c.in-Refused.is))

pub returns-in-Refused-clause-planned : goal.returns-in-Refused-clause-planned
returns-in-Refused-clause-planned g c =
    let order = slice_index_or c.args.orders.now c.loop-i.i none in
    c.refuse.ensures.desks
    ∙ planning-same (g.D.Desks.desks c.enter_order.new.row) (g.D.Desks.desks c.args.row.now) (events_of c.refuse.result)
    (turn-kept c.args.setup.now c.args.grid.now c.args.caller c.args.orders.now (g.D.Desks.desks c.args.row.now) c.requires.asked c.loop-i.i none (g.D.Desks.desks c.loop-i.row)
    c.loop-i-test.true c.loop-i.invariant.desks (λ desk. planning desk (events_of (reply_on c.args.caller order desk))) (λ desk. refl) (g.D.Desks.desks c.enter_order.new.row)
    c.in_ok-events.ensures.planned)

pub unreachable-requires : goal.unreachable-requires
unreachable-requires g c =
    turn-unseen c.args.setup.now c.args.grid.now c.args.caller c.args.orders.now (g.D.Desks.desks c.args.row.now) c.requires.asked c.loop-i.i none (g.D.Desks.desks c.loop-i.row)
    c.loop-i-test.true c.loop-i.invariant.desks c.in-Seen.field-0 (λ desk there. sym (c.in_ok-events.ensures.reply desk there) ∙ c.in-Seen.is)

pub loop-i-preserved : goal.loop-i-preserved
loop-i-preserved g c =
    let old = g.D.Desks.desks c.args.row.now in
    let ys = g.D.Desks.desks c.loop-i.row in
    let events = c.in-Done.events in
    let more : c.append.new.self.items ≡ c.loop-i.made.items ++ events = c.in_ok-append-in-Done.ensures.items ∙ ap (λ es. c.loop-i.made.items ++ es) c.into_vec.ensures in record {
      made = λ history is.
          turn-made c.args.setup.now c.args.grid.now c.args.caller c.args.orders.now old c.requires.asked c.loop-i.i none ys c.loop-i-test.true c.loop-i.invariant.desks history is
          (c.loop-i.invariant.passed history is) events (λ desk there. sym (c.in_ok-events.ensures.reply desk there) ∙ c.in-Done.is) c.loop-i.made.items c.append.new.self.items
          (c.loop-i.invariant.made history is) more;
      desks = λ history is.
          turn-planned c.args.setup.now c.args.grid.now c.args.caller c.args.orders.now old c.requires.asked c.loop-i.i none ys c.loop-i-test.true c.loop-i.invariant.desks history is
          (c.loop-i.invariant.passed history is) events (λ desk there. sym (c.in_ok-events.ensures.reply desk there) ∙ c.in-Done.is) (g.D.Desks.desks c.enter_order.new.row)
          c.in_ok-events.ensures.planned;
      passed = λ history is.
          turn-passed c.args.setup.now c.args.grid.now c.args.caller c.args.orders.now old c.requires.asked c.loop-i.i none ys c.loop-i-test.true c.loop-i.invariant.desks history is
          (c.loop-i.invariant.passed history is) events (λ desk there. sym (c.in_ok-events.ensures.reply desk there) ∙ c.in-Done.is);
      rest = c.enter_order.ensures.rest ∙ c.loop-i.invariant.rest;
    }

pub returns-clause-reply : goal.returns-clause-reply
returns-clause-reply g c = λ history is.
    ap reply.Done c.from.ensures
    ∙ all-reply c.args.setup.now c.args.grid.now c.args.caller c.args.orders.now (g.D.Desks.desks c.args.row.now) c.requires.asked c.requires.unclosed c.loop-i.i
    (omega (arith, c.loop-i-test.false)) c.loop-i.made.items (g.D.Desks.desks c.loop-i.row) c.loop-i.invariant.made c.loop-i.invariant.desks c.loop-i.invariant.passed history is

pub returns-clause-planned : goal.returns-clause-planned
returns-clause-planned g c =
    all-planned c.args.setup.now c.args.grid.now c.args.caller c.args.orders.now (g.D.Desks.desks c.args.row.now) c.requires.asked c.requires.unclosed c.loop-i.i
    (omega (arith, c.loop-i-test.false)) c.loop-i.made.items (g.D.Desks.desks c.loop-i.row) c.loop-i.invariant.made c.loop-i.invariant.desks c.loop-i.invariant.passed
    ∙ ap (λ events. planning_all (g.D.Desks.desks c.args.row.now) events) (sym c.from.ensures)
