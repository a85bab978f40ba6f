use Rattle.std.proofs.Common.{◌+◌, length, ap, arith}
use Rattle.desk_entering.proofs.Planning.{after-take, can-be-next, in-hand, in-part, just-entered}
use Rattle.desk_entering.proofs.taking.enter_and_take.Goals as goal

pub enter-requires-clause-next : goal.enter-requires-clause-next
enter-requires-clause-next c = can-be-next c.args.hour.now c.args.caller c.args.order.now c.requires.unplanned c.requires.enters

pub take-requires-clause-part : goal.take-requires-clause-part
take-requires-clause-part c =
    in-part c.args.hour.now c.args.caller c.args.order.now c.requires.unplanned c.requires.enters c.in_ok-number.number _ c.args.part c.enter.new.self c.fresh_taker-taker.result
    c.events.ensures.board c.in_ok-number.ensures.entered c.in_ok-number.ensures.number (ap (λ n. n + 1) (ap length c.events.ensures.events)) c.requires.part
    (c.fresh_taker-taker.ensures c.args.caller) (omega (arith, c.events.ensures.parts))

pub take-requires-clause-in_hand : goal.take-requires-clause-in_hand
take-requires-clause-in_hand c =
    in-hand c.args.hour.now c.args.caller c.args.order.now c.requires.unplanned c.requires.enters c.in_ok-number.number _ c.args.part c.enter.new.self c.fresh_taker-taker.result
    c.events.ensures.board c.in_ok-number.ensures.entered c.in_ok-number.ensures.number (ap (λ n. n + 1) (ap length c.events.ensures.events)) c.requires.part
    (c.fresh_taker-taker.ensures c.args.caller)

pub take-requires-clause-entered : goal.take-requires-clause-entered
take-requires-clause-entered c =
    just-entered c.args.hour.now c.args.caller c.args.order.now c.requires.unplanned c.requires.enters c.in_ok-number.number _ c.args.part c.enter.new.self c.fresh_taker-taker.result
    c.events.ensures.board c.in_ok-number.ensures.entered c.in_ok-number.ensures.number (ap (λ n. n + 1) (ap length c.events.ensures.events)) c.requires.part
    (c.fresh_taker-taker.ensures c.args.caller)

pub returns-clause-taken : goal.returns-clause-taken
returns-clause-taken c =
    after-take c.args.hour.now c.args.caller c.args.order.now c.requires.unplanned c.requires.enters c.in_ok-number.number _ c.args.part c.enter.new.self c.fresh_taker-taker.result
    c.events.ensures.board c.in_ok-number.ensures.entered c.in_ok-number.ensures.number (ap (λ n. n + 1) (ap length c.events.ensures.events)) c.requires.part
    (c.fresh_taker-taker.ensures c.args.caller) c.take.new.board c.take.result (omega (arith, c.events.ensures.parts)) c.take.ensures.made c.take.ensures.kept c.take.ensures.taker
