use Rattle.std.proofs.Common.{◌∙◌, ℕ, List, Some, sym, ap, subst, arith}
use Rattle.order_kinds.specs.Contract.{contract_at}
use Rattle.zone_graph.specs.Graph.{HasZone}
use Rattle.market_model.specs.declared.refusal.Refusal.TheVariants as refusal
use Rattle.market_model.specs.Certificate.{bound_of}
use Rattle.market_model.specs.Entering.{name_of_next}
use Rattle.laws_of_books.specs.BookOf.{book_of}
use Rattle.hour_store.specs.Contents.{IsOfPart}
use Rattle.kept_hour.specs.State.{undone}
use Rattle.desk_entering.specs.Entries.{HasEnded, rest_record}
use Rattle.desk_entering.proofs.Certified.{zones-found}
use Rattle.desk_entering.proofs.Entry.{enters_here, in_zone}
use Rattle.desk_entering.proofs.Fresh.{contract-is, part-low}
use Rattle.desk_entering.proofs.Judging.{fok-refused, may-rest, rest-passes, rest-refused}
use Rattle.desk_entering.proofs.Resting as resting
use Rattle.desk_entering.proofs.ending.end_taking.Goals as goal

pub drop_hand-requires : goal.drop_hand-requires
drop_hand-requires c = record {
  closed = resting.closed c.args.hour.now c.args.caller c.args.order.now c.args.taker.now c.requires.taken c.if-taker-eq0.true;
}

pub returns-then-taker-eq0-clause-ended : goal.returns-then-taker-eq0-clause-ended
returns-then-taker-eq0-clause-ended c = λ _.
    subst (λ h. HasEnded h c.args.caller c.args.order.now) (sym c.drop_hand.ensures)
    (resting.ended-filled c.args.hour.now c.args.caller c.args.order.now c.args.taker.now c.requires.taken c.if-taker-eq0.true)

pub withdraw_hand-requires-clause-next : goal.withdraw_hand-requires-clause-next
withdraw_hand-requires-clause-next c =
    resting.can-withdraw c.args.hour.now c.args.caller c.args.order.now c.args.taker.now c.requires.taken c.if-taker-eq0.false

pub zones_left-requires-clause-part : goal.zones_left-requires-clause-part
zones_left-requires-clause-part c =
    let board = c.args.hour.now.board in
    let order = c.args.order.now in
    let low = part-low order.contract.part (enters_here board.grid board.hour c.args.hour.now.settled c.args.caller order c.requires.taken.enters).in_part in
    let same = c.requires.part in
    let parts = c.requires.taken.has_parts in
    omega (arith, low, same, parts)

pub zones_left-requires-clause-of_part : goal.zones_left-requires-clause-of_part
zones_left-requires-clause-of_part c =
    let board = c.args.hour.now.board in
    let order = c.args.order.now in
    contract-is order.contract board.hour c.requires.taken.enters.in_hour
    (enters_here board.grid board.hour c.args.hour.now.settled c.args.caller order c.requires.taken.enters).in_part
    ∙ ap (contract_at board.hour) (sym c.requires.part)

pub zones_left-requires-clause-zone : goal.zones_left-requires-clause-zone
zones_left-requires-clause-zone c =
    let board = c.args.hour.now.board in
    subst (λ g. HasZone g c.args.order.now.zone) (sym c.requires.grid)
    (in_zone board.grid board.hour c.args.hour.now.settled c.args.caller c.args.order.now c.requires.taken.enters)

pub returns-then-open-ge-DESK_ROOM-clause-judged : goal.returns-then-open-ge-DESK_ROOM-clause-judged
returns-then-open-ge-DESK_ROOM-clause-judged c =
    let hour = c.args.hour.now in
    let order = c.args.order.now in
    let kinds = may-rest order c.in-Limit.is in
    rest-refused hour.board.grid hour.settled c.args.caller order kinds.0 kinds.1
    (resting.some-left hour c.args.caller order c.args.taker.now c.requires.taken c.if-taker-eq0.false)
    (resting.no-room hour c.args.caller order c.args.taker.now c.requires.taken c.open.result c.open.ensures c.if-open-ge-DESK_ROOM.true)

pub record_at_rest-requires : goal.record_at_rest-requires
record_at_rest-requires c = resting.has-peak c.args.hour.now c.args.caller c.args.order.now c.args.taker.now c.requires.taken

pub rest_hand-requires-clause-part : goal.rest_hand-requires-clause-part
rest_hand-requires-clause-part c =
    let board = c.args.hour.now.board in
    let order = c.args.order.now in
    let low = part-low order.contract.part (enters_here board.grid board.hour c.args.hour.now.settled c.args.caller order c.requires.taken.enters).in_part in
    let same = c.requires.part in
    omega (arith, low, same)

pub rest_hand-requires-clause-stands : goal.rest_hand-requires-clause-stands
rest_hand-requires-clause-stands c =
    let hour = c.args.hour.now in
    let book = book_of hour.board.events hour.board.hour in
    let order = c.args.order.now in
    subst (IsOfPart book c.args.part) (sym c.record_at_rest.ensures)
    (subst (λ p. IsOfPart book p (rest_record c.args.caller c.args.taker.now)) (sym c.requires.part)
    (resting.rests-there hour c.args.caller order c.args.taker.now c.requires.taken (resting.is-left c.args.taker.now c.if-taker-eq0.false)))

pub rest_hand-requires-clause-room : goal.rest_hand-requires-clause-room
rest_hand-requires-clause-room c =
    let hour = c.args.hour.now in
    resting.few-open hour c.args.caller c.args.order.now c.args.taker.now c.requires.taken
    (resting.has-room hour c.args.caller c.args.order.now c.args.taker.now c.requires.taken c.open.result c.open.ensures c.if-open-ge-DESK_ROOM.false)

pub returns-in_ok-withdraw_hand-in-Ioc-clause-ended : goal.returns-in_ok-withdraw_hand-in-Ioc-clause-ended
returns-in_ok-withdraw_hand-in-Ioc-clause-ended c = λ _.
    let hour = c.args.hour.now in
    let number = (name_of_next hour.settled c.args.order.now).number in
    subst (λ h. HasEnded h c.args.caller c.args.order.now) (sym (c.in_ok-withdraw_hand-in-Ioc.ensures.withdrawn number c.requires.taken.in_hand))
    (resting.ended-withdrawn hour c.args.caller c.args.order.now c.args.taker.now c.requires.taken c.in-Ioc.is c.if-taker-eq0.false number c.requires.taken.in_hand)

pub returns-in_ok-withdraw_hand-in-Ioc-clause-kept : goal.returns-in_ok-withdraw_hand-in-Ioc-clause-kept
returns-in_ok-withdraw_hand-in-Ioc-clause-kept c =
    let number = (name_of_next c.args.hour.now.settled c.args.order.now).number in
    ap undone (c.in_ok-withdraw_hand-in-Ioc.ensures.withdrawn number c.requires.taken.in_hand)

pub returns-in_ok-zones-in-Fok-clause-judged : goal.returns-in_ok-zones-in-Fok-clause-judged
returns-in_ok-zones-in-Fok-clause-judged c =
    let hour = c.args.hour.now in
    let order = c.args.order.now in
    let zones = zones-found hour c.args.caller order c.args.taker.now c.requires.taken c.args.grid.now c.requires.grid c.in_ok-zones-in-Fok.zones c.in_ok-zones-in-Fok.ensures.zones in
    fok-refused hour.board.grid hour.settled c.args.caller order c.in-Fok.is (resting.some-left hour c.args.caller order c.args.taker.now c.requires.taken c.if-taker-eq0.false)
    ∙ ap (λ (z : List ℕ). Some (refusal.Unfilled z (bound_of hour.board.grid hour.settled c.args.caller order z))) (sym zones)

pub returns-in_ok-rest_hand-in-Limit-clause-judged : goal.returns-in_ok-rest_hand-in-Limit-clause-judged
returns-in_ok-rest_hand-in-Limit-clause-judged c =
    let hour = c.args.hour.now in
    let order = c.args.order.now in
    let kinds = may-rest order c.in-Limit.is in
    rest-passes hour.board.grid hour.settled c.args.caller order kinds.0 kinds.1
    (resting.some-left hour c.args.caller order c.args.taker.now c.requires.taken c.if-taker-eq0.false)
    (resting.has-room hour c.args.caller order c.args.taker.now c.requires.taken c.open.result c.open.ensures c.if-open-ge-DESK_ROOM.false)
