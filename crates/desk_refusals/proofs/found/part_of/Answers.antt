use Rattle.std.proofs.Common.{◌≡◌, ◌∙◌, ap, Some, subst, sym, true}
use Rattle.order_kinds.specs.declared.contract.Contract.{Contract}
use Rattle.order_kinds.specs.Contract.{is_known, part_number}
use Rattle.market_model.specs.Orders.{Placed}
use Rattle.desk_refusals.specs.Told.{contract_told, event_at}
use Rattle.desk_refusals.proofs.Books.{is_told}
use Rattle.desk_refusals.proofs.found.part_of.Goals as goal

pub contract_told-requires : goal.contract_told-requires
contract_told-requires c =
    let board = c.args.hour.now.board in
    record { some = (is_told board.grid board.hour board.events c.events.ensures.board.stands c.args.order c.requires.rests).tells.some }

pub unreachable-requires : goal.unreachable-requires
unreachable-requires c =
    let board = c.args.hour.now.board in
    let its = is_told board.grid board.hour board.events c.events.ensures.board.stands c.args.order c.requires.rests in
    let told = its.tells.contract in
    cc

pub number_of-requires : goal.number_of-requires
number_of-requires c =
    let board = c.args.hour.now.board in
    let its = is_told board.grid board.hour board.events c.events.ensures.board.stands c.args.order c.requires.rests in
    let both : Some c.in-Some.contract ≡ Some its.placed.order.contract =
    sym c.in-Some.is ∙ c.contract_told.ensures ∙ ap (λ es. contract_told (event_at es c.args.order.moment)) c.events.ensures.events ∙ its.tells.contract in
    let same : c.in-Some.contract ≡ its.placed.order.contract = cc in
    record { known = subst (λ (contract : Contract). is_known contract.part ≡ true) (sym same) its.known }

pub returns : goal.returns
returns c = λ placed found.
    let board = c.args.hour.now.board in
    let its = is_told board.grid board.hour board.events c.events.ensures.board.stands c.args.order c.requires.rests in
    let both : Some c.in-Some.contract ≡ Some its.placed.order.contract =
    sym c.in-Some.is ∙ c.contract_told.ensures ∙ ap (λ es. contract_told (event_at es c.args.order.moment)) c.events.ensures.events ∙ its.tells.contract in
    let same : c.in-Some.contract ≡ its.placed.order.contract = cc in
    let there = its.found in
    let one : its.placed ≡ placed = cc in
    c.number_of.ensures.number ∙ ap (λ (contract : Contract). part_number contract.part) (same ∙ ap (λ (p : Placed). p.order.contract) one)
