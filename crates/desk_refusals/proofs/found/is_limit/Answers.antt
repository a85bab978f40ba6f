use Rattle.std.proofs.Common.{◌≡◌, ◌∙◌, ap}
use Rattle.order_kinds.specs.Order.{is_limit}
use Rattle.market_model.specs.Orders.{Placed}
use Rattle.desk_refusals.specs.Told.{enters_limit, event_at}
use Rattle.desk_refusals.proofs.Books.{is_told}
use Rattle.desk_refusals.proofs.found.is_limit.Goals as goal

pub enters_limit-requires : goal.enters_limit-requires
enters_limit-requires c =
    let board = c.args.hour.now.board in
    record { some = (is_told board.grid board.hour board.events c.events.ensures.board.stands c.args.order c.requires.rests).tells.some }

pub returns : goal.returns
returns c = λ placed found.
    let board = c.args.hour.now.board in
    let its = is_told board.grid board.hour board.events c.events.ensures.board.stands c.args.order c.requires.rests in
    let there = its.found in
    let same : its.placed ≡ placed = cc in
    c.enters_limit.ensures ∙ ap (λ es. enters_limit (event_at es c.args.order.moment)) c.events.ensures.events ∙ its.tells.limit
    ∙ ap (λ (p : Placed). is_limit p.order.kind) same
