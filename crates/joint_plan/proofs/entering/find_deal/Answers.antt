use Rattle.std.proofs.Common.{◌≡◌, ◌∙◌, ◌+◌, List, Option, Some, ap, length, subst, sym}
use Rattle.std.proofs.lemmas.Result.{IfOk-weaker}
use Rattle.zone_graph.specs.Graph.{HasZone}
use Rattle.zone_graph.specs.Rooms.{room_of}
use Rattle.zone_graph.specs.Route.{IsIn}
use Rattle.block_book.specs.declared.block.RestingBlock.{RestingBlock}
use Rattle.laws_of_books.specs.BlocksOf.{blocks_of, entered_resting_block}
use Rattle.block_match.specs.Deals.{deal_of_block}
use Rattle.market_model.specs.declared.event.Event.{Event}
use Rattle.market_model.specs.Orders.{next_name}
use Rattle.hour_desk.specs.Desk.{DeskState}
use Rattle.joint_plan.specs.Entering.{deal_within, entering_block}
use Rattle.joint_plan.proofs.entering.find_deal.Goals as goal

pub match_block-requires-clause-block : goal.match_block-requires-clause-block
match_block-requires-clause-block g c =
    subst (HasZone c.args.grid.now) (sym (ap (λ (b : RestingBlock). b.zone) (c.entered_block-block.ensures 0))) (c.requires.can c.desk-desk.result.now c.desk-desk.ensures).zone

pub match_block-requires-clause-zones : goal.match_block-requires-clause-zones
match_block-requires-clause-zones g c = λ block i.
    (c.requires.can c.desk-desk.result.now c.desk-desk.ensures).zones block (subst (IsIn block) c.blocks-2.ensures i)

-- one desk at one place
one : (a b : DeskState) (o : Option DeskState) → o ≡ Some a → o ≡ Some b → a ≡ b
one a b o here there = cc

pub returns : goal.returns
returns g c = λ desk at.
    let own = c.desk-desk.result.now in
    let same : own ≡ desk = one own desk _ c.desk-desk.ensures at in
    let block : c.entered_block-block.result ≡ entering_block own c.args.caller c.args.order.now =
    c.entered_block-block.ensures own.hour
    ∙ ap (λ n. entered_resting_block (record { hour = own.hour; number = n }) c.args.caller c.args.order.now (length c.settled.result.now + 1)) c.next_number-number.ensures
    ∙ ap (λ (es : List Event). entered_resting_block (next_name own.settled own.hour) c.args.caller c.args.order.now (length es + 1)) c.settled.ensures in
    let deal : deal_of_block c.args.grid.now (room_of c.args.rooms.now) c.blocks-2.result.now c.entered_block-block.result ≡ deal_within c.args.grid.now c.args.rooms.now c.args.caller c.args.order.now desk =
    ap (λ (book : List RestingBlock). deal_of_block c.args.grid.now (room_of c.args.rooms.now) book c.entered_block-block.result) c.blocks-2.ensures
    ∙ ap (deal_of_block c.args.grid.now (room_of c.args.rooms.now) (blocks_of own.settled own.hour)) block
    ∙ ap (λ (d : DeskState). deal_within c.args.grid.now c.args.rooms.now c.args.caller c.args.order.now d) same in
    IfOk-weaker c.match_block.result (λ found. found ≡ deal_of_block c.args.grid.now (room_of c.args.rooms.now) c.blocks-2.result.now c.entered_block-block.result)
    (λ found. found ≡ deal_within c.args.grid.now c.args.rooms.now c.args.caller c.args.order.now desk) (λ found told. told ∙ deal) c.match_block.ensures
