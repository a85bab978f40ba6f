use Rattle.std.proofs.Common.{◌∙◌, Ok, drop, refl, sym, ap, subst}
use Rattle.zone_graph.specs.Graph.{Graph, HasZone}
use Rattle.market_model.specs.declared.reply.Reply.TheVariants as reply
use Rattle.market_model.specs.View.{view}
use Rattle.market_model.specs.LetIn.{IsLetIn}
use Rattle.laws_of_market.proofs.Admitting.{view-named}
use Rattle.laws_of_market.proofs.Answered.{done, refused_late, seen}
use Rattle.plain_market.proofs.replying.reply_to_let_in.Goals as goal

pub view-requires-clause-part : goal.view-requires-clause-part
view-requires-clause-part c =
    (view-named c.args.setup.now c.args.events.now c.args.caller c.in-View.contract c.in-View.side c.in-View.zone
    (subst (IsLetIn c.args.setup.now c.args.events.now c.args.caller) c.in-View.is c.requires.let_in)).0

pub view-requires-clause-zone : goal.view-requires-clause-zone
view-requires-clause-zone c =
    subst (λ (g : Graph). HasZone g c.in-View.zone) (sym c.requires.grid)
    (view-named c.args.setup.now c.args.events.now c.args.caller c.in-View.contract c.in-View.side c.in-View.zone
    (subst (IsLetIn c.args.setup.now c.args.events.now c.args.caller) c.in-View.is c.requires.let_in)).1

pub returns-in-View-clause-reply : goal.returns-in-View-clause-reply
returns-in-View-clause-reply c =
    ap reply.Seen (c.in_ok-rows.ensures.rows
    ∙ ap (λ g. view g c.args.events.now c.in-View.contract c.in-View.side c.in-View.zone) c.requires.grid)
    ∙ (seen c.args.setup.now c.args.events.now c.args.events.now c.args.caller c.args.command.now c.in-View.contract c.in-View.side c.in-View.zone
    c.in-View.is c.requires.let_in refl).reply

pub returns-in-View-clause-events : goal.returns-in-View-clause-events
returns-in-View-clause-events c =
    (seen c.args.setup.now c.args.events.now c.args.events.now c.args.caller c.args.command.now c.in-View.contract c.in-View.side c.in-View.zone
    c.in-View.is c.requires.let_in refl).history

pub returns-in-Some : goal.returns-in-Some
returns-in-Some c =
    let made = refused_late c.args.grid.now c.args.setup.now c.args.events.now c.carry_out.new.events c.args.caller c.args.command.now c.in-Some.refusal
    c.requires.grid c.requires.let_in
    (sym c.in-Some.is ∙ c.in_ok-refusal.ensures.refusal) (c.in_ok-refusal.ensures.kept c.in-Some.refusal (ap Ok c.in-Some.is)) in
    record { reply = made.reply; events = made.history; err = tt; summed = c.carry_out.ensures.summed }

pub returns-in_ok-events_from-in-None : goal.returns-in_ok-events_from-in-None
returns-in_ok-events_from-in-None c =
    let made = done c.args.grid.now c.args.setup.now c.args.events.now c.carry_out.new.events c.in_ok-events_from-in-None.field-0 c.args.caller c.args.command.now
    c.len-before.result c.requires.grid c.in_default.not-View c.requires.let_in
    (sym c.in-None.is ∙ c.in_ok-refusal.ensures.refusal) (c.in_ok-refusal.ensures.done (ap Ok c.in-None.is)) c.len-before.ensures
    (c.in_ok-events_from-in-None.ensures ∙ ap (drop c.len-before.result) c.as_slice.ensures) in
    record { reply = made.reply; events = made.history; err = tt; summed = c.carry_out.ensures.summed }
