use Rattle.std.proofs.Common.{◌≡◌, ◌∙◌, Ok, ap, drop, length, refl, subst, sym}
use Rattle.market_model.specs.declared.reply.Reply.{Reply}
use Rattle.market_model.specs.declared.reply.Reply.TheVariants as reply
use Rattle.market_model.specs.Market.{events_done}
use Rattle.market_model.specs.Sweep.{all_parts}
use Rattle.desk_changes.proofs.Planning.{if-ok, on-ok}
use Rattle.hour_desk.specs.Placed.{CanChange}
use Rattle.hour_desk.proofs.Planned.{IsAnswered, done-told, dropped-is, filling-refused, on-err, view-seen}
use Rattle.hour_desk.proofs.Seen.{view-part, view-rows, view-there}
use Rattle.hour_desk.proofs.replying.reply_let_in.Goals as goal

pub number_of-requires : goal.number_of-requires
number_of-requires c = record {
  known = view-part c.args.setup.now c.args.hour.now c.args.caller c.in-View.contract c.in-View.side c.in-View.zone
      (subst (CanChange c.args.setup.now c.args.hour.now c.args.caller) c.in-View.is c.requires.can);
}

pub rows-rows-requires-clause-zone : goal.rows-rows-requires-clause-zone
rows-rows-requires-clause-zone c =
    view-there c.args.setup.now c.args.hour.now c.args.caller c.in-View.contract c.in-View.side c.in-View.zone
    (subst (CanChange c.args.setup.now c.args.hour.now c.args.caller) c.in-View.is c.requires.can) c.args.views.now c.requires.stands

pub returns-in-View-clause-planned : goal.returns-in-View-clause-planned
returns-in-View-clause-planned c =
    (view-seen c.args.setup.now c.args.hour.now c.args.caller c.args.command.now c.in-View.contract c.in-View.side c.in-View.zone c.requires.can c.in-View.is).planned

pub returns-in-View-clause-reply : goal.returns-in-View-clause-reply
returns-in-View-clause-reply c =
    ap reply.Seen (c.in_ok-rows_of.ensures ∙ view-rows c.args.setup.now c.args.hour.now c.args.caller c.in-View.contract c.in-View.side c.in-View.zone
    (subst (CanChange c.args.setup.now c.args.hour.now c.args.caller) c.in-View.is c.requires.can) c.args.views.now c.requires.stands c.number_of.result c.rows-rows.result.now c.number_of.ensures.few c.number_of.ensures.number c.rows-rows.ensures)
    ∙ (view-seen c.args.setup.now c.args.hour.now c.args.caller c.args.command.now c.in-View.contract c.in-View.side c.in-View.zone c.requires.can c.in-View.is).reply

pub returns-in-Some : goal.returns-in-Some
returns-in-Some c =
    let made = filling-refused c.args.setup.now c.args.hour.now c.args.caller c.args.command.now c.args.grid.now c.in-Some.refusal c.requires.can c.requires.grid
    (sym c.in-Some.is ∙ c.in_ok-refusal.ensures.refusal) in
    record { reply = made.reply; planned = c.in_ok-refusal.ensures.refused c.in-Some.refusal (ap Ok c.in-Some.is) ∙ made.planned; unplanned = tt }

pub returns-in-None : goal.returns-in-None
returns-in-None c =
    let planned = c.in_ok-refusal.ensures.done (ap Ok c.in-None.is) in
    let none = sym c.in-None.is ∙ c.in_ok-refusal.ensures.refusal in
    let tells : (made : Reply) → made ≡ reply.Done (drop (length c.change.new.hour.settled) c.change.new.hour.board.events)
    → IsAnswered c.args.setup.now c.args.hour.now c.change.new.hour c.args.caller c.args.command.now made =
    λ made is. done-told c.args.setup.now c.args.hour.now c.change.new.hour c.args.caller c.args.command.now c.args.grid.now made c.requires.can c.requires.grid
    c.in_default.not-View none planned is in
    record {
      reply = if-ok c.done.result _ _ (λ made is. (tells made is).reply) c.done.ensures.told;
      planned = on-ok c.done.result _ _ (λ kept. kept ∙ (tells (reply.Done (drop (length c.change.new.hour.settled) c.change.new.hour.board.events)) refl).planned) c.done.ensures.kept;
      unplanned = on-err c.done.result _ _ (λ dropped. dropped ∙ dropped-is c.args.hour.now c.change.new.hour
          (events_done all_parts c.args.setup.now c.args.hour.now.settled c.args.caller c.args.command.now) c.requires.can.placed.unplanned planned) c.done.ensures.dropped;
    }
