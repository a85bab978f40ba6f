use Rattle.std.proofs.Common.{◌∙◌, ap}
use Rattle.block_book.specs.Book.{without}
use Rattle.hour_store.specs.Contents.{Contents}
use Rattle.hour_store.proofs.Noting.{notes-then}
use Rattle.kept_hour.proofs.BoardCalls.{leads-through}
use Rattle.kept_hour.proofs.FlowCalls.{withdrawn-kept}
use Rattle.kept_hour.proofs.hour.KeptHour.withdraw.Goals as goal

pub invariant_of-self-2 : goal.invariant_of-self-2
invariant_of-self-2 c =
    withdrawn-kept c.self.inside.grid.value c.self.inside.hour c.self.inside.events c.self.inside.settled c.self.inside.hand c.self.inside.numbers c.self.inside.settled_numbers c.self.inside.store c.self.invariant c.args.self.now c.self.view_is c.requires.free c.reserve.new.self c.reserve.ensures.contents c.reserve.ensures.changes
    c.push.new.self c.withdraw_block.new.self (leads-through c.reserve.new.self c.withdraw.new.self c.withdraw_block.new.self c.withdraw.ensures.back c.withdraw_block.ensures.back)
    c.args.number c.args.lots c.requires.next c.in_ok-push.ensures.ok
    (ap (λ (k : Contents). k.book) c.withdraw_block.ensures.without ∙ ap (λ (k : Contents). k.book) c.withdraw.ensures.without)
    (ap (λ (k : Contents). k.blocks) c.withdraw_block.ensures.without ∙ ap (λ (k : Contents). without k.blocks c.args.number) c.withdraw.ensures.without)
    (ap (λ (k : Contents). k.flows) c.withdraw_block.ensures.without ∙ ap (λ (k : Contents). k.flows) c.withdraw.ensures.without)
    c.args.part c.requires.part (
      notes-then _ c.reserve.new.self.changes c.withdraw.new.self.changes c.withdraw_block.new.self.changes c.withdraw.ensures.noted c.withdraw_block.ensures.noted,
      c.withdraw_block.ensures.no_flow ∙ c.withdraw.ensures.no_flow,
    )
