use Rattle.std.proofs.Common.{map, sym}
use Rattle.command_lines.proofs.ItemLemmas.{item_more, no_item, no_items}
use Rattle.command_lines.proofs.commands.read_items.Goals as goal

pub loop-item-init : goal.loop-item-init
loop-item-init c = rw c.new-orders.ensures (no_items c.args.zones.now (map (λ word. word.now) c.args.words.now))

pub loop-item-preserved : goal.loop-item-preserved
loop-item-preserved c =
    rw c.in_ok-push-in-Some.ensures.ok
    (item_more c.loop-item.item c.args.zones.now (map (λ word. word.now) c.args.words.now) c.loop-item.orders c.in-Some.order c.loop-item.invariant (sym c.in-Some.ensures))

pub returns-in-None : goal.returns-in-None
returns-in-None c =
    record { is = no_item c.args.count c.loop-item.item c.args.zones.now (map (λ word. word.now) c.args.words.now) c.loop-item-test.true (sym c.in-None.ensures) }
