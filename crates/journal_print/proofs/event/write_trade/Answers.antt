use Rattle.std.proofs.Common.{◌∷◌, []}
use Rattle.journal_print.specs.Json.{quote, row}
use Rattle.journal_print.proofs.Joined.{IsBegun, ended, next, next_behind}
use Rattle.journal_print.proofs.event.write_trade.Goals as goal

pub returns : goal.returns
unfolding row
returns c =
    let kind : IsBegun 91 c.args.out.now.items (quote c.args.kind.now ∷ []) c.begin_row.new.out.items = record { text = c.in_ok-begin_row.ensures } in
    let taker = next _ _ kind c.in_ok-write_next.ensures in
    let maker = next _ _ taker c.in_ok-write_next-2.ensures in
    let lots = next _ _ maker c.in_ok-write_next-3.ensures in
    let price = next _ _ lots c.in_ok-write_next-4.ensures in
    let route = next_behind [] _ _ _ price c.in_ok-push.ensures.items (rw c.as_slice-route.ensures at c.in_ok-write_route.ensures) in
    ended 93 _ route c.in_ok-push-2.ensures.items
