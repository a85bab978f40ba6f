use Rattle.std.proofs.Common.{◌∷◌, []}
use Rattle.std.specs.Prelude.{codes}
use Rattle.journal_print.specs.Json.{quote, row}
use Rattle.journal_print.proofs.Joined.{IsBegun, ended, next, next_behind}
use Rattle.journal_print.proofs.refusal.write_basket_unfilled.Goals as goal

pub returns : goal.returns
unfolding row
returns c =
    let name : IsBegun 91 c.args.out.now.items (quote (codes "BasketUnfilled") ∷ []) c.begin_row.new.out.items = record { text = c.in_ok-begin_row.ensures } in
    let hour = next _ _ name c.in_ok-write_next.ensures in
    let zones = next_behind [] _ _ _ hour c.in_ok-push.ensures.items c.in_ok-write_zones.ensures in
    ended 93 _ (next _ _ zones c.in_ok-write_next-2.ensures) c.in_ok-push-2.ensures.items
