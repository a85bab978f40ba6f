use Rattle.std.proofs.Common.{◌++◌, ◌∷◌, []}
use Rattle.std.specs.Prelude.{codes, decimal}
use Rattle.journal_print.specs.Json.{braces, quote}
use Rattle.journal_print.proofs.Joined.{IsBegun, ended, next_behind}
use Rattle.journal_print.proofs.line.write_seen.Goals as goal

pub returns : goal.returns
unfolding braces quote
returns c =
    let members = (codes "\"caller\":" ++ quote c.args.caller.now) ∷ (codes "\"command\":" ++ decimal c.args.nth) ∷ [] in
    let first : IsBegun 123 c.args.out.now.items members c.begin_line.new.out.items = record { text = c.in_ok-begin_line.ensures } in
    let third = next_behind (codes "\"entry\":") _ _ _ first c.in_ok-extend_from_slice.ensures.items c.in_ok-write_number.ensures in
    let last = next_behind (codes "\"rows\":") _ _ _ third c.in_ok-extend_from_slice-2.ensures.items c.in_ok-write_view.ensures in
    ended 125 _ last c.in_ok-push.ensures.items
