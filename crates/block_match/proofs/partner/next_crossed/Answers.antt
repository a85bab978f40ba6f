use Rattle.std.proofs.Common.{◌≡◌, ◌∙◌, ap, subst}
use Rattle.std.specs.Option.{IfSome}
use Rattle.block_book.specs.Book.{after_in, quantity_line}
use Rattle.block_match.specs.Walking.{if_crossed}
use Rattle.block_match.proofs.Partners.{opposite-line}
use Rattle.block_match.proofs.partner.next_crossed.Goals as goal

pub returns : goal.returns
returns c =
    let book = c.args.book.now in
    let next : c.after-next.result ≡ after_in c.args.other.now.number (quantity_line book c.args.other.now.last c.args.other.now.quantity c.args.other.now.side) =
    subst (λ o. IfSome o (λ block. c.after-next.result ≡ after_in c.args.other.now.number (quantity_line book block.last block.quantity block.side))) c.requires.there c.after-next.ensures in
    c.if_crossed.ensures
    ∙ ap (if_crossed c.args.own.now) (next ∙ ap (after_in c.args.other.now.number) (opposite-line book c.args.own.now c.args.other.now c.requires.in_line))
