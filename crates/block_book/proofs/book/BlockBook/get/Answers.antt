use Rattle.std.proofs.Common.{◌≡◌, ◌∙◌, ap, sym}
use Rattle.block_book.specs.Blocks.{number_of}
use Rattle.block_book.proofs.Told.{told-block, told-none}
use Rattle.block_book.proofs.book.BlockBook.get.Goals as goal

pub returns-in_err-place : goal.returns-in_err-place
returns-in_err-place c = c.from_residual.ensures ∙ sym (told-none c.self.inside.blocks c.self.invariant.keyed c.args.self.now c.self.view_is c.args.number c.in_err-place.ensures)

pub returns : goal.returns
returns c =
    let found = c.in_ok-place.ensures in
    let number : number_of c.get.result.now ≡ c.args.number = (let a = c.get.ensures in let b = found.1 in let same : c.get.result.now ≡ found.0 = cc in ap number_of same ∙ found.2) in
    sym (told-block c.self.inside.blocks c.self.invariant.keyed c.args.self.now c.self.view_is c.in_ok-place.place c.args.number c.get.result.now c.get.ensures number)
