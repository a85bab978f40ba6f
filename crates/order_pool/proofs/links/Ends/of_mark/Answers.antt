use Rattle.std.proofs.Common.{◌<◌, sym, ◌∙◌, length, arith}
use Rattle.std.proofs.lemmas.Grind.{get_or_default_zero}
use Rattle.order_pool.proofs.RowLemmas.{padded_stored, padded_behind, length-links, link_of_mark}
use Rattle.order_pool.proofs.links.Ends.of_mark.Goals as goal

pub overflow_add-result : goal.overflow_add-result
overflow_add-result c =
    let p = c.self.inside in
    omega (arith, c.requires, length-links p.places.items p.marks.items c.args.self.now p.places.room p.marks.room c.self.invariant.0 c.self.invariant.1 c.self.invariant.2 c.self.view_is, c.self.invariant.3)

pub returns-then-mark-len : goal.returns-then-mark-len
returns-then-mark-len c =
    let p = c.self.inside in
    let stored : c.args.mark < length p.marks.items = omega (arith, c.if-mark-len.true, c.len.ensures.len) in
    c.get.ensures
    ∙ get_or_default_zero p.marks.items c.args.mark c.get.result.now stored
    ∙ sym (padded_stored p.marks.items 4096 p.marks.room c.args.mark stored)
    ∙ sym (link_of_mark p.places.items p.marks.items c.args.self.now p.places.room p.marks.room c.self.invariant.0 c.self.invariant.1 c.self.invariant.2 c.self.view_is c.args.mark)

pub returns-else-mark-len : goal.returns-else-mark-len
returns-else-mark-len c =
    let p = c.self.inside in
    let within : c.args.mark < p.marks.room = omega (arith, c.requires, length-links p.places.items p.marks.items c.args.self.now p.places.room p.marks.room c.self.invariant.0 c.self.invariant.1 c.self.invariant.2 c.self.view_is) in
    sym (padded_behind p.marks.items 4096 p.marks.room c.args.mark (omega (arith, c.if-mark-len.false, c.len.ensures.len)) within)
    ∙ sym (link_of_mark p.places.items p.marks.items c.args.self.now p.places.room p.marks.room c.self.invariant.0 c.self.invariant.1 c.self.invariant.2 c.self.view_is c.args.mark)
