use Rattle.std.proofs.Common.{sym, ◌∙◌}
use Rattle.std.proofs.lemmas.Grind.{get_or_default_zero}
use Rattle.order_pool.proofs.RowLemmas.{padded_stored, link_of_place, place_stored}
use Rattle.order_pool.proofs.links.Ends.of_place.Goals as goal

pub get-requires : goal.get-requires
get-requires c =
    let p = c.self.inside in
    place_stored p.places.items p.marks.items c.args.self.now p.places.room p.marks.room c.self.invariant.0 c.self.invariant.1 c.self.invariant.2 c.self.view_is c.args.place c.requires.within c.requires.apart

pub returns : goal.returns
returns c =
    let p = c.self.inside in
    let stored = place_stored p.places.items p.marks.items c.args.self.now p.places.room p.marks.room c.self.invariant.0 c.self.invariant.1 c.self.invariant.2 c.self.view_is c.args.place c.requires.within c.requires.apart in
    c.get.ensures
    ∙ get_or_default_zero p.places.items c.args.place c.get.result.now stored
    ∙ sym (padded_stored p.places.items 0 p.places.room c.args.place stored)
    ∙ sym (link_of_place p.places.items p.marks.items c.args.self.now p.places.room p.marks.room c.self.invariant.0 c.self.invariant.1 c.self.invariant.2 c.self.view_is c.args.place c.requires.within)
