use Rattle.std.proofs.Common.{refl}
use Rattle.desk_market.proofs.Places.{lent-day, lent-desk}
use Rattle.desk_market.proofs.day.DayDesksDesks.desk_mut.Goals as goal

-- what is written to the desk is put in at its place
pub returns : goal.returns
returns c = (
  (
    refl {a = c.index_mut.result.ghost_name},
    λ w. lent-day c.self.inside.desks.items c.self.inside.chosen c.args.self.now c.self.view_is c.args.i w c.place_of-place.result c.requires c.place_of-place.ensures.place,
  ),
  record {
    writes_back = tt;
    value = lent-desk c.self.inside.desks.items c.self.inside.chosen c.args.self.now c.self.view_is c.args.i c.place_of-place.result c.index_mut.result.now
        c.place_of-place.ensures.desk c.place_of-place.ensures.within c.index_mut.ensures.value;
  },
)
