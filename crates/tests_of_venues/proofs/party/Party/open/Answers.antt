use Rattle.std.proofs.Common.{List, sym, subst}
use Rattle.trader_pass.specs.Passes.{PassState}
use Rattle.venue_core.specs.Venues.{AreAllOf}
use Rattle.tests_of_venues.proofs.Passes.{opened-all}
use Rattle.tests_of_venues.proofs.party.Party.open.Goals as goal

pub invariant_of-result : goal.invariant_of-result
invariant_of-result c = record {
  all = subst (λ (ps : List PassState). AreAllOf c.in_ok-venue.venue ps) (sym c.into_vec.ensures) (opened-all c.in_ok-venue.venue c.args.setup c.in_ok-venue.passes c.in_ok-venue.ensures.opened);
}
