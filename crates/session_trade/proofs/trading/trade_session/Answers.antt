use Rattle.std.proofs.Common.{◌≡◌, ◌∙◌, List, sym, subst}
use Rattle.zone_graph.specs.Route.{IsIn}
use Rattle.market_model.specs.declared.setup.Setup.{Setup}
use Rattle.trade_journal.specs.Journals.{IsJournal}
use Rattle.trader_pass.specs.Passes.{PassState}
use Rattle.venue_core.specs.Venues.{AreAllOf, EndsWith}
use Rattle.session_journal.specs.Turns.{IsTraded}
use Rattle.session_trade.proofs.Named.{traded-names}
use Rattle.session_trade.proofs.Passes.{all-may, come-back, gave-many, has-commands, lent-back}
use Rattle.session_trade.proofs.Rooms.{rooms-few}
use Rattle.session_trade.proofs.Turns.{traded-is}
use Rattle.session_trade.proofs.trading.trade_session.Goals as goal

pub open-requires-clause-venue : goal.open-requires-clause-venue
open-requires-clause-venue g c = record {
  least_hours = c.requires.session.least_hours;
  most_hours = c.requires.session.most_hours;
  few_callers = c.requires.session.few_callers;
  few_entries = rooms-few c.args.session c.requires.session;
  joins_zones = c.requires.joined;
}

pub work_of_all-requires-after_bounds : goal.work_of_all-requires-after_bounds
work_of_all-requires-after_bounds g c κs within =
    all-may c.args.session c.requires.session c.in_ok-venue.venue c.in_ok-venue.passes c.in_ok-venue.ensures
    c.as_slice.result.now c.as_slice.ensures c.as_mut_slice.result.now (c.as_mut_slice.ensures.value ∙ c.into_vec-passes.ensures)

-- the passes as they come back
pub close-requires : goal.close-requires
close-requires g c =
    let gave = c.in_ok-work_of_all.ensures in
    let many = gave-many c.as_slice.result.now c.as_mut_slice.result.now c.work_of_all.new.passes gave in
    let back : c.from.result ≡ c.work_of_all.new.passes =
    lent-back c.into_vec-passes.result.len c.work_of_all.new.passes _ c.from.result (sym c.as_mut_slice.ensures.len ∙ many) c.from.ensures in
    subst (AreAllOf c.in_ok-venue.venue) (sym back)
    (come-back c.args.session c.requires.session c.in_ok-venue.venue c.in_ok-venue.passes c.in_ok-venue.ensures
    c.as_slice.result.now c.as_slice.ensures c.as_mut_slice.result.now (c.as_mut_slice.ensures.value ∙ c.into_vec-passes.ensures) c.work_of_all.new.passes gave)

-- the journal is legal, and has each caller's commands in order
traded : (g : _) (c : goal.After-drop-session-2 g) → IsTraded c.args.session c.close.result.entries
traded g c =
    let gave = c.in_ok-work_of_all.ensures in
    let many = gave-many c.as_slice.result.now c.as_mut_slice.result.now c.work_of_all.new.passes gave in
    let back : c.from.result ≡ c.work_of_all.new.passes =
    lent-back c.into_vec-passes.result.len c.work_of_all.new.passes _ c.from.result (sym c.as_mut_slice.ensures.len ∙ many) c.from.ensures in
    let entries = c.close.result.entries in
    let setup : c.close.result.setup ≡ c.args.session.setup = c.close.ensures.setup ∙ c.in_ok-venue.ensures.same_setup in
    traded-is c.args.session c.requires.session entries
    (subst (λ (s : Setup). IsJournal (record { setup = s; entries = entries })) setup c.close.ensures.legal)
    (has-commands c.args.session c.requires.session c.in_ok-venue.venue c.in_ok-venue.passes c.in_ok-venue.ensures
    c.as_slice.result.now c.as_slice.ensures c.as_mut_slice.result.now (c.as_mut_slice.ensures.value ∙ c.into_vec-passes.ensures) c.work_of_all.new.passes gave
    entries (subst (λ (ps : List PassState). (pass : PassState) → IsIn pass ps → EndsWith entries pass) back c.close.ensures.passes))

pub returns-clause-journal : goal.returns-clause-journal
returns-clause-journal g c = traded g c

pub returns-clause-named : goal.returns-clause-named
returns-clause-named g c = traded-names c.args.session c.requires.session c.requires.joined c.requires.sound c.close.result.entries (traded g c)
