use Rattle.std.proofs.Common.{◌∙◌, ℕ, ◌-◌, List, get_or, length, sym, ap, arith}
use Rattle.std.proofs.lemmas.List.FromFn.{get_or-map-range_with_len, length-map-range_with_len}
use Rattle.std.proofs.lemmas.Option.{get_or_from_slice_get}
use Rattle.market_model.specs.Grid.{graph_of}
use Rattle.trade_journal.specs.Journals.{JournalState}
use Rattle.basket_match.specs.Desk.{DeskState}
use Rattle.desk_market.specs.Standing.{settled_desk}
use Rattle.desk_market.proofs.market.DeskMarket.desk.Goals as goal

pub of_hour-requires-clause-last : goal.of_hour-requires-clause-last
of_hour-requires-clause-last c =
    let journal = c.self.inside.journal in
    let count = ap length c.self.invariant.stand ∙ length-map-range_with_len (settled_desk (graph_of journal.setup) journal.entries) 1 journal.setup.hours in
    let same = ap (λ (j : JournalState). j.setup.hours) c.self.view_is in
    let last = c.requires.last in
    omega (arith, count, same, last)

-- the desk at the hour's place
pub returns : goal.returns
returns c =
    let journal = c.self.inside.journal in
    let made : ℕ → DeskState = settled_desk (graph_of journal.setup) journal.entries in
    let desk = c.of_hour.result.now in
    let same = ap (λ (j : JournalState). j.setup.hours) c.self.view_is in
    let first = c.requires.first in
    let last = c.requires.last in
    sym (get_or_from_slice_get c.self.inside.desks.desks (c.args.hour - 1) desk desk c.of_hour.ensures)
    ∙ ap (λ (ds : List DeskState). get_or ds (c.args.hour - 1) desk) c.self.invariant.stand
    ∙ get_or-map-range_with_len made 1 journal.setup.hours (c.args.hour - 1) c.args.hour desk (omega (arith, same, first, last)) (omega (arith, first))
    ∙ ap (λ (j : JournalState). settled_desk (graph_of j.setup) j.entries c.args.hour) c.self.view_is
