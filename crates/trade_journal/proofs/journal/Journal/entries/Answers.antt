use Rattle.std.proofs.Common.{◌≡◌, ◌≤◌, List, length, ap, sym, subst}
use Rattle.market_model.specs.declared.entry.Entry.{Entry}
use Rattle.trade_journal.specs.Journals.{JournalState, all_rooms}
use Rattle.trade_journal.proofs.Rooms.{entries-fit}
use Rattle.trade_journal.proofs.journal.Journal.entries.Goals as goal

pub returns-clause-most : goal.returns-clause-most
returns-clause-most c =
    let fit = entries-fit c.self.inside.setup c.self.inside.entries.items c.self.invariant.journal.callers c.self.invariant.journal.within in
    let setup = ap (λ (journal : JournalState). journal.setup) c.self.view_is in
    let inside = subst (λ (entries : List Entry). length entries ≤ all_rooms c.self.inside.setup) (sym c.as_slice.ensures.value) fit in
    subst (λ own. length c.as_slice.result.now ≤ all_rooms own) setup inside
