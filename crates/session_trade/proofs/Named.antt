-- A session's journal names what its setup has, whatever turns its callers took.
use Rattle.std.proofs.Common.{◌≡◌, All, List, None, sym, subst}
use Rattle.zone_graph.specs.Grid.{JoinsZones}
use Rattle.zone_graph.specs.GridFault.{grid_fault}
use Rattle.market_model.specs.declared.entry.Entry.{Entry}
use Rattle.market_model.specs.Grid.{graph_of}
use Rattle.market_model.specs.Naming.{IsEntryIn}
use Rattle.market_text.specs.declared.session.Session.{Session}
use Rattle.market_text.specs.Session.{IsSession}
use Rattle.session_journal.proofs.Graphs.{makes-graph}
use Rattle.session_journal.proofs.Named.{entries-name-the-setup}
use Rattle.session_journal.specs.Turns.{IsTraded, taking_turns}
use Rattle.session_journal.proofs.TakingTurns.{taking-turns}

pub traded-names : (session : Session) → IsSession session → JoinsZones (graph_of session.setup) → grid_fault (graph_of session.setup) ≡ None
    → (entries : List Entry) → IsTraded session entries → All (IsEntryIn session.setup) entries
traded-names session is joins sound entries traded =
    subst (All (IsEntryIn session.setup)) (sym traded.journal)
    (entries-name-the-setup (taking_turns session traded.turns) (taking-turns session is traded.turns traded.are) (makes-graph (graph_of session.setup) joins sound))
