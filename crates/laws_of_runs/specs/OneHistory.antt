-- A printed journal is one single-thread history of the market.
use Rattle.std.specs.Prelude.{◌≡◌, ℕ, ◌+◌, ◌==◌, List, [], ◌∷◌, ◌++◌, Ok, count_by, map, pos, ◌≤ℤ◌}
use Rattle.order_kinds.specs.declared.contract.Contract.{Contract}
use Rattle.order_kinds.specs.declared.contract.Quarter.{Quarter}
use Rattle.order_kinds.specs.declared.side.Side.{Side}
use Rattle.zone_graph.specs.declared.route.Arc.{Arc}
use Rattle.quarter_capacity.specs.Capacity.{most_remaining}
use Rattle.market_model.specs.declared.command.Command.{Command}
use Rattle.market_model.specs.declared.command.Command.TheVariants as command
use Rattle.market_model.specs.declared.entry.Entry.{Entry}
use Rattle.market_model.specs.declared.event.Event.{Event}
use Rattle.market_model.specs.declared.reply.Reply.TheVariants as reply
use Rattle.market_model.specs.declared.reply.ViewRow.{ViewRow}
use Rattle.market_model.specs.declared.setup.Setup.{Setup}
use Rattle.market_model.specs.Capacity.{allocated_by, remaining}
use Rattle.market_model.specs.Grid.{graph_of}
use Rattle.market_model.specs.History.{events_of, journal_events}
use Rattle.market_model.specs.Market.{reply_to}
use Rattle.market_model.specs.View.{view}
use Rattle.laws_of_market.specs.UncrossedBook.{IsUncrossedBook}
use Rattle.market_text.specs.declared.session.Session.{Session}
use Rattle.market_text.specs.Commands.{commands_of}
use Rattle.market_text.specs.Text.{session_of_text}
use Rattle.session_io.specs.JournalText.{journal_text}
use Rattle.session_journal.specs.Laws.{commands_in}
use Rattle.session_journal.specs.Turns.{AreTurnsOf, taking_turns}
use Rattle.journal_audit.specs.Journal.{IsJournalOf, IsTradedJournalOf}
use Rattle.journal_audit.specs.Lines.{callers_named, journal_lines}

-- the command asks for a view, and these are the market's rows of it after some events
pub record IsViewed (setup : Setup) (events : List Event) (given : Command) (rows : List ViewRow) : Type 0 where
  pub contract : Contract
  pub side : Side
  pub zone : ℕ
  pub asked : given ≡ command.View contract side zone
  pub are : rows ≡ view (graph_of setup) events contract side zone

-- an entry is the next one after others: its number, the market's reply, the rows of a view; it uses no more than remains,
-- leaves something from nothing to 200000.0 MW everywhere, and nothing to trade
pub record IsNext (setup : Setup) (before : List Entry) (entry : Entry) : Type 0 where
  pub number : entry.nth ≡ count_by (λ other. other.caller == entry.caller) before + 1
  pub answered : entry.reply ≡ reply_to setup (journal_events before) entry.caller entry.command
  pub viewed : (rows : List ViewRow) → entry.reply ≡ reply.Seen rows → IsViewed setup (journal_events before) entry.command rows
  pub within : (front back : List Event) (happened : Event) (quarter : Quarter) (arc : Arc) → events_of entry.reply ≡ front ++ happened ∷ back
      → pos (allocated_by quarter arc happened) ≤ℤ remaining (journal_events before ++ front) quarter arc
  pub least : (quarter : Quarter) (arc : Arc) → pos 0 ≤ℤ remaining (journal_events (before ++ entry ∷ [])) quarter arc
  pub most : (quarter : Quarter) (arc : Arc) → remaining (journal_events (before ++ entry ∷ [])) quarter arc ≤ℤ pos most_remaining
  pub uncrossed : IsUncrossedBook (graph_of setup) (journal_events (before ++ entry ∷ []))

-- entries are one history of a session: each caller's commands once and in order, each entry the next one
pub record IsOneHistory (session : Session) (entries : List Entry) : Type 0 where
  pub turns : map (λ entry. entry.caller) entries ≡ session.turns
  pub once : (caller : ℕ) → commands_in caller entries ≡ commands_of session.commands caller
  pub next : (before after : List Entry) (entry : Entry) → entries ≡ before ++ entry ∷ after → IsNext session.setup before entry

-- bytes are a session, and a text is that of one history of it, whose lines name the session's turns
pub record IsTextOfOneHistory (bytes written : List ℕ) : Type 0 where
  pub session : Session
  pub read : session_of_text bytes ≡ Ok session
  pub entries : List Entry
  pub history : IsOneHistory session entries
  pub text : written ≡ journal_text session.setup entries
  pub named : session.turns ≡ callers_named session.setup (journal_lines written)

-- bytes are a session, and a text is that of one history of it with its callers in the order of some turns, which name
-- each caller as often as it has commands, and are the callers that the lines of the text name
pub record IsTextOfOneTradedHistory (bytes written : List ℕ) : Type 0 where
  pub session : Session
  pub read : session_of_text bytes ≡ Ok session
  pub turns : List ℕ
  pub are : AreTurnsOf session turns
  pub entries : List Entry
  pub history : IsOneHistory (taking_turns session turns) entries
  pub text : written ≡ journal_text session.setup entries
  pub named : turns ≡ callers_named session.setup (journal_lines written)

-- where bytes are a session and a text is that of its journal, the text is that of one history of it
abbrev pub PrintedJournalsAreOneHistory : Type 0
PrintedJournalsAreOneHistory = (bytes written : List ℕ) → IsJournalOf bytes written → IsTextOfOneHistory bytes written

-- and so it is where its callers came in any order
abbrev pub TradedJournalsAreOneHistory : Type 0
TradedJournalsAreOneHistory = (bytes written : List ℕ) → IsTradedJournalOf bytes written → IsTextOfOneTradedHistory bytes written
