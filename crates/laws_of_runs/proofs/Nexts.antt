-- Each entry of the journal of a session is the next one after those before it.
use Rattle.std.proofs.Common.{◌≡◌, ◌∙◌, ℕ, ◌+◌, ◌==◌, List, [], ◌∷◌, ◌++◌, append_assoc, count_by, Ok, Option, None, Some, refl, sym, ap, subst}
use Rattle.std.proofs.lemmas.List.{append-nil}
use Rattle.order_kinds.specs.declared.contract.Quarter.{Quarter}
use Rattle.zone_graph.specs.declared.route.Arc.{Arc}
use Rattle.market_model.specs.declared.command.Command.{Command}
use Rattle.market_model.specs.declared.command.Command.TheVariants as command
use Rattle.market_model.specs.declared.entry.Entry.{Entry}
use Rattle.market_model.specs.declared.event.Event.{Event}
use Rattle.market_model.specs.declared.refusal.Refusal.{Refusal}
use Rattle.market_model.specs.declared.reply.Reply.TheVariants as reply
use Rattle.market_model.specs.declared.reply.ViewRow.{ViewRow}
use Rattle.market_model.specs.declared.setup.Setup.{Setup}
use Rattle.market_model.specs.Grid.{graph_of}
use Rattle.market_model.specs.History.{events_of, journal_events}
use Rattle.market_model.specs.Market.{Turn, reply_let_in, entry_of, in_turn, refused_or, reply_by, reply_to, run_after}
use Rattle.market_model.specs.Refusals.{refusal_of_command}
use Rattle.market_model.specs.Sweep.{all_parts}
use Rattle.market_model.specs.View.{view}
use Rattle.market_model.specs.WellFormed.{IsHistory, IsMarketSetup}
use Rattle.laws_of_market.proofs.Journals.{journal_events-more, run-history}
use Rattle.laws_of_market.proofs.Replies.{reply-history}
use Rattle.laws_of_market.proofs.Told.{told-fits}
use Rattle.laws_of_market.proofs.Uses.{remaining-within, uses-remaining, within_offers}
use Rattle.laws_of_market.specs.UncrossedBook.{IsUncrossedBook}
use Rattle.laws_of_market.proofs.Commands.{reply-uncrossed}
use Rattle.laws_of_market.proofs.UncrossedReplies.{book_of_hours, hour_of_book}
use Rattle.market_text.specs.declared.session.Session.{Session}
use Rattle.market_text.specs.Session.{IsSession}
use Rattle.market_text.specs.Text.{session_of_text}
use Rattle.laws_of_texts.proofs.Grids.{sessions-make-grids}
use Rattle.laws_of_texts.proofs.Sessions.{texts-are-sessions}
use Rattle.session_journal.specs.Journal.{journal_of_session}
use Rattle.session_journal.proofs.Graphs.{makes-graph}
use Rattle.session_journal.proofs.Once.{each-command-once}
use Rattle.session_journal.specs.Turns.{taking_turns}
use Rattle.session_journal.proofs.TakingTurns.{taking-turns}
use Rattle.journal_audit.proofs.Journals.{lines-name}
use Rattle.laws_of_runs.specs.OneHistory.{IsNext, IsOneHistory, IsViewed, PrintedJournalsAreOneHistory, TradedJournalsAreOneHistory}

-- ---- views

-- a reply of rows is one to a view, with the market's rows
viewed : (setup : Setup) (events : List Event) (caller : ℕ) (given : Command) (rows : List ViewRow) → reply_to setup events caller given ≡ reply.Seen rows
    → IsViewed setup events given rows
unfolding reply_by
viewed setup events caller given rows is = by (refusal_of_command setup events caller given) is
  where
    seen : (other : Command) → reply_let_in all_parts setup events caller other ≡ reply.Seen rows → IsViewed setup events other rows
    seen (command.View contract side zone) e =
        record { contract = contract; side = side; zone = zone; asked = refl; are = let same : view (graph_of setup) events contract side zone ≡ rows = cc in sym same }
    seen _ e = cc

    by : (o : Option Refusal) → refused_or o (λ _. reply_let_in all_parts setup events caller given) ≡ reply.Seen rows → IsViewed setup events given rows
    by (Some broken) e = cc
    by None e = seen given e

-- ---- entries

module _ (setup : Setup) (is_setup : IsMarketSetup setup) where
  -- after some entries: a well-formed history, and nothing left to trade
  record IsSound (before : List Entry) : Type 0 where
    pub history : IsHistory setup (journal_events before)
    pub uncrossed : IsUncrossedBook (graph_of setup) (journal_events before)

  nothing-sound : IsSound []
  unfolding run_after
  nothing-sound = record { history = run-history setup is_setup all_parts []; uncrossed = λ buy sell buy_placed. absurd buy_placed }

  -- the market's reply leaves it so
  sound-next : (before : List Entry) → IsSound before → (entry : Entry) → entry.reply ≡ reply_to setup (journal_events before) entry.caller entry.command
      → IsSound (before ++ entry ∷ [])
  sound-next before sound entry answered =
      let events = journal_events before in
      let after : journal_events (before ++ entry ∷ []) ≡ events ++ events_of (reply_to setup events entry.caller entry.command) =
      journal_events-more before entry ∙ ap (λ r. events ++ events_of r) answered in
      record {
        history = subst (IsHistory setup) (sym after) (reply-history setup is_setup all_parts events entry.caller sound.history entry.command);
        uncrossed = subst (IsUncrossedBook (graph_of setup)) (sym after)
            (book_of_hours (graph_of setup) (events ++ events_of (reply_to setup events entry.caller entry.command))
            (λ hour. reply-uncrossed setup is_setup events entry.caller entry.command sound.history hour (hour_of_book (graph_of setup) events sound.uncrossed hour)));
      }

  -- so an entry with the market's reply and the caller's next number is the next one
  next-is : (before : List Entry) → IsSound before → (entry : Entry) → entry.nth ≡ count_by (λ other. other.caller == entry.caller) before + 1
      → entry.reply ≡ reply_to setup (journal_events before) entry.caller entry.command → IsNext setup before entry
  next-is before sound entry number answered =
      let events = journal_events before in
      let after = sound-next before sound entry answered in
      let capacity = λ (quarter : Quarter) (arc : Arc).
      remaining-within (journal_events (before ++ entry ∷ [])) (within_offers setup (journal_events (before ++ entry ∷ [])) after.history.fit) quarter arc in
      record {
        number = number;
        answered = answered;
        viewed = λ rows seen. viewed setup events entry.caller entry.command rows (sym answered ∙ seen);
        within = λ front back happened quarter arc has.
            let told = told-fits setup is_setup all_parts events entry.caller entry.command sound.history front back happened (ap events_of (sym answered) ∙ has) in
            uses-remaining setup (events ++ front) happened (within_offers setup (events ++ front) told.0) told.1 quarter arc;
        least = λ quarter arc. (capacity quarter arc).0;
        most = λ quarter arc. (capacity quarter arc).1;
        uncrossed = after.uncrossed;
      }

  -- each entry of a run is
  run-next : (turns : List Turn) (prior : List Entry) → IsSound prior → (before after : List Entry) (entry : Entry)
      → run_after all_parts setup prior turns ≡ before ++ entry ∷ after → IsNext setup (prior ++ before) entry
  unfolding run_after
  run-next [] prior sound [] after entry is = cc
  run-next [] prior sound (other ∷ before) after entry is = cc
  run-next (turn ∷ turns) prior sound [] after entry is =
      let made : Entry = entry_of all_parts setup prior turn in
      let same : made ≡ entry = cc in
      subst (λ (es : List Entry). IsNext setup es entry) (sym (append-nil prior))
      (subst (IsNext setup prior) same (next-is prior sound made refl refl))
  run-next (turn ∷ turns) prior sound (first ∷ before) after entry is =
      let made : Entry = entry_of all_parts setup prior turn in
      let head : made ≡ first = cc in
      let rest : run_after all_parts setup (prior ++ made ∷ []) turns ≡ before ++ entry ∷ after = cc in
      subst (λ es. IsNext setup es entry) (append_assoc prior (made ∷ []) before ∙ ap (λ e. prior ++ (e ∷ before)) head)
      (run-next turns (prior ++ made ∷ []) (sound-next prior sound made refl) before after entry rest)

-- ---- the journal of a session

session-history : (session : Session) → IsSession session → IsMarketSetup session.setup → IsOneHistory session (journal_of_session session)
session-history session is is_setup =
    let once = each-command-once session is in
    record {
      turns = once.0;
      once = once.1;
      next = λ before after entry has.
          run-next session.setup is_setup (in_turn session.commands session.turns) [] (nothing-sound session.setup is_setup) before after entry has;
    }

-- the setup of a session that is read
market-setup : (bytes : List ℕ) (session : Session) → session_of_text bytes ≡ Ok session → IsMarketSetup session.setup
market-setup bytes session read =
    let grid = sessions-make-grids bytes session read in
    makes-graph (graph_of session.setup) grid.0 grid.1

pub printed-journals : PrintedJournalsAreOneHistory
printed-journals bytes written is =
    let session = is.session in
    record {
      session = session;
      read = is.read;
      entries = journal_of_session session;
      history = session-history session (texts-are-sessions bytes session is.read) (market-setup bytes session is.read);
      text = is.text;
      named = sym ((lines-name bytes written).0 is);
    }

-- and with its callers in another order
pub traded-journals : TradedJournalsAreOneHistory
traded-journals bytes written is =
    let session = is.session in
    record {
      session = session;
      read = is.read;
      turns = is.turns;
      are = is.are;
      entries = journal_of_session (taking_turns session is.turns);
      history = session-history (taking_turns session is.turns) (taking-turns session (texts-are-sessions bytes session is.read) is.turns is.are)
          (market-setup bytes session is.read);
      text = is.text;
      named = sym ((lines-name bytes written).1 is);
    }
