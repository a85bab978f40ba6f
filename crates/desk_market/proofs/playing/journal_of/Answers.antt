use Rattle.std.proofs.Common.{◌≡◌, ◌∙◌, All, List, ap, subst, sym}
use Rattle.market_model.specs.declared.command.Command.{Command}
use Rattle.market_model.specs.Grid.{graph_of}
use Rattle.market_model.specs.Market.{in_turn, run_of}
use Rattle.market_model.specs.Naming.{IsEntryIn}
use Rattle.trade_journal.specs.Journals.{JournalState}
use Rattle.session_journal.specs.Journal.{journal_of_session}
use Rattle.session_journal.proofs.Graphs.{makes-graph}
use Rattle.session_journal.proofs.Named.{entries-name-the-setup}
use Rattle.desk_market.proofs.playing.journal_of.Goals as goal

pub returns-clause-named : goal.returns-clause-named
returns-clause-named c =
    let session = c.args.session in
    let same : c.into_journal.result.entries ≡ journal_of_session session =
    ap (λ (journal : JournalState). journal.entries) c.into_journal.ensures
    ∙ c.in_ok-play.ensures.journal
    ∙ ap (λ (market : JournalState). run_of market.setup (in_turn c.in_ok-waiting.waiting c.as_slice.result.now)) c.in_ok-market.ensures
    ∙ ap (λ (waiting : List (List Command)). run_of session.setup (in_turn waiting c.as_slice.result.now)) c.in_ok-waiting.ensures
    ∙ ap (λ (turns : List _). run_of session.setup (in_turn session.commands turns)) c.as_slice.ensures in
    subst (All (IsEntryIn session.setup)) (sym same)
    (entries-name-the-setup session c.requires.session (makes-graph (graph_of session.setup) c.requires.joined c.requires.sound))
