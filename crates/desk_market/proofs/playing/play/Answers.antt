use Rattle.std.proofs.Common.{◌≡◌, ◌∙◌, ◌<◌, ◌++◌, ◌∷◌, [], List, arith, get_or, length, refl, sym, ap, subst}
use Rattle.market_model.specs.declared.entry.Entry.{Entry}
use Rattle.market_model.specs.declared.setup.Setup.{Setup}
use Rattle.market_model.specs.History.{journal_events}
use Rattle.market_model.specs.Market.{entry_of}
use Rattle.market_model.specs.Sweep.{all_parts}
use Rattle.market_text.specs.Commands.{commands_of}
use Rattle.trade_journal.specs.Journals.{JournalState, made_by, room_of_caller}
use Rattle.session_journal.proofs.Journals.{IsPlayed, nothing-played}
use Rattle.desk_market.proofs.Waits.{all-waiting, command-is, one-more, one-waits, others-wait, room-left}
use Rattle.desk_market.proofs.playing.play.Goals as goal

pub loop-turn-init : goal.loop-turn-init
loop-turn-init c = record {
  setup = refl;
  played = subst (λ (entries : List Entry). IsPlayed c.args.market.now.setup c.args.waiting.now c.args.turns.now 0 entries (journal_events entries)) (sym c.requires.begins)
      (nothing-played c.args.market.now.setup c.args.waiting.now c.args.turns.now);
  waits = all-waiting c.args.waiting.now c.args.turns.now;
}

pub next-command-requires-clause-known : goal.next-command-requires-clause-known
next-command-requires-clause-known c =
    let known = c.requires.known c.loop-turn.turn-index 0 c.loop-turn-test.true in
    omega (arith, known, c.loop-turn.invariant.waits.matched, c.requires.matched)

pub next-command-requires-clause-some : goal.next-command-requires-clause-some
next-command-requires-clause-some c =
    let turns = c.args.turns.now in
    let i = c.loop-turn.turn-index in
    let known = c.requires.known i 0 c.loop-turn-test.true in
    one-waits c.args.waiting.now turns i c.loop-turn.waiting c.loop-turn.invariant.waits c.loop-turn-test.true
    (c.requires.counted (get_or turns i 0) (omega (arith, known, c.requires.matched)))

pub give-requires-clause-room : goal.give-requires-clause-room
give-requires-clause-room c =
    let turns = c.args.turns.now in
    let i = c.loop-turn.turn-index in
    let known = c.requires.known i 0 c.loop-turn-test.true in
    subst (λ (setup : Setup). made_by c.loop-turn.market.entries (get_or turns i 0) < room_of_caller setup (get_or turns i 0)) (sym c.loop-turn.invariant.setup)
    (room-left c.args.market.now.setup c.args.waiting.now turns i c.loop-turn.market.entries c.loop-turn.invariant.played c.loop-turn-test.true c.requires.rooms
    (c.requires.counted (get_or turns i 0) (omega (arith, known, c.requires.matched))))

pub loop-turn-preserved : goal.loop-turn-preserved
loop-turn-preserved c =
    let setup = c.args.market.now.setup in
    let commands = c.args.waiting.now in
    let turns = c.args.turns.now in
    let i = c.loop-turn.turn-index in
    let before = c.loop-turn.invariant in
    let entries = c.loop-turn.market.entries in
    let known = c.requires.known i 0 c.loop-turn-test.true in
    let taken = c.next-command.ensures.next in
    let are : c.give.new.self.entries ≡ entries ++ entry_of all_parts setup entries (record { caller = get_or turns i 0; command = c.next-command.result }) ∷ [] =
    ap (λ (market : JournalState). market.entries) c.in_ok-give.ensures.given
    ∙ ap (λ (s : Setup). entries ++ entry_of all_parts s entries (record { caller = get_or turns i 0; command = c.next-command.result }) ∷ []) before.setup in
    record {
      setup = ap (λ (market : JournalState). market.setup) c.in_ok-give.ensures.given ∙ before.setup;
      played = one-more setup commands turns i entries before.played c.loop-turn-test.true c.next-command.result (omega (arith, known, c.requires.matched))
          (command-is commands turns i c.loop-turn.waiting before.waits c.loop-turn-test.true c.next-command.result c.next-command.new.self taken)
          c.give.new.self.entries are;
      waits = others-wait commands turns i c.loop-turn.waiting before.waits c.loop-turn-test.true c.next-command.result c.next-command.new.self taken c.next-command.ensures.others;
    }
