use Rattle.std.proofs.Common.{◌≡◌, ◌∙◌, ◌+◌, ◌*◌, ◌<◌, ◌≤◌, ◌++◌, [], List, ℕ, arith, length, refl, slice_index_or, Some, All, sym, ap, subst, cond}
use Rattle.std.proofs.lemmas.List.{length-replicate, length-set}
use Rattle.std.proofs.lemmas.List.Elements.{All-push}
use Rattle.std.proofs.lemmas.List.Sums.{sum_by-append}
use Rattle.zone_graph.specs.Graph.{IsGraph}
use Rattle.market_model.specs.declared.entry.Entry.{Entry}
use Rattle.market_model.specs.declared.event.Event.{Event}
use Rattle.market_model.specs.History.{enters, entered_count, events_of}
use Rattle.market_model.specs.Market.{reply_to}
use Rattle.market_model.specs.Naming.{IsEntryIn, IsReplyIn}
use Rattle.plain_orders.specs.DaySums.{AreDaySums}
use Rattle.plain_orders.proofs.Kept.{day_sums-none}
use Rattle.session_journal.proofs.Journals.{IsNextEntry, IsPlayed, nothing-played, played-history, played-more}
use Rattle.laws_of_market.proofs.ReplyEntries.{reply-enters-few}
use Rattle.laws_of_market.proofs.ReplyNames.{reply-names}
use Rattle.session_journal.proofs.Turns.{CountsTurns, CountsTurns-more, CountsTurns-none, turn_left}
use Rattle.engine_comparison.proofs.journal.play.Goals as goal

pub loop-turn-init : goal.loop-turn-init
loop-turn-init c =
    let setup = c.args.setup.now in
    let commands = c.args.commands.now in
    let turns = c.args.turns.now in
    record {
      matched = ap length c.in_ok-given.ensures ∙ length-replicate (length commands) 0;
      counted = subst (λ given. CountsTurns given turns 0) (sym c.in_ok-given.ensures) (CountsTurns-none (length commands) turns);
      played = subst (λ entries. IsPlayed setup commands turns 0 entries c.in_ok-history.history) (sym c.new-entries.ensures)
          (subst (λ history. IsPlayed setup commands turns 0 [] history) (sym c.in_ok-history.ensures) (nothing-played setup commands turns));
      few = subst (λ history. entered_count history ≤ 0) (sym c.in_ok-history.ensures) (omega arith);
      named = subst (λ entries. All (IsEntryIn setup) entries) (sym c.new-entries.ensures) (λ k d h. absurd (omega (arith, h)));
      summed = subst (AreDaySums c.in_ok-history.history) (sym c.in_ok-sums.ensures) (day_sums-none c.in_ok-history.history);
    }

-- whose turn it is has a command left
pub command_at-command-requires-clause-given : goal.command_at-command-requires-clause-given
command_at-command-requires-clause-given c =
    let turns = c.args.turns.now in
    let i = c.loop-turn.turn-index in
    let known : slice_index_or turns i 0 < length c.args.setup.now.callers = c.requires.known i 0 c.loop-turn-test.true in
    let left = turn_left c.loop-turn.given turns i c.loop-turn.invariant.counted c.loop-turn-test.true in
    let total = c.requires.counted (slice_index_or turns i 0) (omega (arith, known)) in
    omega (arith, left, total, c.count-place.ensures.before)

-- the history is that of a journal
pub reply_and_append-requires-clause-history : goal.reply_and_append-requires-clause-history
reply_and_append-requires-clause-history c =
    played-history c.args.setup.now (subst IsGraph c.requires.grid c.zones-zones.ensures.grid.is_graph) c.args.commands.now c.args.turns.now c.loop-turn.turn-index
    c.loop-turn.entries c.loop-turn.history c.loop-turn.invariant.played

pub loop-turn-preserved : goal.loop-turn-preserved
loop-turn-preserved c =
    let setup = c.args.setup.now in
    let turns = c.args.turns.now in
    let i = c.loop-turn.turn-index in
    let before = c.loop-turn.invariant in
    let turn : ℕ = slice_index_or turns i 0 in
    let known : turn < length c.args.setup.now.callers = c.requires.known i 0 c.loop-turn-test.true in
    let given : turn < length c.loop-turn.given = omega (arith, known) in
    let commands : turn < length c.args.commands.now = omega (arith, known) in
    let entry : Entry = record { caller = turn; nth = c.count-place.result + 1; command = c.in_ok-copy.field-0; reply = c.in_ok-reply.reply } in
    let reply : c.in_ok-reply.reply ≡ reply_to setup c.loop-turn.history turn c.in_ok-copy.field-0 =
    c.in_ok-reply.ensures.reply ∙ ap (reply_to setup c.loop-turn.history turn) (sym c.in_ok-copy.ensures) in
    let next : IsNextEntry setup c.args.commands.now turns i c.loop-turn.history entry = record {
      caller = refl;
      place = c.count-place.result;
      number = refl;
      counted = c.count-place.ensures.before ∙ before.counted.each turn;
      known = commands;
      command = c.command_at-command.ensures.command ∙ ap Some (sym c.in_ok-copy.ensures);
      reply = reply;
    } in
    let grew : c.reply_and_append.new.events ≡ c.loop-turn.history ++ events_of (reply_to setup c.loop-turn.history turn c.in_ok-copy.field-0) =
    c.in_ok-reply.ensures.events ∙ ap (λ command. c.loop-turn.history ++ events_of (reply_to setup c.loop-turn.history turn command)) (sym c.in_ok-copy.ensures) in
    let played = played-more setup c.args.commands.now turns i c.loop-turn.entries c.loop-turn.history c.reply_and_append.new.events entry before.played c.loop-turn-test.true next grew in
    let events : List Event = events_of (reply_to setup c.loop-turn.history turn c.in_ok-copy.field-0) in
    let counts : entered_count (c.loop-turn.history ++ events) ≡ entered_count c.loop-turn.history + entered_count events =
    sum_by-append (λ happened. cond (enters happened) 1 0) c.loop-turn.history events in
    let most : entered_count events ≤ 8 = reply-enters-few setup c.loop-turn.history turn c.in_ok-copy.field-0 in
    record {
      matched = rw c.count-place.ensures.after (length-set _ _ _ ∙ before.matched);
      counted = rw c.count-place.ensures.after (CountsTurns-more c.loop-turn.given turns i before.counted c.loop-turn-test.true given);
      played = subst (λ entries. IsPlayed setup c.args.commands.now turns (i + 1) entries c.reply_and_append.new.events) (sym c.in_ok-push.ensures.ok) played;
      few = subst (λ after. entered_count after ≤ 8 * (i + 1)) (sym grew) (omega (arith, counts, most, before.few));
      named = subst (λ entries. All (IsEntryIn setup) entries) (sym c.in_ok-push.ensures.ok)
          (All-push (IsEntryIn setup) c.loop-turn.entries entry before.named (record {
            caller = known;
            reply = subst (IsReplyIn setup) (sym reply) (reply-names setup c.loop-turn.history turn c.in_ok-copy.field-0
                (subst IsGraph c.requires.grid c.zones-zones.ensures.grid.is_graph)
                (played-history setup (subst IsGraph c.requires.grid c.zones-zones.ensures.grid.is_graph) c.args.commands.now turns i c.loop-turn.entries c.loop-turn.history before.played));
          }));
      summed = c.reply_and_append.ensures.summed;
    }
