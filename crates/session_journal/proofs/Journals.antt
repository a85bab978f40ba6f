-- A journal that grows by one turn after the other.
use Rattle.std.proofs.Common.{◌≡◌, ◌∙◌, ℕ, ◌+◌, ◌<◌, ◌==◌, cond, List, [], ◌∷◌, ◌++◌, append_assoc, count_by, get_or, length, map, nat_eq, slice_get, take, Some, refl, sym, ap, subst}
use Rattle.std.specs.List.{filter_map}
use Rattle.std.specs.Option.{option_and_then, option_map}
use Rattle.std.proofs.lemmas.List.{append-nil, map-append, take_more}
use Rattle.std.proofs.lemmas.List.Sums.{sum_by-cons}
use Rattle.std.proofs.lemmas.Option.{slice_get-get_or}
use Rattle.std.proofs.lemmas.List.Elements.{filter_map-append}
use Rattle.market_model.specs.declared.command.Command.{Command}
use Rattle.market_model.specs.declared.entry.Entry.{Entry}
use Rattle.market_model.specs.declared.event.Event.{Event}
use Rattle.market_model.specs.declared.reply.Reply.{Reply}
use Rattle.market_model.specs.declared.setup.Setup.{Setup}
use Rattle.market_model.specs.History.{events_of, journal_events}
use Rattle.market_model.specs.Market.{Turn, entry_of, in_turn, in_turn_after, reply_to, run_after, run_of, turn_at}
use Rattle.market_model.specs.Sweep.{all_parts}
use Rattle.market_model.specs.WellFormed.{IsHistory, IsMarketSetup}
use Rattle.laws_of_market.proofs.Journals.{journal_events-more, run-history, run_after-more}
use Rattle.market_text.specs.Commands.{commands_of}
use Rattle.session_journal.proofs.Turns.{turn_count}

-- the turns of one more caller
in_turn_after-more : (commands : List (List Command)) (past callers : List ℕ) (caller : ℕ)
    → in_turn_after commands past (callers ++ caller ∷ [])
    ≡ in_turn_after commands past callers ++ turn_at commands caller (count_by (λ other. other == caller) (past ++ callers)) ∷ []
in_turn_after-more commands past [] caller =
    ap (λ before. turn_at commands caller (count_by (λ other. other == caller) before) ∷ []) (sym (append-nil past))
in_turn_after-more commands past (first ∷ callers) caller =
    let turn = turn_at commands first (count_by (λ other. other == first) past) in
    let rest = in_turn_after commands (past ++ first ∷ []) callers in
    ap (λ turns. turn ∷ turns) (in_turn_after-more commands (past ++ first ∷ []) callers caller)
    ∙ ap (λ before. turn ∷ (rest ++ turn_at commands caller (count_by (λ other. other == caller) before) ∷ [])) (append_assoc past (first ∷ []) callers)

-- so many commands were given, with these entries and this history
pub record IsPlayed (setup : Setup) (commands : List (List Command)) (turns : List ℕ) (played : ℕ) (entries : List Entry) (history : List Event) : Type 0 where
  pub journal : entries ≡ run_of setup (in_turn commands (take played turns))
  pub happened : history ≡ journal_events entries
  pub callers : map (λ entry. entry.caller) entries ≡ take played turns

pub nothing-played : (setup : Setup) (commands : List (List Command)) (turns : List ℕ) → IsPlayed setup commands turns 0 [] []
unfolding run_after
nothing-played setup commands turns = record { journal = refl; happened = refl; callers = refl }

-- how often a caller is among entries
pub count-callers : (entries : List Entry) (caller : ℕ) → count_by (λ entry. entry.caller == caller) entries ≡ turn_count (map (λ (entry : Entry). entry.caller) entries) caller
count-callers [] caller = refl
count-callers (entry ∷ entries) caller =
    sum_by-cons (λ (e : Entry). cond (nat_eq e.caller caller) 1 0) entry entries
    ∙ ap (λ n. cond (nat_eq entry.caller caller) 1 0 + n) (count-callers entries caller)
    ∙ sym (sum_by-cons (λ turn. cond (nat_eq turn caller) 1 0) entry.caller (map (λ (e : Entry). e.caller) entries))

-- the entry of one more command
pub record IsNextEntry (setup : Setup) (commands : List (List Command)) (turns : List ℕ) (played : ℕ) (history : List Event) (entry : Entry) : Type 0 where
  pub caller : entry.caller ≡ get_or turns played 0
  pub place : ℕ
  pub number : entry.nth ≡ place + 1
  pub counted : place ≡ turn_count (take played turns) entry.caller
  pub known : entry.caller < length commands
  pub command : slice_get (commands_of commands entry.caller) place ≡ Some entry.command
  pub reply : entry.reply ≡ reply_to setup history entry.caller entry.command

pub played-more : (setup : Setup) (commands : List (List Command)) (turns : List ℕ) (played : ℕ) (entries : List Entry) (history after : List Event) (entry : Entry)
    → IsPlayed setup commands turns played entries history → played < length turns → IsNextEntry setup commands turns played history entry
    → after ≡ history ++ events_of (reply_to setup history entry.caller entry.command)
    → IsPlayed setup commands turns (played + 1) (entries ++ entry ∷ []) after
played-more setup commands turns played entries history after entry so_far within next grew = record {
  journal = journal;
  happened = grew ∙ ap (λ es. es ++ events_of (reply_to setup history entry.caller entry.command)) so_far.happened
      ∙ ap (λ r. journal_events entries ++ events_of r) (sym next.reply) ∙ sym (journal_events-more entries entry);
  callers = map-append (λ (e : Entry). e.caller) entries (entry ∷ []) ∙ ap (λ cs. cs ++ entry.caller ∷ []) so_far.callers ∙ sym front;
}
  where
    front : take (played + 1) turns ≡ take played turns ++ entry.caller ∷ []
    front = take_more turns played 0 within ∙ ap (λ c. take played turns ++ c ∷ []) (sym next.caller)

    given : Turn
    given = record { caller = entry.caller; command = entry.command }

    turn : turn_at commands entry.caller (turn_count (take played turns) entry.caller) ≡ Some given
    turn =
        ap (λ o. option_map (λ c. record { caller = entry.caller; command = c }) (option_and_then (λ own. slice_get own (turn_count (take played turns) entry.caller)) o))
        (slice_get-get_or commands entry.caller [] next.known)
        ∙ ap (λ n. option_map (λ c. record { caller = entry.caller; command = c }) (slice_get (commands_of commands entry.caller) n)) (sym next.counted)
        ∙ ap (option_map (λ c. record { caller = entry.caller; command = c })) next.command

    turns_more : in_turn commands (take (played + 1) turns) ≡ in_turn commands (take played turns) ++ given ∷ []
    turns_more =
        ap (in_turn commands) front
        ∙ ap (filter_map (λ t. t)) (in_turn_after-more commands [] (take played turns) entry.caller)
        ∙ filter_map-append (λ t. t) (in_turn_after commands [] (take played turns)) (turn_at commands entry.caller (turn_count (take played turns) entry.caller) ∷ [])
        ∙ ap (λ o. in_turn commands (take played turns) ++ filter_map (λ t. t) (o ∷ [])) turn

    before : List Entry
    before = run_of setup (in_turn commands (take played turns))

    nth : count_by (λ e. e.caller == entry.caller) before + 1 ≡ entry.nth
    nth = ap (λ es. count_by (λ e. e.caller == entry.caller) es + 1) (sym so_far.journal)
        ∙ ap (λ n. n + 1) (count-callers entries entry.caller ∙ ap (λ cs. turn_count cs entry.caller) so_far.callers ∙ sym next.counted)
        ∙ sym next.number

    reply : reply_to setup (journal_events before) entry.caller entry.command ≡ entry.reply
    reply = ap (λ es. reply_to setup es entry.caller entry.command) (ap journal_events (sym so_far.journal) ∙ sym so_far.happened) ∙ sym next.reply

    made : entry_of all_parts setup before given ≡ entry
    made = ap (λ (n : ℕ). record { caller = entry.caller; nth = n; command = entry.command; reply = reply_to setup (journal_events before) entry.caller entry.command }) nth
        ∙ ap (λ (r : Reply). record { caller = entry.caller; nth = entry.nth; command = entry.command; reply = r }) reply

    journal : entries ++ entry ∷ [] ≡ run_of setup (in_turn commands (take (played + 1) turns))
    journal =
        ap (λ es. es ++ entry ∷ []) so_far.journal
        ∙ ap (λ e. before ++ e ∷ []) (sym made)
        ∙ sym (run_after-more all_parts setup [] (in_turn commands (take played turns)) given)
        ∙ ap (run_of setup) (sym turns_more)

-- the history of a journal is well-formed
pub played-history : (setup : Setup) → IsMarketSetup setup → (commands : List (List Command)) (turns : List ℕ) (played : ℕ) (entries : List Entry) (history : List Event)
    → IsPlayed setup commands turns played entries history → IsHistory setup history
played-history setup is_setup commands turns played entries history so_far =
    subst (IsHistory setup) (sym (so_far.happened ∙ ap journal_events so_far.journal)) (run-history setup is_setup all_parts (in_turn commands (take played turns)))
