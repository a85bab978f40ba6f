-- How many orders and blocks enter by the entries of a legal journal.
use Rattle.std.proofs.Common.{◌≡◌, ℕ, ◌+◌, ◌-◌, ◌*◌, ◌<◌, ◌≤◌, ◌^◌, Bool, true, false, cond, List, [], ◌∷◌, ◌++◌, count_by, filter, length, map, ap, arith}
use Rattle.std.proofs.lemmas.List.{length-map}
use Rattle.std.proofs.lemmas.List.Sums.{sum_by-append, sum_by-cons}
use Rattle.market_model.specs.declared.entry.Entry.{Entry}
use Rattle.market_model.specs.declared.event.Event.{Event}
use Rattle.market_model.specs.declared.setup.Setup.{Setup}
use Rattle.market_model.specs.Concerned.{left_for}
use Rattle.market_model.specs.History.{entered_count, enters, enters_in, events_of, journal_events, touches}
use Rattle.market_model.specs.Market.{IsLegal, Turn, entry_of, run_after, run_of, turn_of}
use Rattle.market_model.specs.Sweep.{all_parts}
use Rattle.laws_of_market.proofs.Names.{entered_in-few}
use Rattle.laws_of_market.proofs.ReplyEntries.{reply-enters-few}

-- each entry enters at most eight
run-few : (setup : Setup) (before : List Entry) (turns : List Turn) → entered_count (journal_events (run_after all_parts setup before turns)) ≤ 8 * length turns
unfolding run_after
run-few setup before [] = omega arith
run-few setup before (turn ∷ turns) =
    let entry : Entry = entry_of all_parts setup before turn in
    let rest : List Entry = run_after all_parts setup (before ++ entry ∷ []) turns in
    let both : entered_count (events_of entry.reply ++ journal_events rest) ≡ entered_count (events_of entry.reply) + entered_count (journal_events rest) =
    sum_by-append (λ (e : Event). cond (enters e) 1 0) (events_of entry.reply) (journal_events rest) in
    let own : entered_count (events_of entry.reply) ≤ 8 = reply-enters-few setup (journal_events before) turn.caller turn.command in
    let more : entered_count (journal_events rest) ≤ 8 * length turns = run-few setup (before ++ entry ∷ []) turns in
    omega (arith, both, own, more)

-- so do those of a legal journal
legal-few : (setup : Setup) (entries : List Entry) → IsLegal setup entries → entered_count (journal_events entries) ≤ 8 * length entries
legal-few setup entries legal =
    let few = run-few setup [] (map turn_of entries) in
    let same : entered_count (journal_events entries) ≡ entered_count (journal_events (run_of setup (map turn_of entries))) = ap (λ es. entered_count (journal_events es)) legal in
    let long : length (map turn_of entries) ≡ length entries = length-map entries turn_of in
    omega (arith, few, same, long)

-- what is counted in a part of a list is no more than in all of it
filter-few : (p q : Event → Bool) (events : List Event) → count_by p (filter q events) ≤ count_by p events
filter-few p q [] = omega arith
filter-few p q (e ∷ events) = by (q e) (filter-few p q events)
  where
    by : (b : Bool) → count_by p (filter q events) ≤ count_by p events → count_by p (cond b (e ∷ filter q events) (filter q events)) ≤ count_by p (e ∷ events)
    by true rest =
        let all = sum_by-cons (λ (f : Event). cond (p f) 1 0) e events in
        let part = sum_by-cons (λ (f : Event). cond (p f) 1 0) e (filter q events) in
        omega (arith, all, part, rest)
    by false rest = let all = sum_by-cons (λ (f : Event). cond (p f) 1 0) e events in omega (arith, all, rest)

-- an hour has a number left for one that enters, where all entries are few
pub numbers-left : (setup : Setup) (entries : List Entry) (hour most : ℕ) → IsLegal setup entries → length entries ≤ most → 8 * most < 2 ^ 32 - 1
    → count_by (enters_in hour) (left_for hour entries) < 2 ^ 32 - 1
numbers-left setup entries hour most legal within few =
    let all = legal-few setup entries legal in
    let own : count_by (enters_in hour) (journal_events entries) ≤ entered_count (journal_events entries) = entered_in-few (journal_events entries) hour in
    let part = filter-few (enters_in hour) (touches hour) (journal_events entries) in
    omega (arith, all, own, part, within, few)
