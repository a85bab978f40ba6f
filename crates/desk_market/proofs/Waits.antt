-- Commands that wait while the turns of their callers come.
use Rattle.std.proofs.Common.{◌≡◌, ◌∙◌, ℕ, zero, suc, ◌+◌, ◌-◌, ◌<◌, Bool, true, false, List, [], ◌∷◌, ◌++◌, drop, get_or, length, map, nat_eq, slice_get, slice_set, take, Some, refl, sym, ap, arith, add-one, eq-eqb, eqb-true, get_or-set_other, get_or-set_same, subst}
use Rattle.std.proofs.lemmas.Bool.{eqb-false}
use Rattle.std.proofs.lemmas.List.{get_or-map, length-map}
use Rattle.std.proofs.Math.ListN.{length-set}
use Rattle.std.proofs.lemmas.List.Sums.{count_by_more_no, count_by_more_yes}
use Rattle.market_model.specs.declared.command.Command.{Command}
use Rattle.market_model.specs.declared.entry.Entry.{Entry}
use Rattle.market_model.specs.declared.setup.Caller.{Caller}
use Rattle.market_model.specs.declared.setup.Setup.{Setup}
use Rattle.market_model.specs.History.{journal_events}
use Rattle.market_model.specs.Market.{entry_of}
use Rattle.market_model.specs.Sweep.{all_parts}
use Rattle.laws_of_market.proofs.Journals.{journal_events-more}
use Rattle.market_text.specs.Commands.{commands_of}
use Rattle.trade_journal.specs.Journals.{made_by, room_of_caller}
use Rattle.session_journal.proofs.Journals.{IsPlayed, count-callers, played-more}
use Rattle.session_journal.proofs.Turns.{turn_comes, turn_count}
use Rattle.desk_market.proofs.Rooms.{room-is}

-- what is left of a list that begins with an item
drop-suc : {X : Type 0} (xs : List X) (k : ℕ) (x : X) (rest : List X) → drop k xs ≡ x ∷ rest → (drop (suc k) xs ≡ rest) × (slice_get xs k ≡ Some x)
drop-suc [] zero x rest is = cc
drop-suc [] (suc k) x rest is = cc
drop-suc (y ∷ xs) zero x rest is = (cc, cc)
drop-suc (y ∷ xs) (suc k) x rest is = drop-suc xs k x rest is

drop-next : {X : Type 0} (xs : List X) (k : ℕ) (x : X) (rest : List X) → drop k xs ≡ x ∷ rest → (drop (k + 1) xs ≡ rest) × (slice_get xs k ≡ Some x)
drop-next xs k x rest is = rw add-one (drop-suc xs k x rest is)

-- nothing is left of a list of no length
pub none-left : {X : Type 0} (xs : List X) → length xs ≡ 0 → xs ≡ []
none-left [] none = refl
none-left (x ∷ xs) none = absurd (omega (arith, none))

-- one of several queues gives its next item
module _ {Q X : Type 0} (items : Q → List X) where
  map-set : (queues : List Q) (k : ℕ) (queue : Q) → map items (slice_set queues k queue) ≡ slice_set (map items queues) k (items queue)
  map-set [] zero queue = refl
  map-set [] (suc k) queue = refl
  map-set (first ∷ queues) zero queue = refl
  map-set (first ∷ queues) (suc k) queue = ap (λ l. items first ∷ l) (map-set queues k queue)

  module _ (queues : List Q) (waiting : List (List X)) (are : map items queues ≡ waiting) (k : ℕ) (known : k < length waiting) (old new : Q)
      (there : old ≡ get_or queues k old) (item : X) (took : items old ≡ item ∷ items new) where
    after-is : map items (slice_set queues k new) ≡ slice_set waiting k (items new)
    after-is = map-set queues k new ∙ ap (λ l. slice_set l k (items new)) are

    left-is : get_or (map items (slice_set queues k new)) k [] ≡ items new
    left-is = ap (λ l. get_or l k []) after-is ∙ get_or-set_same waiting k (items new) [] known

    pub next-given : get_or waiting k [] ≡ item ∷ get_or (map items (slice_set queues k new)) k []
    next-given =
        let count = ap length are in
        let many = length-map queues items in
        ap (λ l. get_or l k []) (sym are) ∙ get_or-map items queues k old [] (omega (arith, count, many, known))
        ∙ ap items (sym there) ∙ took ∙ ap (λ l. item ∷ l) (sym left-is)

    pub others-stay : map items (slice_set queues k new) ≡ slice_set waiting k (get_or (map items (slice_set queues k new)) k [])
    others-stay = after-is ∙ ap (slice_set waiting k) (sym left-is)

drop-some : {X : Type 0} (xs : List X) (k : ℕ) → k < length xs → 0 < length (drop k xs)
drop-some [] k some = absurd (omega (arith, some))
drop-some (x ∷ xs) zero some = some
drop-some (x ∷ xs) (suc k) some = drop-some xs k (omega (arith, some))

-- each caller has still to give what comes behind its commands of the first so many turns
pub record AreWaiting (commands : List (List Command)) (turns : List ℕ) (played : ℕ) (waiting : List (List Command)) : Type 0 where
  pub matched : length waiting ≡ length commands
  pub each : (caller : ℕ) → commands_of waiting caller ≡ drop (turn_count (take played turns) caller) (commands_of commands caller)

pub all-waiting : (commands : List (List Command)) (turns : List ℕ) → AreWaiting commands turns 0 commands
all-waiting commands turns = record { matched = refl; each = λ caller. refl }

module _ (commands : List (List Command)) (turns : List ℕ) (played : ℕ) (waiting : List (List Command)) (so_far : AreWaiting commands turns played waiting) (within : played < length turns) where
  abbrev turn : ℕ
  turn = get_or turns played 0

  -- whose turn it is has a command left
  pub one-waits : length (commands_of commands turn) ≡ turn_count turns turn → 0 < length (commands_of waiting turn)
  one-waits total =
      let left = turn_comes turns played within in
      let some = drop-some (commands_of commands turn) (turn_count (take played turns) turn) (omega (arith, left, total)) in
      subst (λ (own : List Command). 0 < length own) (sym (so_far.each turn)) some

  module _ (command : Command) (after : List (List Command)) (taken : commands_of waiting turn ≡ command ∷ commands_of after turn) where
    own : (drop (turn_count (take played turns) turn + 1) (commands_of commands turn) ≡ commands_of after turn)
        × (slice_get (commands_of commands turn) (turn_count (take played turns) turn) ≡ Some command)
    own = drop-next (commands_of commands turn) (turn_count (take played turns) turn) command (commands_of after turn) (sym (so_far.each turn) ∙ taken)

    -- it is the command of its turn
    pub command-is : slice_get (commands_of commands turn) (turn_count (take played turns) turn) ≡ Some command
    command-is = own.1

    -- the others wait on
    pub others-wait : after ≡ slice_set waiting turn (commands_of after turn) → AreWaiting commands turns (played + 1) after
    others-wait others = record {
      matched = ap length others ∙ length-set waiting turn (commands_of after turn) ∙ so_far.matched;
      each = λ caller.
          elim (nat_eq turn caller) as (λ b. nat_eq turn caller ≡ b → commands_of after caller ≡ drop (turn_count (take (played + 1) turns) caller) (commands_of commands caller)) [
            | true ↦ λ (e : nat_eq turn caller ≡ true).
                let same : turn ≡ caller = eqb-true turn caller e in
                subst (λ (c : ℕ). commands_of after c ≡ drop (turn_count (take (played + 1) turns) c) (commands_of commands c)) same
                (sym own.0 ∙ ap (λ n. drop n (commands_of commands turn)) (sym (count_by_more_yes (λ t. nat_eq t turn) turns played 0 within (eq-eqb turn turn refl))))
            | false ↦ λ (e : nat_eq turn caller ≡ false).
                ap (λ lists. commands_of lists caller) others
                ∙ get_or-set_other waiting turn caller (commands_of after turn) [] (λ other. eqb-false turn caller e (sym other))
                ∙ so_far.each caller
                ∙ ap (λ n. drop n (commands_of commands caller)) (sym (count_by_more_no (λ t. nat_eq t caller) turns played 0 within e))
          ]
          refl;
    }

-- ---- one more command is given

module _ (setup : Setup) (commands : List (List Command)) (turns : List ℕ) (played : ℕ) (entries : List Entry)
    (so_far : IsPlayed setup commands turns played entries (journal_events entries)) (within : played < length turns) where
  -- so many entries of a caller there are as turns it had
  given-count : (caller : ℕ) → made_by entries caller ≡ turn_count (take played turns) caller
  given-count caller = count-callers entries caller ∙ ap (λ cs. turn_count cs caller) so_far.callers

  -- whose turn it is has room for an entry
  pub room-left : map (λ (own : Caller). own.room) setup.callers ≡ map length commands
      → length (commands_of commands (get_or turns played 0)) ≡ turn_count turns (get_or turns played 0)
      → made_by entries (get_or turns played 0) < room_of_caller setup (get_or turns played 0)
  room-left rooms total =
      let had = given-count (get_or turns played 0) in
      let left = turn_comes turns played within in
      let room = room-is setup commands rooms (get_or turns played 0) in
      omega (arith, had, left, room, total)

  -- the entry of its command is the next of the journal
  pub one-more : (command : Command) → get_or turns played 0 < length commands
      → slice_get (commands_of commands (get_or turns played 0)) (turn_count (take played turns) (get_or turns played 0)) ≡ Some command
      → (after : List Entry) → after ≡ entries ++ entry_of all_parts setup entries (record { caller = get_or turns played 0; command = command }) ∷ []
      → IsPlayed setup commands turns (played + 1) after (journal_events after)
  one-more command known there after are =
      let entry = entry_of all_parts setup entries (record { caller = get_or turns played 0; command = command }) in
      subst (λ (es : List Entry). IsPlayed setup commands turns (played + 1) es (journal_events es)) (sym are)
      (played-more setup commands turns played entries (journal_events entries) (journal_events (entries ++ entry ∷ [])) entry so_far within
      (record {
        caller = refl;
        place = made_by entries (get_or turns played 0);
        number = refl;
        counted = given-count (get_or turns played 0);
        known = known;
        command = ap (slice_get (commands_of commands (get_or turns played 0))) (given-count (get_or turns played 0)) ∙ there;
        reply = refl;
      })
      (journal_events-more entries entry))
