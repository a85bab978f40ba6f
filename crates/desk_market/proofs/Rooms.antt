-- The rooms of the callers of a session.
use Rattle.std.proofs.Common.{◌≡◌, ◌∙◌, ℕ, zero, suc, ◌*◌, ◌+◌, ◌≤◌, List, [], ◌∷◌, get_or, length, map, nat_eq, refl, sym, ap, arith}
use Rattle.std.specs.List.{slice_get, sum, sum_by}
use Rattle.std.specs.Option.{option_map}
use Rattle.std.specs.Prelude.{unwrap_or}
use Rattle.std.proofs.Math.ListN.{get_or-map}
use Rattle.std.proofs.lemmas.List.{length-map}
use Rattle.std.proofs.lemmas.List.Sums.{count_by-le-length, sum-map, sum_by-cons}
use Rattle.market_model.specs.declared.command.Command.{Command}
use Rattle.market_model.specs.declared.setup.Caller.{Caller}
use Rattle.market_model.specs.declared.setup.Setup.{Setup}
use Rattle.market_text.specs.Commands.{commands_of}
use Rattle.market_text.specs.Session.{IsSession}
use Rattle.market_text.specs.declared.session.Session.{Session}
use Rattle.session_journal.proofs.Once.{as-many}
use Rattle.trade_journal.specs.Journals.{all_rooms, room_of_caller}

room-at : (callers : List Caller) (k : ℕ) → unwrap_or (option_map (λ (own : Caller). own.room) (slice_get callers k)) 0 ≡ get_or (map (λ (own : Caller). own.room) callers) k 0
room-at [] zero = refl
room-at [] (suc k) = refl
room-at (own ∷ callers) zero = refl
room-at (own ∷ callers) (suc k) = room-at callers k

lists-few : (lists : List (List Command)) → ((k : ℕ) → length (get_or lists k []) ≤ 262144) → sum_by length lists ≤ length lists * 262144
lists-few [] few = omega arith
lists-few (list ∷ lists) few =
    let first = few 0 in
    let rest = lists-few lists (λ k. few (suc k)) in
    let sums = sum_by-cons length list lists in
    omega (arith, first, rest, sums)

module _ (setup : Setup) (commands : List (List Command)) (rooms : map (λ (own : Caller). own.room) setup.callers ≡ map length commands) where
  -- a caller has room for its commands
  pub room-is : (caller : ℕ) → room_of_caller setup caller ≡ length (commands_of commands caller)
  room-is caller = room-at setup.callers caller ∙ ap (λ ns. get_or ns caller 0) rooms ∙ get_or-map length commands caller []

  all-is : all_rooms setup ≡ sum_by length commands
  all-is = sym (sum-map (λ (own : Caller). own.room) setup.callers) ∙ ap sum rooms ∙ sum-map length commands

-- the callers of a session have few commands together
pub rooms-few : (session : Session) → IsSession session → all_rooms session.setup ≤ 64 * 262144
rooms-few session is =
    let all = all-is session.setup session.commands is.rooms in
    let most = lists-few session.commands each in
    let callers = is.few_callers in
    let matched = is.matched in
    omega (arith, all, most, callers, matched)
  where
    each : (k : ℕ) → length (get_or session.commands k []) ≤ 262144
    each k =
        let own = as-many session is k in
        let most = count_by-le-length (λ turn. nat_eq turn k) session.turns in
        let few = is.few in
        omega (arith, own, most, few)
