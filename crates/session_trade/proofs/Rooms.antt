-- Each caller of a session has room for its commands.
use Rattle.std.proofs.Common.{◌≡◌, ◌∙◌, ℕ, zero, suc, ◌≤◌, List, [], ◌∷◌, get_or, length, map, slice_get, sum_by, unwrap_or, refl, sym, ap, arith}
use Rattle.std.specs.List.{sum}
use Rattle.std.specs.Option.{option_map}
use Rattle.std.proofs.Math.ListN.{get_or-map}
use Rattle.std.proofs.lemmas.List.Sums.{sum-map}
use Rattle.market_model.specs.declared.setup.Caller.{Caller}
use Rattle.market_text.specs.declared.session.Session.{Session}
use Rattle.market_text.specs.Commands.{commands_of}
use Rattle.market_text.specs.Session.{IsSession}
use Rattle.trade_journal.specs.Journals.{all_rooms, room_of_caller}
use Rattle.session_journal.proofs.TakingTurns.{own-turns, turns-many}

room-at : (callers : List Caller) (k : ℕ) → unwrap_or (option_map (λ (own : Caller). own.room) (slice_get callers k)) 0 ≡ get_or (map (λ (own : Caller). own.room) callers) k 0
room-at [] zero = refl
room-at [] (suc k) = refl
room-at (own ∷ callers) zero = refl
room-at (own ∷ callers) (suc k) = room-at callers k

module _ (session : Session) (is : IsSession session) where
  -- a caller has room for its commands
  pub room-is : (caller : ℕ) → room_of_caller session.setup caller ≡ length (commands_of session.commands caller)
  room-is caller = room-at session.setup.callers caller ∙ ap (λ ns. get_or ns caller 0) is.rooms ∙ get_or-map length session.commands caller []

  -- and all together for all
  pub rooms-few : all_rooms session.setup ≤ 262144
  rooms-few =
      let all : all_rooms session.setup ≡ sum_by length session.commands =
      sym (sum-map (λ (own : Caller). own.room) session.setup.callers) ∙ ap sum is.rooms ∙ sum-map length session.commands in
      let many = turns-many session is session.turns (own-turns session is) in
      let few = is.few in
      omega (arith, all, many, few)
