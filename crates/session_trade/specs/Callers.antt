-- The work of several callers, side by side.
use Rattle.std.specs.Prelude.{List, [], ◌∷◌, length}
use Rattle.market_model.specs.declared.command.Command.{Command}
use Rattle.journal_front.specs.Fronts.{FrontState}
use Rattle.trader_pass.specs.Passes.{IsOf, PassState}
use Rattle.session_trade.specs.Working.{GaveAll, HasRoomFor}

-- of several callers: the pass is of a venue, and the caller has room for its commands
abbrev pub AllMayGive : FrontState → List (List Command) → List PassState → Type 0
AllMayGive venue [] [] = Unit {0}
AllMayGive venue (commands ∷ others) (pass ∷ passes) = IsOf venue pass × HasRoomFor pass (length commands) × AllMayGive venue others passes
AllMayGive venue _ _ = ⊥

-- each of them gave its commands
abbrev pub AllGave : List (List Command) → (olds news : List PassState) → Type 0
AllGave [] [] [] = Unit {0}
AllGave (commands ∷ others) (old ∷ olds) (new ∷ news) = GaveAll commands old new × AllGave others olds news
AllGave _ _ _ = ⊥
