use Rattle.std.proofs.Common.{◌≡◌, sum_by, take}
use Rattle.market_model.specs.declared.setup.Caller.{Caller}
use Rattle.trade_journal.proofs.journal.room_of_all.Given as goal

-- the rooms of the callers so far
abbrev pub invariant-loop-caller : goal.invariant-loop-caller
invariant-loop-caller l = l.most ≡ sum_by (λ (own : Caller). own.room) (take l.caller-index l.callers)
