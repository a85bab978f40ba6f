use Rattle.std.proofs.Common.{◌∙◌, map, subst, sym, ap}
use Rattle.kept_hour.specs.State.{HourState}
use Rattle.desk_changes.specs.StillOpen.{CanEnd, withdrawal}
use Rattle.desk_changes.proofs.Ending.{gated-can}
use Rattle.desk_changes.proofs.Planning.{gate-planned}
use Rattle.desk_changes.proofs.closing.gate.Goals as goal

pub withdraw_all-requires-clause-can : goal.withdraw_all-requires-clause-can
withdraw_all-requires-clause-can c =
    subst (λ (h : HourState). CanEnd h.board c.as_slice.result.now) (sym c.in_ok-gate.ensures.gated)
    (gated-can c.args.hour.now.board c.as_slice.result.now c.args.phase
    (subst (CanEnd c.args.hour.now.board) (sym c.as_slice.ensures.value) c.in_ok-open.ensures.can) c.requires.next)

pub returns-in-Ok-clause-planned : goal.returns-in-Ok-clause-planned
returns-in-Ok-clause-planned c =
    gate-planned c.args.hour.now c.gate.new.self c.withdraw_all.new.hour c.args.phase c.as_slice.result.now c.requires.unplanned c.in_ok-gate.ensures.gated
    (ap (map (withdrawal c.args.hour.now.board.hour)) c.as_slice.ensures.value ∙ c.in_ok-open.ensures.withdrawals)
    c.in-Ok.ensures.withdrawn c.in-Ok.ensures.quiet
