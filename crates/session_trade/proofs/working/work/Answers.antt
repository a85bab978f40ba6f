use Rattle.std.proofs.Common.{Result, Ok, Err, sym, subst}
use Rattle.std.specs.Result.{OnErr}
use Rattle.session_trade.specs.Working.{GaveSome}
use Rattle.session_trade.proofs.Giving.{gave-none, gave-some}
use Rattle.session_trade.proofs.working.work.Goals as goal

pub loop-command-init : goal.loop-command-init
loop-command-init g c = gave-none c.args.pass.now

on_err : {T E P : Type 0} (result : Result T E) → P → OnErr result P
on_err (Ok done) p = tt
on_err (Err fault) p = p

-- a first part was given
pub returns-in_err-give-clause-some : goal.returns-in_err-give-clause-some
returns-in_err-give-clause-some g c =
    let items = c.as_slice-command-items in
    let so_far = gave-some items.result.now c.loop-command.command-index c.args.pass.now c.loop-command.pass c.loop-command.invariant c.loop-command-test.true in
    on_err c.from_residual.result
    (subst (λ cs. GaveSome cs c.args.pass.now c.give.new.pass) items.ensures
    (subst (GaveSome items.result.now c.args.pass.now) (sym c.in_err-give.ensures.unchanged) so_far))
