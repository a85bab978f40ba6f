use mathlib.Core.List.{List}
use mir.Syntax.{named}
use contract.Lifetimes.{Lfts}
use denote.Exit.{no}
use denote.Param.{param}
use denote.Param.Send.{AllSend, IsSend, IsSync, arg_send, mut_slice_send, param_send, param_sync, shr_send, shr_slice_send}
use denote.RattleType.{RattleType}
use denote.Struct.Tuple.{TupleAt}
use Rattle.std.proofs.Common.{◌/◌, drop, length, take, sym, subst, arith}
use Rattle.session_trade.specs.Callers.{AllMayGive}
use Rattle.venue_core.proofs.Crosses.{venue_sync}
use Rattle.session_trade.proofs.Crosses.{captures_send, commands_sync, heap_sync, pass_send}
use Rattle.session_trade.proofs.Halves.{gave-halves, may-back, may-front, may-length}
use Rattle.session_trade.proofs.callers.+halves.Given as given
use Rattle.session_trade.proofs.callers.+halves.Lts-work_of_both as both
use Rattle.session_trade.proofs.callers.+halves.Goals as goal

pub work_of_all-split_at_mut-ahead-requires : goal.work_of_all-split_at_mut-ahead-requires
work_of_all-split_at_mut-ahead-requires g t c =
    let same = may-length c.args.venue.now c.args.commands.now c.args.passes.now c.requires in
    omega (arith, same)

pub work_of_all-work_of_both-requires-clause-first : goal.work_of_all-work_of_both-requires-clause-first
work_of_all-work_of_both-requires-clause-first g t c κs within =
    let venue = c.args.venue.now in
    let middle = length c.args.commands.now / 2 in
    subst (λ cs. AllMayGive venue cs c.split_at_mut-ahead.result.0.now) (sym c.split_at.ensures.front)
    (subst (AllMayGive venue (take middle c.args.commands.now)) (sym c.split_at_mut-ahead.ensures.front)
    (may-front venue middle c.args.commands.now c.args.passes.now c.requires))

pub work_of_all-work_of_both-requires-clause-second : goal.work_of_all-work_of_both-requires-clause-second
work_of_all-work_of_both-requires-clause-second g t c κs within =
    let venue = c.args.venue.now in
    let middle = length c.args.commands.now / 2 in
    subst (λ cs. AllMayGive venue cs c.split_at_mut-ahead.result.1.now) (sym c.split_at.ensures.back)
    (subst (AllMayGive venue (drop middle c.args.commands.now)) (sym c.split_at_mut-ahead.ensures.back)
    (may-back venue middle c.args.commands.now c.args.passes.now c.requires))

pub work_of_all-returns : goal.work_of_all-returns
work_of_all-returns g t c =
    gave-halves c.work_of_both.result c.args.commands.now c.split_at.result.0.now c.split_at.result.1.now
    c.args.passes.now c.split_at_mut-ahead.result.0.now c.split_at_mut-ahead.result.1.now c.work_of_both.new.ahead c.work_of_both.new.behind
    c.split_at.ensures.by_index.0 c.split_at_mut-ahead.ensures.value c.work_of_both.ensures.first c.work_of_both.ensures.second

-- what the closure of one half captures
abbrev captured : (g : given.Over) (κs : Lfts 20) → List RattleType
captured g κs =
    both.of-14 g.row.R g.row.G g.R.laws g.G.laws g.R.Threads-dict g.R.Wait-dict g.G.Gate-dict
    (record { mir = named 8; lft = κs.1.1.1.1.1.1.1.1.0 })
    (record { mir = named 9; lft = κs.1.1.1.1.1.1.1.1.1.0 })
    (record { mir = named 10; lft = κs.1.1.1.1.1.1.1.1.1.1.0 })
    (record { mir = named 11; lft = κs.1.1.1.1.1.1.1.1.1.1.1.0 })
    (record { mir = named 12; lft = κs.1.1.1.1.1.1.1.1.1.1.1.1.0 })
    (record { mir = named 13; lft = κs.1.1.1.1.1.1.1.1.1.1.1.1.1.0 })

half_sends : (g : given.Over) (κs : Lfts 20) → IsSync g.row.R → IsSync g.row.G
    → IsSend (param 1 (both.arg-0-1 g.row.R g.row.G g.R.laws g.G.laws g.R.Threads-dict g.R.Wait-dict g.G.Gate-dict κs))
half_sends g κs threads gates =
    let all : AllSend (captured g κs) = (
      shr_send _ _ _ (param_sync 0 _ threads),
      (
        shr_send _ _ _ heap_sync,
        (
          shr_send _ _ _ venue_sync,
          (
            shr_send _ _ _ (param_sync 1 _ gates),
            (shr_slice_send _ _ _ commands_sync, (mut_slice_send _ _ _ pass_send, tt)),
          ),
        ),
      ),
    ) in
    let name = both.name-21 g.row.R g.row.G g.R.laws g.G.laws g.R.Threads-dict g.R.Wait-dict g.G.Gate-dict in
    param_send 1 _ (arg_send _ no (TupleAt name (captured g κs)) (captures_send name (captured g κs) all))

pub work_of_both-join_mut-one-requires-send-F : goal.work_of_both-join_mut-one-requires-send-F
work_of_both-join_mut-one-requires-send-F g t c κs within =
    let threads : IsSync g.row.R = search in
    let gates : IsSync g.row.G = search in
    half_sends g κs threads gates
