-- How many hours a command touches.
use Rattle.std.proofs.Common.{◌≡◌, ◌∙◌, ℕ, ◌+◌, ◌-◌, ◌<◌, ◌≤◌, List, length, nat_le, nat_lt, true, sym, ap, arith}
use Rattle.std.proofs.lemmas.Bool.{and_parts, leb-true, ltb-true}
use Rattle.std.proofs.lemmas.List.{length-map}
use Rattle.std.proofs.lemmas.List.FromFn.{length-range_with_len}
use Rattle.order_kinds.specs.Period.{hours_from}
use Rattle.zone_graph.specs.Graph.{Graph}
use Rattle.market_model.specs.declared.command.Command.{Command}
use Rattle.market_model.specs.declared.command.Command.TheVariants as command
use Rattle.market_model.specs.declared.setup.Setup.{Setup}
use Rattle.market_model.specs.Rules.{hours_concerned, period_is_good}
use Rattle.laws_of_market.proofs.Admitted.{naming-none}
use Rattle.laws_of_market.proofs.Uses.{not_after-hours}
use Rattle.hour_desk.specs.Desk.{DeskState}
use Rattle.joint_plan.specs.Kinds.{IsJoint}
use Rattle.joint_plan.specs.Rows.{AreAsked}
use Rattle.joint_plan.proofs.Asked.{asked-hours}
use Rattle.joint_plan.proofs.Histories.{early-naming}

some-hours : (first last : ℕ) → first ≤ last → 0 < length (hours_from first last)
some-hours first last up = omega (arith, length-range_with_len first (last + 1 - first))

-- a command of several hours touches one at least
concerned-some : (given : Command) → IsJoint given → period_is_good given ≡ true → 0 < length (hours_concerned given)
concerned-some (command.Offer from to first last lots) joint good = some-hours first.hour last.hour (not_after-hours first last good)
concerned-some (command.Request from to first last lots) joint good = some-hours first.hour last.hour (not_after-hours first last good)
concerned-some (command.Halt from to first last) joint good = some-hours first last (leb-true first last good)
concerned-some (command.Resume from to first last) joint good = some-hours first last (leb-true first last good)
concerned-some (command.Blocks first last) joint good =
    let less = ltb-true first last (and_parts (nat_lt first last) (nat_le (last + 1 - first) 24) good).0 in some-hours first last (omega arith)
concerned-some (command.EnterBlock order) joint good =
    let less = ltb-true order.first order.last (and_parts (nat_lt order.first order.last) (nat_le (order.last + 1 - order.first) 24) good).0 in
    some-hours order.first order.last (omega arith)
concerned-some _ joint good = absurd joint

module _ (setup : Setup) (graph : Graph) (caller : ℕ) (given : Command) (desks : List DeskState) (asked : AreAsked setup graph caller given desks) where
  pub asked-length : length desks ≡ length (hours_concerned given)
  asked-length = sym (length-map desks (λ (desk : DeskState). desk.hour)) ∙ ap (λ (l : List ℕ). length l) (asked-hours setup graph caller given desks asked)

  pub asked-some : IsJoint given → 0 < length desks
  asked-some joint =
      omega (arith, asked-length, concerned-some given joint (naming-none setup caller given (early-naming setup caller given asked.early)).period)
