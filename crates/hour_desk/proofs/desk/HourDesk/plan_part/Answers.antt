use Rattle.std.proofs.Common.{◌≡◌, sym, subst}
use Rattle.desk_views.specs.Desk.{forgotten}
use Rattle.hour_desk.proofs.Views.{forgotten-again}
use Rattle.hour_desk.proofs.desk.HourDesk.plan_part.Goals as goal

pub share_and_refresh-requires-clause-none_next : goal.share_and_refresh-requires-clause-none_next
share_and_refresh-requires-clause-none_next c = subst (λ v. forgotten v ≡ v) (sym c.drop_plan.ensures.views) (forgotten-again c.self.inside.views)
