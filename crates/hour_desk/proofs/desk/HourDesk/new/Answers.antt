use Rattle.hour_desk.proofs.Desks.{new-inside}
use Rattle.hour_desk.proofs.desk.HourDesk.new.Goals as goal

pub invariant_of-result : goal.invariant_of-result
invariant_of-result c =
    new-inside c.in_ok-kept.kept c.in_ok-views.views c.args.grid.now c.args.hour c.in_ok-kept.ensures (c.in_ok-views.ensures.stand c.args.hour) c.in_ok-views.ensures.none_next
