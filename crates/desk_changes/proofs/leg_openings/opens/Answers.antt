use Rattle.std.proofs.Common.{◌∙◌, ◌||◌, suc, Bool, false, add-one, drop, get_or, sym, ap}
use Rattle.std.proofs.Math.Seq.{drop-cons}
use Rattle.std.specs.List.{list_any}
use Rattle.zone_graph.specs.declared.route.Arc.{Arc}
use Rattle.zone_graph.proofs.Places.{at_place}
use Rattle.laws_of_joint_commands.specs.PeriodRooms.{hour_room}
use Rattle.desk_changes.specs.LegOpenings.{is_shut_back}
use Rattle.desk_changes.proofs.leg_openings.opens.Goals as goal

abbrev no_arc : Arc
no_arc = record { border = 0; forward = false }

pub is_shut_back-requires : goal.is_shut_back-requires
is_shut_back-requires c =
    c.requires (get_or c.args.route.now c.loop-arc.arc-index no_arc) (at_place c.args.route.now c.loop-arc.arc-index no_arc c.loop-arc-test.true)

pub returns-then-is_shut_back : goal.returns-then-is_shut_back
returns-then-is_shut_back c =
    let p : Arc → Bool = is_shut_back (hour_room c.args.hour.now.board.events c.args.hour.now.board.hour) in
    let route = c.args.route.now in
    let k = c.loop-arc.arc-index in
    sym (c.loop-arc.invariant ∙ ap (list_any p) (drop-cons route k no_arc c.loop-arc-test.true)
    ∙ ap (λ b. b || list_any p (drop (suc k) route)) (sym c.is_shut_back.ensures ∙ c.if-is_shut_back.true))

pub loop-arc-preserved : goal.loop-arc-preserved
loop-arc-preserved c =
    let p : Arc → Bool = is_shut_back (hour_room c.args.hour.now.board.events c.args.hour.now.board.hour) in
    let route = c.args.route.now in
    let k = c.loop-arc.arc-index in
    c.loop-arc.invariant ∙ ap (list_any p) (drop-cons route k no_arc c.loop-arc-test.true)
    ∙ ap (λ b. b || list_any p (drop (suc k) route)) (sym c.is_shut_back.ensures ∙ c.if-is_shut_back.false)
    ∙ ap (λ n. list_any p (drop n route)) (sym (add-one k))
