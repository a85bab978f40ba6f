use Rattle.std.proofs.Common.{◌∙◌, refl, sym, ap, subst, arith}
use Rattle.order_kinds.specs.declared.side.Side.TheVariants.{Buy, Sell}
use Rattle.zone_graph.specs.Rooms.{room_of}
use Rattle.local_view.specs.Nearness.{WereViews, near_count}
use Rattle.local_view.specs.Rows.{LineRows}
use Rattle.desk_views.specs.Desk.{views_with_made}
use Rattle.desk_views.proofs.Outcomes.{on_err, on_ok, on_ok_both}
use Rattle.desk_views.proofs.Rows.{forgotten-again, same-count, same-zones}
use Rattle.desk_views.proofs.Steps.{kept-through, made-through, side-more}
use Rattle.desk_views.proofs.refreshing.refresh_part.Goals as goal

pub refresh_line-requires-clause-none_next : goal.refresh_line-requires-clause-none_next
refresh_line-requires-clause-none_next c = c.requires.none_next Buy

pub refresh_line-requires-2-clause-zones : goal.refresh_line-requires-2-clause-zones
refresh_line-requires-2-clause-zones c =
    c.requires.zones ∙ sym (same-zones c.refresh_line.new.views (views_with_made c.args.views.now c.refresh_line.new.views.made) c.refresh_line.ensures.kept)

pub refresh_line-requires-2-clause-parts : goal.refresh_line-requires-2-clause-parts
refresh_line-requires-2-clause-parts c =
    c.requires.parts ∙ sym (same-count c.refresh_line.new.views (views_with_made c.args.views.now c.refresh_line.new.views.made) c.refresh_line.ensures.kept)

pub refresh_line-requires-2-clause-part : goal.refresh_line-requires-2-clause-part
refresh_line-requires-2-clause-part c =
    let many = same-count c.refresh_line.new.views (views_with_made c.args.views.now c.refresh_line.new.views.made) c.refresh_line.ensures.kept in
    let low = c.requires.part in
    omega (arith, low, many)

pub refresh_line-requires-2-clause-near : goal.refresh_line-requires-2-clause-near
refresh_line-requires-2-clause-near c =
    subst (λ (l : LineRows). WereViews c.args.hour.now.board c.args.part Sell c.args.sells c.args.rooms.now l.kept)
    (sym (c.in_ok-refresh_line.ensures.others c.args.part Sell (λ same. refl))) c.requires.near_sells

pub refresh_line-requires-2-clause-none_next : goal.refresh_line-requires-2-clause-none_next
refresh_line-requires-2-clause-none_next c =
    ap (λ (l : LineRows). l.next) (c.in_ok-refresh_line.ensures.others c.args.part Sell (λ same. refl)) ∙ c.requires.none_next Sell

pub returns-clause-next : goal.returns-clause-next
returns-clause-next c =
    on_ok_both c.refresh_line-2.result
    (side-more c.args.hour.now.board c.refresh_line.new.views c.refresh_line-2.new.views c.args.part c.in_ok-refresh_line.ensures.next)
    c.refresh_line-2.ensures.next c.refresh_line-2.ensures.others

pub returns-clause-others : goal.returns-clause-others
returns-clause-others c =
    on_ok c.refresh_line-2.result
    (λ others other side apart.
    others other side (λ same. absurd (apart same)) ∙ c.in_ok-refresh_line.ensures.others other side (λ same. absurd (apart same)))
    c.refresh_line-2.ensures.others

pub returns-clause-kept : goal.returns-clause-kept
returns-clause-kept c = kept-through c.args.views.now c.refresh_line.new.views c.refresh_line-2.new.views c.refresh_line.ensures.kept c.refresh_line-2.ensures.kept

pub returns-clause-made : goal.returns-clause-made
returns-clause-made c =
    on_ok c.refresh_line-2.result
    (made-through c.args.views.now.made c.refresh_line.new.views.made c.refresh_line-2.new.views.made
    (near_count c.args.grid.now (room_of c.args.rooms.now) Buy c.args.buys) (near_count c.args.grid.now (room_of c.args.rooms.now) Sell c.args.sells)
    c.in_ok-refresh_line.ensures.made)
    c.refresh_line-2.ensures.made

pub returns-clause-still : goal.returns-clause-still
returns-clause-still c = λ buys sells.
    let second = c.refresh_line-2.ensures.still sells in
    (second.0, second.1 ∙ (c.refresh_line.ensures.still buys).1)

pub returns-clause-failed : goal.returns-clause-failed
returns-clause-failed c = on_err c.refresh_line-2.result (forgotten-again c.refresh_line.new.views c.refresh_line-2.new.views) c.refresh_line-2.ensures.failed
