use Rattle.std.proofs.lemmas.Bool.{false≢true}
use Rattle.std.proofs.Common.{◌∙◌, ◌^◌, ◌<◌, [], get_or, refl, sym, ap, arith}
use Rattle.order_kinds.specs.declared.side.Side.TheVariants.{Buy, Sell}
use Rattle.zone_graph.proofs.Places.{at_any}
use Rattle.local_view.specs.Kept.{line_of}
use Rattle.local_view.specs.Rows.{LineRows}
use Rattle.desk_views.specs.Desk.{views_with_made}
use Rattle.desk_views.specs.Moved.{touched_of}
use Rattle.desk_views.proofs.Rows.{none-next, same-count, same-zones}
use Rattle.desk_views.proofs.Steps.{kept-through, part-more, were-again}
use Rattle.desk_views.proofs.Sums.{made-more, made-none}
use Rattle.desk_views.proofs.refreshing.refresh_lines.Goals as goal

pub loop-part-init : goal.loop-part-init
loop-part-init c = record {
  kept = refl;
  done = λ part side low. absurd (let no : ⊥ = omega (arith, low) in no);
  rest = λ part side low. refl;
  made = (let low : c.args.views.now.made < 2 ^ 64 = omega (arith, c.made.ensures) in made-none c.args.views.now.made low);
  still = λ none. refl;
}

pub refresh_part-requires-clause-zones : goal.refresh_part-requires-clause-zones
refresh_part-requires-clause-zones c = c.requires.zones ∙ sym (same-zones c.loop-part.views (views_with_made c.args.views.now c.loop-part.views.made) c.loop-part.invariant.kept)

pub refresh_part-requires-clause-parts : goal.refresh_part-requires-clause-parts
refresh_part-requires-clause-parts c = c.requires.parts ∙ sym (same-count c.loop-part.views (views_with_made c.args.views.now c.loop-part.views.made) c.loop-part.invariant.kept)

pub refresh_part-requires-clause-part : goal.refresh_part-requires-clause-part
refresh_part-requires-clause-part c =
    let many = same-count c.loop-part.views (views_with_made c.args.views.now c.loop-part.views.made) c.loop-part.invariant.kept in
    let seven = c.requires.seven in
    let low = c.loop-part-test.true in
    omega (arith, many, seven, low)

pub refresh_part-requires-clause-near_buys : goal.refresh_part-requires-clause-near_buys
refresh_part-requires-clause-near_buys c =
    let low = c.loop-part-test.true in
    let many = c.requires.rooms in
    were-again c.args.hour.now.board c.loop-part.part Buy (touched_of c.args.changed.now c.args.moved.now c.loop-part.part Buy) c.touched-buys.result (get_or c.args.rooms.now c.loop-part.part []) c.index-rooms-part.result (line_of c.args.views.now c.loop-part.part Buy).kept
    (line_of c.loop-part.views c.loop-part.part Buy).kept
    (c.requires.near c.loop-part.part Buy low) c.touched-buys.ensures (c.index-rooms-part.is ∙ at_any c.args.rooms.now c.loop-part.part c.index-rooms-part.result [] (omega (arith, low, many)))
    (ap (λ (l : LineRows). l.kept) (c.loop-part.invariant.rest c.loop-part.part Buy (omega arith)))

pub refresh_part-requires-clause-near_sells : goal.refresh_part-requires-clause-near_sells
refresh_part-requires-clause-near_sells c =
    let low = c.loop-part-test.true in
    let many = c.requires.rooms in
    were-again c.args.hour.now.board c.loop-part.part Sell (touched_of c.args.changed.now c.args.moved.now c.loop-part.part Sell) c.touched-sells.result (get_or c.args.rooms.now c.loop-part.part []) c.index-rooms-part.result (line_of c.args.views.now c.loop-part.part Sell).kept
    (line_of c.loop-part.views c.loop-part.part Sell).kept
    (c.requires.near c.loop-part.part Sell low) c.touched-sells.ensures (c.index-rooms-part.is ∙ at_any c.args.rooms.now c.loop-part.part c.index-rooms-part.result [] (omega (arith, low, many)))
    (ap (λ (l : LineRows). l.kept) (c.loop-part.invariant.rest c.loop-part.part Sell (omega arith)))

pub refresh_part-requires-clause-none_next : goal.refresh_part-requires-clause-none_next
refresh_part-requires-clause-none_next c = λ side.
    ap (λ (l : LineRows). l.next) (c.loop-part.invariant.rest c.loop-part.part side (omega arith)) ∙ none-next c.args.views.now c.requires.none_next c.loop-part.part side

pub loop-part-preserved : goal.loop-part-preserved
loop-part-preserved c = record {
  kept = kept-through c.args.views.now c.loop-part.views c.refresh_part.new.views c.loop-part.invariant.kept c.refresh_part.ensures.kept;
  done = part-more c.args.hour.now.board c.loop-part.views c.refresh_part.new.views c.loop-part.part c.loop-part.invariant.done c.in_ok-refresh_part.ensures.next
      c.in_ok-refresh_part.ensures.others;
  rest = λ part side low.
      c.in_ok-refresh_part.ensures.others part side (λ same. omega (arith, same, low))
      ∙ c.loop-part.invariant.rest part side (omega (arith, low));
  made =
      (let low = c.loop-part-test.true in
      let many = c.requires.rooms in
      made-more c.args.grid.now c.args.rooms.now (touched_of c.args.changed.now c.args.moved.now) c.loop-part.part c.index-rooms-part.result c.touched-buys.result c.touched-sells.result
      c.args.views.now.made c.loop-part.views.made c.refresh_part.new.views.made (c.index-rooms-part.is ∙ at_any c.args.rooms.now c.loop-part.part c.index-rooms-part.result [] (omega (arith, low, many))) c.touched-buys.ensures
      c.touched-sells.ensures c.loop-part.invariant.made c.in_ok-refresh_part.ensures.made);
  still = λ none.
      (c.refresh_part.ensures.still (c.touched-buys.ensures ∙ none c.loop-part.part Buy c.loop-part-test.true) (c.touched-sells.ensures ∙ none c.loop-part.part Sell c.loop-part-test.true)).1
      ∙ c.loop-part.invariant.still none;
}

pub returns-in_err-refresh_part-clause-still : goal.returns-in_err-refresh_part-clause-still
returns-in_err-refresh_part-clause-still c = λ none.
    absurd
    (false≢true
    (c.in_err-refresh_part.ensures.still (c.touched-buys.ensures ∙ none c.loop-part.part Buy c.loop-part-test.true) (c.touched-sells.ensures ∙ none c.loop-part.part Sell c.loop-part-test.true)).0)
