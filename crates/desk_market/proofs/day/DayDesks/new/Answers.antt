use Rattle.std.proofs.Common.{◌∙◌, ◌+◌, ◌++◌, ◌∷◌, [], List, ap, arith, length, map, sym}
use Rattle.std.specs.List.{range_with_len}
use Rattle.std.proofs.lemmas.List.{length-map}
use Rattle.std.proofs.lemmas.List.FromFn.{length-range_with_len, map-range_with_len_more}
use Rattle.basket_match.specs.Desk.{DeskState, empty_desk}
use Rattle.desk_market.proofs.day.DayDesks.new.Goals as goal

pub invariant_of-result : goal.invariant_of-result
invariant_of-result c =
    let count = ap length c.loop-before.invariant.made ∙ length-map (range_with_len 1 c.loop-before.before) (empty_desk c.args.grid.now) ∙ length-range_with_len 1 c.loop-before.before in
    omega (arith, count)

-- the desk of the next hour goes behind
pub loop-before-preserved : goal.loop-before-preserved
loop-before-preserved c = record {
  made =
      c.in_ok-push.ensures.items
      ∙ ap (λ (ds : List DeskState). ds ++ c.in_ok-new.field-0 ∷ []) c.loop-before.invariant.made
      ∙ ap (λ (d : DeskState). map (empty_desk c.args.grid.now) (range_with_len 1 c.loop-before.before) ++ d ∷ []) c.in_ok-new.ensures
      ∙ sym (map-range_with_len_more (empty_desk c.args.grid.now) 1 c.loop-before.before (c.loop-before.before + 1) (omega arith));
}
