use Rattle.std.proofs.Common.{◌∙◌, ◌||◌, [], get_or, refl, ap, sym}
use Rattle.std.proofs.lemmas.List.{get_or-replicate}
use Rattle.cut_proof.specs.ZoneSet.{holds}
use Rattle.local_view.proofs.Bits.{holds-zero}
use Rattle.desk_views.specs.Moved.{moves_in}
use Rattle.desk_views.proofs.Lists.{any-range-more}
use Rattle.desk_views.proofs.rooms.moved_zones.Goals as goal

pub loop-border-init : goal.loop-border-init
loop-border-init c = record { many = refl; are = λ part zone low small. ap (λ zones. holds zones zone) (get_or-replicate 7 part 0 0 low) ∙ holds-zero zone }

pub loop-border-preserved : goal.loop-border-preserved
loop-border-preserved c = record {
  many = c.move_if.auto.moved ∙ c.loop-border.invariant.many;
  are = λ part zone low small.
      c.move_if.ensures part zone low small
      ∙ ap (λ b. b || moves_in c.args.grid.now (get_or c.args.old.now part []) (get_or c.args.new.now part []) zone c.loop-border.border) (c.loop-border.invariant.are part zone low small)
      ∙ sym (any-range-more (moves_in c.args.grid.now (get_or c.args.old.now part []) (get_or c.args.new.now part []) zone) c.loop-border.border);
}
