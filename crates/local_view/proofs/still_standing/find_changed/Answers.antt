use Rattle.std.proofs.Common.{◌∙◌, ◌+◌, Global, Vec, ℕ, ap, arith, subst, sym}
use Rattle.zone_graph.specs.Rooms.{room_of}
use Rattle.local_view.proofs.Changed.{AreFound, none_changed, one_changed}
use Rattle.local_view.proofs.still_standing.find_changed.Goals as goal
use Rattle.local_view.proofs.still_standing.find_changed.Goals.{then-not-are_same+in_ok-push, else-not-are_same}

pub loop-border-preserved : goal.loop-border-preserved
loop-border-preserved c =
    let old = room_of c.args.old.now in
    let new = room_of c.args.new.now in
    let border = c.loop-border.border in
    let changed = c.loop-border.changed.items in
    elim c.if-not-are_same.branch [
      | then-not-are_same+in_ok-push w ↦
          subst (AreFound old new (border + 1)) (sym (ap (λ (list : Vec ℕ Global). list.items) w.changed-is ∙ w.in_ok-push.ensures.items)) (one_changed old new border changed c.loop-border.invariant)
      | else-not-are_same w ↦
          subst (AreFound old new (border + 1)) (sym (ap (λ (list : Vec ℕ Global). list.items) w.changed-is))
          (none_changed old new border changed (c.are_same.ensures w.if-not-are_same.false) c.loop-border.invariant)
    ]

pub returns-clause-within : goal.returns-clause-within
returns-clause-within c = λ border i. let less = c.loop-border.invariant.within border i in omega (arith, less, c.loop-border.auto.border-end, c.borders-border-end.ensures.count)
