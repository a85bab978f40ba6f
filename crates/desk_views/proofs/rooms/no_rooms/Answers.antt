use Rattle.std.proofs.Common.{◌≡◌, ◌++◌, ◌∷◌, [], get_or, length, length-append, ap, subst, sym, arith}
use Rattle.desk_views.specs.Insides.{HasNoRoom}
use Rattle.desk_views.proofs.Lists.{each-push}
use Rattle.desk_views.proofs.rooms.no_rooms.Goals as goal

pub loop-preserved : goal.loop-preserved
loop-preserved c =
    let is : c.push.new.self.items ≡ c.loop.made.items ++ c.in_ok-rooms.rooms ∷ [] = c.in_ok-push.ensures.items in
    let many = c.loop.invariant.many in
    let longer : length c.push.new.self.items ≡ length (c.loop.made.items ++ c.in_ok-rooms.rooms ∷ []) = ap length is in
    record {
      many = omega (arith, longer, many, length-append c.loop.made.items (c.in_ok-rooms.rooms ∷ []));
      each = λ part low.
          subst (λ items. HasNoRoom c.args.grid.now (get_or items part [])) (sym is)
          (each-push (HasNoRoom c.args.grid.now) [] c.loop.made.items c.in_ok-rooms.rooms (λ k less. c.loop.invariant.each k (omega (arith, less, many)))
          (c.in_ok-rooms.ensures.size, c.in_ok-rooms.ensures.rooms) part (omega (arith, low, many)));
    }
