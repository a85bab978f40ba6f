use Rattle.std.proofs.Common.{◌≡◌, ◌+◌, ◌<◌, ◌∷◌, [], length, set, ap, ◌∙◌, arith, length-append}
use Rattle.order_pool.specs.Rows.{padded}
use Rattle.order_pool.proofs.RowLemmas.{padded-push, padded-set}
use Rattle.order_pool.proofs.links.store.Goals as goal

pub loop-made-preserved : goal.loop-made-preserved
loop-made-preserved c =
    let before = c.loop-made.stored in
    let number = c.args.first + c.loop-made.made in
    let longer : length c.push.new.self.items ≡ c.loop-made.made + 1 = omega (arith, ap length c.push.ensures.items, length-append before.items (number ∷ []), c.loop-made.invariant.made) in
    let room = before.room in
    record {
      same = ap (λ n. padded c.push.new.self.items c.args.first n) c.push.ensures.room
          ∙ ap (λ l. padded l c.args.first before.room) c.push.ensures.items
          ∙ padded-push before.items c.args.first before.room number (omega (arith, c.loop-made.invariant.made)) (omega (arith, c.loop-made.invariant.made, c.loop-made.invariant.room, c.requires.within, c.loop-made-test.true))
          ∙ c.loop-made.invariant.same;
      made = longer;
      within = omega (arith, longer, c.push.ensures.room, c.loop-made.invariant.room, c.requires.within, c.loop-made-test.true);
      room = c.push.ensures.room ∙ c.loop-made.invariant.room;
    }

pub returns-clause-set : goal.returns-clause-set
returns-clause-set c =
    let before = c.loop-made.stored in
    let reached : c.args.index < length before.items = omega (arith, c.loop-made.invariant.made, c.loop-made-test.false) in
    ap (λ s. padded s.items c.args.first s.room) c.set.ensures
    ∙ padded-set before.items c.args.first before.room c.args.index c.args.number reached
    ∙ ap (λ l. set l c.args.index c.args.number) c.loop-made.invariant.same
