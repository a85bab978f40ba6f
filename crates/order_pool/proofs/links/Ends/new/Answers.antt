use Rattle.std.proofs.Common.{[], ◌++◌, sym, ap, ◌∙◌}
use Rattle.order_pool.specs.Rows.{padded}
use Rattle.order_pool.proofs.RowLemmas.{fresh_links}
use Rattle.order_pool.proofs.links.Ends.new.Goals as goal

pub returns-clause-len : goal.returns-clause-len
returns-clause-len c =
    let shown = sym (ap (λ s. padded s.items 0 s.room ++ padded c.in_ok-marks.marks.items 4096 c.in_ok-marks.marks.room) c.in_ok-places.ensures ∙ ap (λ s. padded [] 0 4096 ++ padded s.items 4096 s.room) c.in_ok-marks.ensures) in
    (fresh_links _ c.args.marks shown).0

pub returns-clause-each : goal.returns-clause-each
returns-clause-each c =
    let shown = sym (ap (λ s. padded s.items 0 s.room ++ padded c.in_ok-marks.marks.items 4096 c.in_ok-marks.marks.room) c.in_ok-places.ensures ∙ ap (λ s. padded [] 0 4096 ++ padded s.items 4096 s.room) c.in_ok-marks.ensures) in
    (fresh_links _ c.args.marks shown).1
