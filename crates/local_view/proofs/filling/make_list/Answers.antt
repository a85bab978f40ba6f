use Rattle.std.proofs.Common.{◌∙◌}
use Rattle.local_view.proofs.Resting.{rest-told}
use Rattle.local_view.proofs.filling.make_list.Goals as goal

pub returns-then-is_whole-clause-rest : goal.returns-then-is_whole-clause-rest
returns-then-is_whole-clause-rest g c = λ is.
    let work = c.requires.1.1.1.0 in
    rest-told c.args.grid.now g.board c.args.line.part c.args.line.side c.requires.0 c.args.zone c.requires.1.0 c.args.work.now work _ c.copy_rows.new.list
    (c.in_ok-copy_rows.ensures ∙ c.as_slice.ensures.value ∙ work.read.rows)
