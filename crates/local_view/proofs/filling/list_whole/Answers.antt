use Rattle.std.proofs.Common.{◌∙◌, ◌++◌, List, ap}
use Rattle.market_model.specs.declared.reply.ViewRow.{ViewRow}
use Rattle.local_view.proofs.filling.list_whole.Goals as goal

pub returns-clause-rows : goal.returns-clause-rows
returns-clause-rows c = c.in_ok-extend_from_slice.ensures.items ∙ ap (λ (first : List ViewRow). first ++ c.as_slice.result.now) c.clear.ensures.items ∙ c.as_slice.ensures.value
