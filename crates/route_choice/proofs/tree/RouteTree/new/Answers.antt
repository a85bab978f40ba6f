use Rattle.route_choice.proofs.FromSearch.{within_at_first}
use Rattle.route_choice.proofs.tree.RouteTree.new.Goals as goal

pub search-requires-clause-within : goal.search-requires-clause-within
search-requires-clause-within c = within_at_first c.new.result.steps c.new.ensures.steps
