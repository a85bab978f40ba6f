use Rattle.std.proofs.Common.{◌∙◌, [], ap, get_or}
use Rattle.local_view.specs.Rows.{LineRows}
use Rattle.local_view.proofs.Chosen.{listed_at}
use Rattle.local_view.proofs.part_views.LineViews.rows.Goals as goal

pub returns : goal.returns
returns c =
    c.rows_of.ensures ∙ ap (λ lists. get_or lists c.args.zone []) c.as_slice.ensures.value
    ∙ listed_at c.self.inside.zones c.self.inside.kept.items c.args.self.now.kept c.args.zone (ap (λ (line : LineRows). line.kept) c.self.view_is) c.requires
