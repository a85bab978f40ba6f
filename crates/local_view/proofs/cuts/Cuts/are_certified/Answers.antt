use Rattle.std.proofs.Common.{◌∙◌, eqb-true, sym}
use Rattle.local_view.specs.Cuts.{cut_by}
use Rattle.local_view.proofs.Standing.{certified}
use Rattle.local_view.proofs.cuts.Cuts.are_certified.Goals as goal

pub returns : goal.returns
returns g c = λ is_own.
    certified c.args.grid.now c.args.flow.now.of c.args.flow.now.left c.requires.1.1.1.2 c.zones.ensures.grid c.args.side c.args.zone g.line c.args.self.now
    (c.are_closed.ensures c.if-not-are_closed.false) (c.is_balanced.ensures c.if-not-is_balanced.false)
    (sym (eqb-true (cut_by c.args.self.now c.args.zone) c.args.end is_own ∙ c.requires.1.0)) c.requires.0
