use Rattle.std.proofs.Common.{◌∙◌, ◌+◌, ◌-◌, refl, ap, subst, sym, arith}
use Rattle.zone_graph.specs.Rooms.{room_of}
use Rattle.local_view.specs.declared.draft.Flow.{Flow}
use Rattle.local_view.specs.Drafts.{AreKept}
use Rattle.local_view.proofs.Drafting.{kept-both}
use Rattle.local_view.proofs.draft.Flow.pass.Goals as goal

pub returns-clause-kept : goal.returns-clause-kept
returns-clause-kept c =
    subst (AreKept c.args.self.now.left) (sym (ap (λ (flow : Flow). flow.left) c.lead-2.ensures ∙ ap (λ (flow : Flow). flow.left) c.lead.ensures))
    (λ arc.
    kept-both c.args.self.now.left c.args.self.now.left c.set.new.self c.set-2.new.self c.args.arc c.opposite-2.result (c.at-spare.result - c.min-lots.result) (c.at.result + c.min-lots.result)
    c.set.ensures.rooms c.set-2.ensures.rooms c.opposite-2.ensures
    (omega (arith, c.at-spare.ensures, c.at.ensures, ap (room_of c.args.self.now.left) c.opposite.ensures, c.min-lots.ensures)) arc (λ apart. refl))
