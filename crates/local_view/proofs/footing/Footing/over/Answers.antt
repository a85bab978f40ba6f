use Rattle.std.proofs.Common.{◌∙◌, ap, length, refl, subst, sym}
use Rattle.zone_graph.specs.Route.{IsIn}
use Rattle.local_view.specs.Drafts.{IsFlow}
use Rattle.local_view.specs.Footing.{certificate_at}
use Rattle.local_view.specs.Ways.{HasWays}
use Rattle.local_view.proofs.footing.Footing.over.Goals as goal

pub returns-clause-over : goal.returns-clause-over
returns-clause-over c =
    let ends = c.in_ok-note_borders.ensures in
    record {
      side_is = refl;
      ends_are = ends;
      sized = record {
        rooms_are = c.in_ok-new.ensures.size ∙ sym (ap length ends);
        count = c.in_ok-certificates_over.ensures.count;
        flows = λ zone less. subst (λ borders. IsFlow borders (certificate_at c.in_ok-certificates_over.field-0.items zone).flow) (sym (ap length ends)) (c.in_ok-certificates_over.ensures.flows zone less);
        orders_in = λ order i. absurd (subst (IsIn order) c.new-2.ensures.items i);
        ways_are = λ graph same. subst (HasWays graph) (sym c.in_ok-new-2.ensures.ok) (c.none.ensures graph);
      };
    }
