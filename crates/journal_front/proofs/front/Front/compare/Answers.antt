use Rattle.std.proofs.Common.{◌∙◌, ap, sym}
use Rattle.journal_front.proofs.front.Front.compare.Goals as goal

pub compare_desks-requires-clause-own : goal.compare_desks-requires-clause-own
compare_desks-requires-clause-own g c = λ seat there.
    let own = c.requires.seats seat there in
    let same = ap (λ state. state.setup) c.journal.view_is ∙ c.requires.journal.same_setup in record {
      same_front = own.same_front ∙ sym (ap (λ front. front.id) c.self.view_is);
      same_setup = own.same_setup ∙ sym same;
      in_place = own.in_place;
    }
