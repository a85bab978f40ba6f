use Rattle.std.proofs.Common.{◌≡◌, [], drop, map}
use Rattle.std.specs.List.{range_with_len}
use Rattle.journal_front.specs.Fronts.{desk_of}
use Rattle.journal_front.specs.Views.{everyone, fresh, lead_view}
use Rattle.journal_front.proofs.opening.first_desks.Given as goal

abbrev pub invariant-loop-before : goal.invariant-loop-before
invariant-loop-before l = record {
  place : l.lead.table_id ≡ l.word.table_id;
  lead : l.lead.me ≡ (lead_view l.word.key [] (drop l.before (map fresh (everyone l.word.key))), []);
  desks : l.desks ≡ map (desk_of (record { id = l.word.table_id; setup = l.word.key }) []) (range_with_len 1 l.before);
}
