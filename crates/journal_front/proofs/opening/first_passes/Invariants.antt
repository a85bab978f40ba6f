use Rattle.std.proofs.Common.{◌≡◌, [], drop, map}
use Rattle.std.specs.List.{range_with_len}
use Rattle.market_model.specs.declared.who.Who.TheVariants as who
use Rattle.journal_front.specs.Fronts.{pass_of}
use Rattle.journal_front.specs.Views.{fresh, lead_view}
use Rattle.journal_front.proofs.opening.first_passes.Given as goal

abbrev pub invariant-loop-caller : goal.invariant-loop-caller
invariant-loop-caller l = record {
  place : l.lead.table_id ≡ l.word.table_id;
  lead : l.lead.me ≡ (lead_view l.word.key [] (drop l.caller (map fresh (map who.Caller (range_with_len 0 l.callers)))), []);
  passes : l.passes ≡ map (pass_of (record { id = l.word.table_id; setup = l.word.key }) [] 0) (range_with_len 0 l.caller);
}
