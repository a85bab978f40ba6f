use Rattle.std.proofs.Common.{◌≡◌, ◌++◌, [], map}
use Rattle.journal_front.specs.Views.{lead_view}
use Rattle.journal_front.proofs.Commits.{standing_of_pass}
use Rattle.journal_front.proofs.front.Front.close.Given as goal

abbrev pub invariant-loop-pass : goal.invariant-loop-pass
invariant-loop-pass l = record {
  can : (goal.iterator-loop-pass).can_next l.pass-iterator;
  finite : (goal.iterator-loop-pass).is_finite l.pass-iterator;
  parts : l.yielded ++ l.pass-iterator.rest.items ≡ l.fn.passes;
  place : l.place.table_id ≡ l.fn.journal.front;
  lead : l.place.me ≡ (lead_view l.fn.journal.setup l.fn.journal.entries (map standing_of_pass l.yielded), []);
}
