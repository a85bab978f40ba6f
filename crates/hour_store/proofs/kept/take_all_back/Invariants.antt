use Rattle.std.proofs.Common.{◌≡◌, ◌+◌, length}
use Rattle.hour_store.specs.Contents.{Contents}
use Rattle.hour_store.specs.Inside.{CanGoBack, IsKept, LogLeadsBack, contents_of}
use Rattle.hour_store.proofs.kept.take_all_back.Given as goal

-- what is left of the log leads back to whatever it led back to
abbrev pub invariant-loop-change : goal.invariant-loop-change
invariant-loop-change l = record {
  kept : IsKept (contents_of l.kept);
  can : CanGoBack l.log.records (contents_of l.kept);
  back : (target : Contents) → LogLeadsBack l.fn.log.records (contents_of l.fn.kept) target → LogLeadsBack l.log.records (contents_of l.kept) target;
  spare : l.log.spare + length l.log.records ≡ l.fn.log.spare + length l.fn.log.records;
}

-- each record is one less
abbrev pub decreases-loop-change : goal.decreases-loop-change
decreases-loop-change l = length l.log.records
