use Rattle.std.proofs.Common.{◌≡◌, ◌<◌, ℕ, [], get_or, length, true}
use Rattle.cut_proof.specs.ZoneSet.{holds}
use Rattle.local_view.specs.Boards.{view_of}
use Rattle.local_view.specs.Works.{IsLineWork}
use Rattle.local_view.proofs.Resting.{AreMade}
use Rattle.local_view.proofs.filling.list_zones.Given as goal

-- the lists so far are made, where they are to be
abbrev pub invariant-loop-zone : goal.invariant-loop-zone
invariant-loop-zone g l = record {
  work : IsLineWork g.board l.line.part l.line.side l.work;
  of_part : l.work.of_part ≡ l.fn.work.of_part;
  whole : l.work.whole ≡ l.fn.work.whole;
  size : length l.lists ≡ length l.fn.lists;
  before : (k : ℕ) → k < l.zone → holds l.fn.made k ≡ true → get_or l.lists k [] ≡ view_of g.board l.fn.line.part l.fn.line.side k;
  made : AreMade l.grid l.fn.work l.fn.line.side l.fn.made l.zone l.fn.certificates l.certificates l.lists l.resting;
}

-- of the same board
abbrev pub ghost-make_list : goal.ghost-make_list
ghost-make_list g a = g.board
