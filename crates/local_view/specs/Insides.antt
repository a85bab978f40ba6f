-- What kept views are inside.
use Rattle.std.specs.Prelude.{ℕ, ◌<◌, ◌^◌, List, length, Option, IfSome}
use Rattle.local_view.specs.declared.part_views.PartViews.{PartViews}
use Rattle.local_view.specs.declared.work.Work.{Work}
use Rattle.local_view.specs.Kept.{AreSized}
use Rattle.local_view.specs.Works.{IsSound}

-- each part and side has rows for each zone, and what a refresh works with is of one size
pub record IsInside (zones : ℕ) (parts : List PartViews) (work : Option Work) : Type 0 where
  pub sized : AreSized zones parts
  pub few : length parts < 2 ^ 32
  pub work_is : IfSome work IsSound
