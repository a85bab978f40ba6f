-- What a desk keeps of an hour for its views, and what becomes of it.
use Rattle.std.specs.Prelude.{ℕ, List, Option, None, unwrap_or}
use Rattle.local_view.specs.Kept.{Views, views_adopted, views_forgotten}

-- the views, the rooms of each part as pairs by border, and those that are next, where there are such
pub record DeskState : Type 0 where
  pub views : Views
  pub rooms : List (List (ℕ × ℕ))
  pub next : Option (List (List (ℕ × ℕ)))

-- what is next becomes what is kept, and is dropped
abbrev pub adopted : DeskState → DeskState
adopted desk = record { views = views_adopted desk.views; rooms = unwrap_or desk.next desk.rooms; next = None }

abbrev pub forgotten : DeskState → DeskState
forgotten desk = record { views = views_forgotten desk.views; rooms = desk.rooms; next = None }

-- the views, and a desk's, with so many lists of rows computed
abbrev pub views_with_made : Views → (made : ℕ) → Views
views_with_made views made = record { zones = views.zones; lines = views.lines; made = made }

abbrev pub with_made : DeskState → (made : ℕ) → DeskState
with_made desk made = record { views = views_with_made desk.views made; rooms = desk.rooms; next = desk.next }
