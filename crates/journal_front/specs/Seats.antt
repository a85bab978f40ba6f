-- What is kept of the seats: which views their places on the word have.
use Rattle.std.specs.Prelude.{◌≡◌, ℕ, ◌^◌, ◌<◌, ◌≤◌, true, false, List, [], ◌∷◌, length, map}
use Rattle.atomic_table.specs.Seated.{TableId}
use Rattle.atomic_table.specs.Table.{Me}
use Rattle.market_model.specs.declared.entry.Entry.{Entry}
use Rattle.market_model.specs.declared.who.Who.TheVariants as who
use Rattle.market_model.specs.Concerned.{entries_by}
use Rattle.journal_front.specs.declared.view.Standing.{Standing}
use Rattle.journal_front.specs.declared.view.View.{View}
use Rattle.journal_front.specs.Fronts.{DeskSeatState, JournalSeatState, PassSeatState}
use Rattle.journal_front.specs.Steps.{Leads}
use Rattle.journal_front.specs.Views.{fresh, lead_view, seat_view, spent_view}

-- the view of a seat that may have one, and its standing
abbrev pub view_in : List View → View
view_in [] = spent_view
view_in (view ∷ views) = view

abbrev pub first_standing : List Standing → Standing
first_standing [] = fresh (who.Hour 0)
first_standing (standing ∷ standings) = standing

abbrev pub standing_in : View → Standing
standing_in view = first_standing view.standings

-- the journal's seat has its view alone, and holds no slot
abbrev pub journal_state : TableId → Me ℕ View → JournalSeatState
journal_state front me = record { front = front; setup = me.0.setup; entries = me.0.entries }

-- a place on the word is that of the journal's seat
pub record IsLead (me : Me ℕ View) : Type 0 where
  pub leads : Leads me.0
  pub holds_none : me.1 ≡ []

pub record IsJournalPlace (me : Me ℕ View) : Type 0 where
  pub seated : me ≡ (lead_view me.0.setup me.0.entries [], [])
  pub short : length me.0.entries ≤ 2 ^ 31

-- the standing of a desk's seat, and that of a pass's
abbrev pub desk_standing : (hour : ℕ) → List Entry → Standing
desk_standing hour entries = record { who = who.Hour hour; entries = entries; known = 0 }

abbrev pub pass_standing : (caller : ℕ) → List Entry → (known : ℕ) → Standing
pass_standing caller entries known = record { who = who.Caller caller; entries = entries; known = known }

abbrev pub desk_state : TableId → (hour : ℕ) → List View → DeskSeatState
desk_state front hour [] = record { front = front; setup = spent_view.setup; hour = hour; here = false; entries = [] }
desk_state front hour (view ∷ views) = record { front = front; setup = view.setup; hour = hour; here = true; entries = (standing_in view).entries }

-- a desk's seat is away, or has a view of its hour
pub record IsDeskView (hour : ℕ) (view : View) : Type 0 where
  pub seated : view ≡ seat_view view.setup (desk_standing hour (standing_in view).entries)
  pub first : 1 ≤ hour
  pub last : hour ≤ view.setup.hours
  pub short : length (standing_in view).entries ≤ 2 ^ 31

abbrev pub IsDeskPlace : (hour : ℕ) → List View → Type 0
IsDeskPlace hour [] = Unit {0}
IsDeskPlace hour (view ∷ views) = (views ≡ []) × IsDeskView hour view

abbrev pub pass_state : TableId → (caller : ℕ) → List View → PassSeatState
pass_state front caller views =
    let view = view_in views in
    record { front = front; setup = view.setup; caller = caller; entries = (standing_in view).entries; known = (standing_in view).known }

-- a pass's seat has a view of its caller, and counts the caller's entries in its list
pub record IsPassPlace (caller made : ℕ) (views : List View) : Type 0 where
  pub one : views ≡ view_in views ∷ []
  pub seated : view_in views ≡ seat_view (view_in views).setup (pass_standing caller (standing_in (view_in views)).entries (standing_in (view_in views)).known)
  pub known : caller < length (view_in views).setup.callers
  pub counted : made ≡ length (entries_by caller (standing_in (view_in views)).entries)
  pub short : length (standing_in (view_in views)).entries ≤ 2 ^ 31

-- the standing that a desk's seat stands for
abbrev pub standing_of_desk : DeskSeatState → Standing
standing_of_desk seat = desk_standing seat.hour seat.entries

-- the hours of some seats
abbrev pub hours_of : List DeskSeatState → List ℕ
hours_of seats = map (λ seat. seat.hour) seats
