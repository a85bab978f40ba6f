-- What the seats on the journal's word know. Each hour and each caller of a setup has its standing: the
-- entries that are current for them, and the greatest number that was loaded for them. A standing is
-- in the view of its own seat, or in that of the journal's seat while its own is joined into it.
use Rattle.std.specs.Prelude.{ℕ, Bool, true, false, ◌==◌, List, [], ◌∷◌, ◌++◌, map, drop, take, count_by, cond, length}
use Rattle.std.specs.List.{range_with_len}
use Rattle.order_kinds.specs.Period.{hours_from}
use Rattle.market_model.specs.declared.entry.Entry.{Entry}
use Rattle.market_model.specs.declared.setup.Setup.{Setup}
use Rattle.market_model.specs.declared.who.Who.{Who}
use Rattle.market_model.specs.declared.who.Who.TheVariants as who
use Rattle.journal_front.specs.declared.view.Standing.{Standing}
use Rattle.journal_front.specs.declared.view.View.{View}

-- two are the same
abbrev pub is_same : Who → Who → Bool
is_same (who.Hour hour) (who.Hour other) = hour == other
is_same (who.Caller caller) (who.Caller other) = caller == other
is_same _ _ = false

-- everyone of a setup: its hours, and then its callers
abbrev pub everyone : Setup → List Who
everyone setup = map who.Hour (hours_from 1 setup.hours) ++ map who.Caller (range_with_len 0 (length setup.callers))

-- the standing of someone whom no entry concerns yet
abbrev pub fresh : Who → Standing
fresh someone = record { who = someone; entries = []; known = 0 }

-- how many standings of someone a view has
abbrev pub times_in : Who → View → ℕ
times_in someone view = count_by (λ standing. is_same someone standing.who) view.standings

-- a view is that of the journal's seat
abbrev pub is_leading : View → Bool
is_leading view = cond view.live view.leads false

-- the view with these standings
abbrev pub with_standings : View → List Standing → View
with_standings view standings = record { setup = view.setup; live = view.live; leads = view.leads; entries = view.entries; standings = standings }

-- the view of a seat of someone's own
abbrev pub seat_view : Setup → Standing → View
seat_view setup standing = record { setup = setup; live = true; leads = false; entries = []; standings = standing ∷ [] }

-- the view of the journal's seat
abbrev pub lead_view : Setup → List Entry → List Standing → View
lead_view setup entries standings = record { setup = setup; live = true; leads = true; entries = entries; standings = standings }

-- the first view: no entry, and everyone's standing
abbrev pub first_view : Setup → View
first_view setup = lead_view setup [] (map fresh (everyone setup))

-- a seat that was joined into another says nothing
abbrev pub spent_view : View
spent_view = record {
  setup = record { hours = 0; zones = []; borders = []; callers = [] };
  live = false;
  leads = false;
  entries = [];
  standings = [];
}

-- what is left of a view whose first standing goes to a seat of its own, and that seat's view
abbrev pub view_left : View → View
view_left view = with_standings view (drop 1 view.standings)

abbrev pub view_dealt : View → View
view_dealt view = record { setup = view.setup; live = true; leads = false; entries = []; standings = take 1 view.standings }

-- a view into which another seat's is joined: its standings come last
abbrev pub view_joined : View → View → View
view_joined view other = with_standings view (view.standings ++ other.standings)

-- the view after an entry: the journal has it, and so has each standing
abbrev pub view_grown : Entry → View → View
view_grown entry view =
    let longer = view.entries ++ entry ∷ [] in
    record { setup = view.setup; live = view.live; leads = view.leads; entries = longer; standings = map (λ standing. record { who = standing.who; entries = longer; known = standing.known }) view.standings }

-- the view after a load: its number is known
abbrev pub view_told : ℕ → View → View
view_told number view = with_standings view (map (λ standing. record { who = standing.who; entries = standing.entries; known = number }) view.standings)
