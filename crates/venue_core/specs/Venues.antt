-- What contracts see of a venue, which is its front, and of the passes that it gives.
use Rattle.std.specs.Prelude.{◌≡◌, ◌≢◌, ℕ, ◌≤◌, List, [], ◌++◌, length, map, Some}
use Rattle.std.specs.List.{range_with_len}
use Rattle.zone_graph.specs.declared.grid.GridFault.TheVariants as grid
use Rattle.zone_graph.specs.Graph.{Graph}
use Rattle.zone_graph.specs.GridFault.{grid_fault}
use Rattle.zone_graph.specs.Route.{IsIn}
use Rattle.market_model.specs.declared.entry.Entry.{Entry}
use Rattle.market_model.specs.declared.setup.Setup.{Setup}
use Rattle.market_model.specs.Concerned.{entries_by}
use Rattle.market_model.specs.Grid.{graph_of}
use Rattle.journal_front.specs.Fronts.{FrontState, pass_of}
use Rattle.desk_locks.specs.Places.{Place, row_of}
use Rattle.trader_pass.specs.Passes.{IsOf, PassState, pass_of_seat}
use Rattle.venue_core.specs.declared.faults.OpenFault.{OpenFault}
use Rattle.venue_core.specs.declared.faults.OpenFault.TheVariants as fault
use Rattle.venue_core.specs.Setups.{IsOpenSetup}

-- the parts of a venue: its setup, the setup's grid, the row of the desks, and the key of the journal's lock
pub record IsVenue (front : FrontState) (setup : Setup) (graph : Graph) (row : List Place) (key : FrontState) : Type 0 where
  pub same_setup : setup ≡ front.setup
  pub is_open : IsOpenSetup front.setup
  pub over : graph ≡ graph_of front.setup
  pub desks : row ≡ row_of front
  pub same_front : key ≡ front

-- the pass of a caller who has seen nothing yet
abbrev pub first_pass : FrontState → (caller : ℕ) → PassState
first_pass front caller = pass_of_seat (pass_of front [] 0 caller)

-- a venue of a setup was opened, with a pass for each caller, ascending
pub record IsOpenedFor (setup : Setup) (venue : FrontState) (passes : List PassState) : Type 0 where
  pub same_setup : venue.setup ≡ setup
  pub passes_are : passes ≡ map (first_pass venue) (range_with_len 0 (length setup.callers))

-- the cause of a fault: the setup's zones and borders make no grid, for the first reason that there is; of want of
-- memory nothing is said
abbrev pub IsOpenCause : Setup → OpenFault → Type 0
IsOpenCause setup (fault.BadSetup broken) = (grid_fault (graph_of setup) ≡ Some broken) × (broken ≢ grid.NoMemory)
IsOpenCause setup fault.NoMemory = Unit {0}

-- all passes of a venue, by ascending caller
pub record AreAllOf (venue : FrontState) (passes : List PassState) : Type 0 where
  pub callers : map (λ pass. pass.caller) passes ≡ range_with_len 0 (length venue.setup.callers)
  pub own : (pass : PassState) → IsIn pass passes → IsOf venue pass

-- a pass at the end: what it has seen is a beginning of the journal, its own entries are its caller's in the journal,
-- and it was told of no more entries than the journal has
pub record EndsWith (journal : List Entry) (pass : PassState) : Type 0 where
  pub later : List Entry
  pub whole : journal ≡ pass.seen ++ later
  pub mine : pass.mine ≡ entries_by pass.caller journal
  pub known : pass.known ≤ length journal

-- the pass once it was told a number of entries
abbrev pub being_told : PassState → (number : ℕ) → PassState
being_told pass number = record {
  front = pass.front;
  setup = pass.setup;
  caller = pass.caller;
  seen = pass.seen;
  mine = pass.mine;
  known = number;
}
