-- The store of an hour, as its callers see it.
use Rattle.std.specs.Prelude.{ℕ, List, reverse}
use Rattle.hour_store.specs.declared.change.Change.{Change}
use Rattle.hour_store.specs.Contents.{Contents}
use Rattle.hour_store.specs.TakenBack.{LeadsBack}

-- what is kept, the changes that were noted from the first to the last, and how many more can be
-- noted without taking memory
pub record Store : Type 0 where
  pub contents : Contents
  pub changes : List Change
  pub spare : ℕ

-- the noted changes of a store lead back to a target
abbrev pub GoesBackTo : Store → (target : Contents) → Type 0
GoesBackTo store target = LeadsBack (reverse store.changes) store.contents target

-- whatever the noted changes led back to, they still do
abbrev pub StillLeadsBack : (old new : Store) → Type 0
StillLeadsBack old new = (target : Contents) → GoesBackTo old target → GoesBackTo new target
