-- What a store always keeps. No public clause cites this module.
use Rattle.std.specs.Prelude.{◌≡◌, List, reverse}
use Rattle.contract_book.specs.Book.{parts_of}
use Rattle.hour_store.specs.declared.change.Change.{Change}
use Rattle.hour_store.specs.declared.kept.Kept.{Kept}
use Rattle.hour_store.specs.Contents.{Contents, NothingOverdrawn, OffersInRange}
use Rattle.hour_store.specs.TakenBack.{LeadsBack}

-- what is kept, as contracts see it
abbrev pub contents_of : Kept → Contents
contents_of kept = record { book = kept.book; blocks = kept.blocks; flows = kept.flows }

-- the book has the seven parts of an hour, and the flows are within what is offered
pub record IsKept (contents : Contents) : Type 0 where
  pub parts : parts_of contents.book ≡ 7
  pub drawn : NothingOverdrawn contents.flows
  pub offers : OffersInRange contents.flows

-- the changes of a log, noted from the first to the last, lead back to a target
abbrev pub LogLeadsBack : List Change → (now target : Contents) → Type 0
LogLeadsBack changes now target = LeadsBack (reverse changes) now target

-- there are contents to which they lead back
pub record CanGoBack (changes : List Change) (now : Contents) : Type 0 where
  pub target : Contents
  pub leads : LeadsBack (reverse changes) now target
