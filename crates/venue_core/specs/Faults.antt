-- What is said of a fault.
use Rattle.std.specs.Prelude.{ℕ, List, ◌++◌, codes, decimal}
use Rattle.zone_graph.specs.GridFault.{fault_text}
use Rattle.venue_core.specs.declared.faults.OpenFault.{OpenFault}
use Rattle.venue_core.specs.declared.faults.OpenFault.TheVariants as opening
use Rattle.venue_core.specs.declared.faults.SubmitFault.{SubmitFault}
use Rattle.venue_core.specs.declared.faults.SubmitFault.TheVariants as submitting

-- why a venue is not opened
abbrev pub opening_text : OpenFault → List ℕ
opening_text (opening.BadSetup broken) = fault_text broken
opening_text opening.NoMemory = codes "no memory"

-- why a command is not submitted
abbrev pub submitting_text : SubmitFault → List ℕ
submitting_text (submitting.JournalFull entries) = codes "the journal is full: the caller has " ++ decimal entries ++ codes " entries"
submitting_text submitting.NoMemory = codes "no memory"
