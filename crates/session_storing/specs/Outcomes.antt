-- How a session that is not stored, or not recovered, ends a run.
use Rattle.session_io.specs.declared.status.Status.{Status}
use Rattle.session_io.specs.declared.status.Status.TheVariants as status

-- a session was not stored, and the run ends so
abbrev pub EndsStoring : Status → Type 0
EndsStoring status.NoMemory = Unit {0}
EndsStoring status.DiskFault = Unit {0}
EndsStoring status.TooLong = Unit {0}
EndsStoring (status.BadImage place) = Unit {0}
EndsStoring _ = ⊥

-- stored lines were not played
abbrev pub EndsPlaying : Status → Type 0
EndsPlaying status.NoMemory = Unit {0}
EndsPlaying (status.Illegal entry) = Unit {0}
EndsPlaying _ = ⊥

-- a session was not recovered
abbrev pub EndsRecovering : Status → Type 0
EndsRecovering status.NoMemory = Unit {0}
EndsRecovering status.DiskFault = Unit {0}
EndsRecovering status.TooLong = Unit {0}
EndsRecovering (status.Illegal entry) = Unit {0}
EndsRecovering (status.BadImage place) = Unit {0}
EndsRecovering _ = ⊥
