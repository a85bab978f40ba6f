use Rattle.std.proofs.Common.{◌<◌, ◌≤◌, ◌+◌, ◌-◌, vec_len}
use Rattle.std.specs.Io.KnownBytes.{Consumes}
use Rattle.session_io.specs.Reading.{ReadsWithin}
use Rattle.session_io.proofs.reading.read_all.Given as goal

-- the bytes so far are those that came, and no more reads were made than they are, nor more than are allowed
abbrev pub invariant-loop-source : goal.invariant-loop-source
invariant-loop-source g l =
    let source = g.S.Source in
    Consumes (source.left l.initial.source) (source.left l.source) l.bytes.items
    × (source.faults l.initial.source ≤ source.faults l.source)
    × (0 < vec_len l.piece)
    × (source.reads l.source ≤ source.reads l.initial.source + vec_len l.bytes)
    × ReadsWithin l.most (source.reads l.initial.source) (source.reads l.source)

-- each read but the last adds a byte at least
abbrev pub decreases-loop-source : goal.decreases-loop-source
decreases-loop-source g l = l.most + 1 - vec_len l.bytes
