-- What a source over a reader and a sink over a writer hold.
use Rattle.std.specs.Prelude.{ℕ}
use Rattle.outside.specs.declared.read_source.ReadSource.{ReadSource}
use Rattle.outside.specs.declared.write_sink.WriteSink.{WriteSink}

-- the reader that a source reads from
abbrev pub source_reader : {R : Type 0} → ReadSource R → R
source_reader source = source.reader

-- how many reads of it failed
abbrev pub source_faults : {R : Type 0} → ReadSource R → ℕ
source_faults source = source.faults

-- how many reads of it were made
abbrev pub source_reads : {R : Type 0} → ReadSource R → ℕ
source_reads source = source.reads

-- the writer that a sink writes to
abbrev pub sink_writer : {W : Type 0} → WriteSink W → W
sink_writer sink = sink.writer

-- how many writes to it failed
abbrev pub sink_faults : {W : Type 0} → WriteSink W → ℕ
sink_faults sink = sink.faults
