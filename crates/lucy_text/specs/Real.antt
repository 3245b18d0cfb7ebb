-- What contracts see of a source over a reader, and of a sink over a writer.
use Rattle.std.specs.Prelude.{ℕ, Bool}
use Rattle.lucy_text.specs.declared.real.RealSource.{RealSource}
use Rattle.lucy_text.specs.declared.real.RealSink.{RealSink}

-- the reader, as it is now
abbrev pub reader_of : {R : Type 0} → RealSource R → R
reader_of source = source.reader

-- the reader has met its end
abbrev pub has_ended : {R : Type 0} → RealSource R → Bool
has_ended source = source.ended

-- how many reads have failed
abbrev pub read_faults : {R : Type 0} → RealSource R → ℕ
read_faults source = source.faults

-- the writer, as it is now
abbrev pub writer_of : {W : Type 0} → RealSink W → W
writer_of sink = sink.writer

-- how many writes have failed
abbrev pub write_faults : {W : Type 0} → RealSink W → ℕ
write_faults sink = sink.faults
