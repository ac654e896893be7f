-- Which writer a sink writes to, and what it has counted.
--
--   `written_of`           the bytes that were written: not reported
--   `faults_of`            how many writes failed
--   `writer_of`            the writer
use Rattle.std.specs.Prelude.{ℕ, List, Option, None}
use Rattle.abs_outside.specs.declared.stream_sink.StreamSink.{StreamSink}

-- the bytes that were written are not reported, since the writer has them
abbrev pub written_of : {W : Type 0} → StreamSink W → Option (List ℕ)
written_of sink = None

-- how many writes failed, or took nothing of a piece that was not empty
abbrev pub faults_of : {W : Type 0} → StreamSink W → ℕ
faults_of sink = sink.faults

-- the writer that it hands the pieces to
abbrev pub writer_of : {W : Type 0} → StreamSink W → W
writer_of sink = sink.writer
