-- What a sink over memory has taken and what it has counted.
--
--   `written_of`                       the bytes that it took
--   `options_of`, `room_of`            how its writes go, and for how many bytes it has memory
--   `writes_of`, `faults_of`           how many writes there were, and how many failed
use Rattle.std.specs.Prelude.{ℕ, List, vec_capacity}
use Rattle.abs_outside.specs.declared.call_options.CallOptions.{CallOptions}
use Rattle.abs_outside.specs.declared.memory_sink.MemorySink.{MemorySink}

-- the bytes that the sink took, in their order
abbrev pub written_of : MemorySink → List ℕ
written_of sink = sink.written.items

-- how its writes go: the most bytes that one takes, and which fail
abbrev pub options_of : MemorySink → CallOptions
options_of sink = sink.options

-- how many writes there were
abbrev pub writes_of : MemorySink → ℕ
writes_of sink = sink.writes

-- how many writes failed, or took nothing of a piece that was not empty
abbrev pub faults_of : MemorySink → ℕ
faults_of sink = sink.faults

-- for how many bytes in all the sink has memory already
abbrev pub room_of : MemorySink → ℕ
room_of sink = vec_capacity sink.written
